-- A file of lines that is read byte by byte.
use Rattle.std.proofs.Common.{◌≡◌, ◌≢◌, ℕ, ◌+◌, ◌≤◌, List, [], ◌∷◌, ◌++◌, take, drop, length, Option, Some, None}
use Rattle.std.proofs.Common.{Result, Ok, Err, IfOk, OnOk, sym, ◌∙◌, ap, subst, append_assoc}
use Rattle.roam_script.specs.declared.limits.TheConstants.{MOST_LINE_BYTES}
use Rattle.run_laws.specs.CertFile.{FilePlace, HaveCome, TakesLines, EndsLines}
use Rattle.run_laws.proofs.CertFileLemmas.{IsFormat, place, come-line, refused-line, refused-byte, file-end, file-last}
use Rattle.run_laws.proofs.CertFileLemmas.{refused-last}

-- the number of a line, as an answer
abbrev refused : {C : Type 0} → ℕ → Result C ℕ
refused line = Err line

abbrev stopped : {E : Type 0} → E → Result (Unit {0}) E
stopped stop = Err stop

same-stop : {E : Type 0} (one other : E) → stopped one ≡ stopped other → one ≡ other
same-stop one other e = cc

module _ {S C E : Type 0} (step : S → List ℕ → Option S) (start : S) (finish : S → Result C ℕ)
    (file : List ℕ → Result C ℕ)
    (format : IsFormat step start finish file) (bad : ℕ → E) (one_line : (i j : ℕ) → bad i ≡ bad j → i ≡ j) where
  module _ (read : List ℕ) (old : FilePlace S) (come : HaveCome step start read old) where
    -- the line that has begun ended
    pub takes-line : (new : FilePlace S) (answer : Result (Unit {0}) E)
        → OnOk answer (step old.said old.begun ≡ Some new.said) → OnOk answer (new.lines ≡ old.lines + 1) →
        OnOk answer (new.begun ≡ [])
        → ((line : ℕ) → answer ≡ Err (bad line) → step old.said old.begun ≡ None)
        → ((line : ℕ) → answer ≡ Err (bad line) → line ≡ old.lines + 1) →
        TakesLines step start file bad (read ++ 10 ∷ []) new answer
    takes-line new (Ok u) is lines part refuses number =
        let P : ℕ → Type 0 = λ k. HaveCome step start (read ++ 10 ∷ []) (place new.said k []) in
        let Q : List ℕ → Type 0 = λ l. HaveCome step start (read ++ 10 ∷ []) (place new.said new.lines l) in
        record {
          ok = subst Q (sym part)
              (subst P (sym lines) (come-line step start finish file format read old come new.said is));
          bad_line = λ line e. cc;
        }
    takes-line new (Err stop) is lines part refuses number = record {
      ok = tt;
      bad_line = λ line e more. refused-line step start finish file format read old come (refuses line e) more
          ∙ ap (refused {C = C}) (sym (number line e));
    }

    -- a byte is one too many
    pub takes-long : (byte : ℕ) (new : FilePlace S) → byte ≢ 10 → MOST_LINE_BYTES ≤ length old.begun
        → TakesLines {T = Unit {0}} step start file bad (read ++ byte ∷ []) new (Err (bad (old.lines + 1)))
    takes-long byte new other long = record {
      ok = tt;
      bad_line = λ line e more. refused-byte step start finish file format read old come byte other long more
          ∙ ap (refused {C = C}) (one_line (old.lines + 1) line (same-stop (bad (old.lines + 1)) (bad line) e));
    }

    -- the file ended behind whole lines
    pub ends-whole : (answer : Result C E) → old.begun ≡ [] → IfOk answer (λ whole. finish old.said ≡ Ok whole)
        → ((line : ℕ) → answer ≡ Err (bad line) → finish old.said ≡ Err line) → EndsLines file bad read answer
    ends-whole (Ok whole) none ok refuses = record {
      ok = file-end step start finish file format read old come none ∙ ok;
      bad_line = λ line e. cc;
    }
    ends-whole (Err stop) none ok refuses = record {
      ok = tt;
      bad_line = λ line e. file-end step start finish file format read old come none ∙ refuses line e;
    }

    -- the file ended in a line
    pub ends-line : (next : S) (answer : Result C E) → old.begun ≢ [] → step old.said old.begun ≡ Some next
        → IfOk answer (λ whole. finish next ≡ Ok whole) →
        ((line : ℕ) → answer ≡ Err (bad line) → finish next ≡ Err line) → EndsLines file bad read answer
    ends-line next (Ok whole) some is ok refuses = record {
      ok = file-last step start finish file format read old come next some is ∙ ok;
      bad_line = λ line e. cc;
    }
    ends-line next (Err stop) some is ok refuses =
        record {
          ok = tt;
          bad_line = λ line e. file-last step start finish file format read old come next some is ∙ refuses line e;
        }

    -- the file ended in a line that is refused
    pub ends-refused : (stop : E) → old.begun ≢ []
        → ((line : ℕ) → stopped stop ≡ Err (bad line) → step old.said old.begun ≡ None)
        → ((line : ℕ) → stopped stop ≡ Err (bad line) → line ≡ old.lines + 1) → EndsLines file bad read (Err stop)
    ends-refused stop some refuses number = record {
      ok = tt;
      bad_line = λ line e. refused-last step start finish file format read old come some (refuses line (again line e))
          ∙ ap (refused {C = C}) (sym (number line (again line e)));
    }
      where
        again : (line : ℕ) → (let a : Result C E = Err stop in a) ≡ Err (bad line) → stopped stop ≡ Err (bad line)
        again line e = ap stopped (same e)
          where
            same : (let a : Result C E = Err stop in a) ≡ Err (bad line) → stop ≡ bad line
            same f = cc

  -- what is refused with some bytes is refused with more
  pub takes-longer : (bytes tail whole : List ℕ) (old new : FilePlace S) (stop : E) → whole ≡ bytes ++ tail
      → TakesLines {T = Unit {0}} step start file bad bytes old (Err stop) →
      TakesLines {T = Unit {0}} step start file bad whole new (Err stop)
  takes-longer bytes tail whole old new stop is takes = record {
    ok = tt;
    bad_line = λ line e more. ap (λ (l : List ℕ). file (l ++ more)) is
        ∙ (ap file (append_assoc bytes tail more) ∙ takes.bad_line line e (tail ++ more));
  }
