-- A file of points that is read byte by byte.
use Rattle.std.proofs.Common.{◌≡◌, ◌≢◌, ℕ, ◌+◌, ◌≤◌, ◌<◌, List, [], ◌∷◌, ◌++◌, length, Option}
use Rattle.std.proofs.Common.{Result, Ok, Err, OnOk}
use Rattle.std.proofs.Common.{sym, ◌∙◌, ap, ap₂, subst, arith, append_assoc, length-append}
use Rattle.mesh_defs.specs.declared.point.Point.{Point}
use Rattle.roam_script.specs.declared.limits.TheConstants.{MOST_LINE_BYTES}
use Rattle.roam_script.specs.declared.script_fault.ScriptFault.{ScriptFault}
use Rattle.roam_script.specs.declared.script_fault.ScriptFault.TheVariants.{LineTooLong, TooManyLines}
use Rattle.roam_script.specs.PointText.{most_points, point_in, LatePointsAreTooMany, LongPointsAreTooLong}
use Rattle.run_laws.specs.Walk.{Refusal}
use Rattle.run_laws.specs.PointFile.{with_point, points_in, PointPlace, HavePointsCome, TakesPoints}
use Rattle.run_laws.proofs.CertFileLemmas.{place}
use Rattle.run_laws.proofs.PointFileLemmas.{refusal_at, point-line, point-refused, point-settled}
use Rattle.run_laws.proofs.PointFileLemmas.{points-closed, points-refused}
use Rattle.run_files.specs.declared.points_file.PointStop.{PointStop}
use Rattle.run_files.specs.PointStage.{stops}

-- an answer that takes nothing
abbrev stopped : PointStop → Result (Unit {0}) PointStop
stopped stop = Err stop

-- refusals are told as they are
same-why : (one other : Refusal) → stops one ≡ stops other → one ≡ other
same-why one other e =
    let line : one.line ≡ other.line = cc in
    let fault : one.fault ≡ other.fault = cc in
    ap₂ (λ k w. refusal_at k w) line fault

same-stop : (one other : PointStop) → stopped one ≡ stopped other → one ≡ other
same-stop one other e = cc

-- a refusal by its number and its fault
whole-refusal : (why : Refusal) (line : ℕ) → why.line ≡ line → refusal_at line why.fault ≡ why
whole-refusal why line is = ap (λ (k : ℕ). refusal_at k why.fault) (sym is)

module _ (n : ℕ) (read : List ℕ) (old : PointPlace) (come : HavePointsCome n read old) where
  -- the line that has begun ended
  pub takes-line : (new : PointPlace) (answer : Result (Unit {0}) PointStop)
      → OnOk answer ((at : Option Point) × (point_in n (old.lines + 1) old.begun ≡ Ok at)
      × (new.said ≡ with_point old.said at))
      → OnOk answer (new.lines ≡ old.lines + 1) → OnOk answer (new.begun ≡ [])
      → ((why : Refusal) → answer ≡ Err (stops why) → (why.line ≡ old.lines + 1)
      × (point_in n (old.lines + 1) old.begun ≡ Err why.fault))
      → TakesPoints n stops (read ++ 10 ∷ []) new answer
  takes-line new (Ok u) is lines part refuses =
      record {
        ok = subst (λ (s : List Point). HavePointsCome n (read ++ 10 ∷ []) (place s new.lines new.begun)) (sym is.2)
            (subst (λ (k : ℕ). HavePointsCome n (read ++ 10 ∷ []) (place (with_point old.said is.0) k new.begun))
            (sym lines)
            (subst (λ (l : List ℕ).
            HavePointsCome n (read ++ 10 ∷ []) (place (with_point old.said is.0) (old.lines + 1) l))
            (sym part) (point-line n read old come is.0 is.1)));
        refusal = λ why e. cc;
      }
  takes-line new (Err stop) is lines part refuses = record {
    ok = tt;
    refusal = λ why e more. (let r = refuses why e in
        point-refused n read old come why.fault r.1 more
        ∙ ap (λ (w : Refusal). Err w) (whole-refusal why (old.lines + 1) r.0));
  }

  -- a byte with which the line is refused, whatever follows
  takes-settled : (byte : ℕ) (fault : ScriptFault) (new : PointPlace) → byte ≢ 10
      → ((tail : List ℕ) → point_in n (old.lines + 1) ((old.begun ++ byte ∷ []) ++ tail) ≡ Err fault)
      → TakesPoints {T = Unit {0}} n stops (read ++ byte ∷ []) new (Err (stops (refusal_at (old.lines + 1) fault)))
  takes-settled byte fault new other settled = record {
    ok = tt;
    refusal = λ why e more. point-settled n read old come byte fault other settled more
        ∙ ap (λ (w : Refusal). Err w) (same-why (refusal_at (old.lines + 1) fault) why (same-stop _ _ e));
  }

  -- a line too many has begun
  pub takes-late : LatePointsAreTooMany → (byte : ℕ) (new : PointPlace) → byte ≢ 10 → most_points n < old.lines + 1
      → TakesPoints {T = Unit {0}} n stops (read ++ byte ∷ []) new
      (Err (stops (refusal_at (old.lines + 1) TooManyLines)))
  takes-late late byte new other many = takes-settled byte TooManyLines new other
      (λ tail. (late n (old.lines + 1) ((old.begun ++ byte ∷ []) ++ tail)).1 many)

  -- a byte too many
  pub takes-long : LongPointsAreTooLong → (byte : ℕ) (new : PointPlace) → byte ≢ 10 → old.lines + 1 ≤ most_points n
      → MOST_LINE_BYTES ≤ length old.begun
      → TakesPoints {T = Unit {0}} n stops (read ++ byte ∷ []) new
      (Err (stops (refusal_at (old.lines + 1) LineTooLong)))
  takes-long law byte new other few long = takes-settled byte LineTooLong new other
      (λ tail. (law n (old.lines + 1) ((old.begun ++ byte ∷ []) ++ tail) few).1
      (let e = length-append (old.begun ++ byte ∷ []) tail in let f = length-append old.begun (byte ∷ []) in
      omega (arith, e, f, long)))

  -- the file ended in a line that is refused
  pub ends-refused : (why : Refusal) → old.begun ≢ [] → (why.line ≡ old.lines + 1)
      × (point_in n (old.lines + 1) old.begun ≡ Err why.fault) → points_in n read ≡ Err why
  ends-refused why some is = points-refused n read old come why.fault some is.1
      ∙ ap (λ (w : Refusal). Err w) (whole-refusal why (old.lines + 1) is.0)

  -- or in one that is accepted
  pub ends-line : (points : List Point) → old.begun ≢ [] → ((at : Option Point)
      × (point_in n (old.lines + 1) old.begun ≡ Ok at) × (points ≡ with_point old.said at)) →
      points_in n read ≡ Ok points
  ends-line points some is = points-closed n read old come is.0 some is.1
      ∙ ap (λ (l : List Point). Ok l) (sym is.2)

-- what is refused with some bytes is refused with more
pub takes-longer : (n : ℕ) (bytes tail whole : List ℕ) (old new : PointPlace) (stop : PointStop) → whole ≡ bytes ++ tail
    → TakesPoints {T = Unit {0}} n stops bytes old (Err stop) →
    TakesPoints {T = Unit {0}} n stops whole new (Err stop)
takes-longer n bytes tail whole old new stop is takes = record {
  ok = tt;
  refusal = λ why e more. ap (λ (l : List ℕ). points_in n (l ++ more)) is
      ∙ (ap (points_in n) (append_assoc bytes tail more) ∙ takes.refusal why e (tail ++ more));
}
