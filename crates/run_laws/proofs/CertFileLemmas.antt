-- How far a file of lines was read, byte by byte: what one byte more does to the place that was reached, and what the
-- whole file is.
use Rattle.std.proofs.Common.{◌≡◌, ◌≢◌, ℕ, ◌+◌, ◌<◌, ◌≤◌, Bool, List, [], ◌∷◌, ◌++◌, length, Option, Some, None, Result}
use Rattle.std.proofs.Common.{Ok, Err, if◌then◌else◌, refl, sym, ◌∙◌, ap, subst, inl, inr, arith, append_assoc}
use Rattle.std.proofs.Common.{append-nil, length-append}
use Rattle.std.proofs.lemmas.Bool.{lt-ltb}
use Rattle.std.proofs.lemmas.List.Elements.{All-from_recursion}
use Rattle.roam_script.specs.declared.limits.TheConstants.{MOST_LINE_BYTES}
use Rattle.text_laws.specs.Fields.{fields_of, without_last_cr}
use Rattle.cert_text.specs.CertLine.{cert_fields_line, read_cert_line}
use Rattle.cert_text.specs.CertReader.{ReadSoFar, nothing_read, line_taken, cert_line_in}
use Rattle.cert_text.specs.FitLine as fit_line
use Rattle.cert_text.specs.FitCertReader.{fit_line_in}
use Rattle.cert_text.specs.FitCertReader as fit
use Rattle.cert_text.specs.NeedLine.{need_fields, need_in}
use Rattle.cert_text.specs.KeptCert.{kept_line_in}
use Rattle.cert_text.specs.KeptCert as kept
use Rattle.run_laws.specs.Walk.{lines_of, AreWhole}
use Rattle.run_laws.specs.CertFile.{lines_behind, lines_in, file_in, FilePlace, HaveCome, cert_of, cert_in, fit_cert_of}
use Rattle.run_laws.specs.CertFile.{fit_cert_in, kept_cert_of, kept_cert_in}
use Rattle.run_laws.proofs.LineLemmas.{NoEnd, no_end, no_end-append, lines_of-ends, lines_of-only, lines_of-begins}
use Rattle.run_laws.proofs.LineLemmas.{BeginsWith}
use Rattle.run_laws.proofs.WalkLemmas.{lines_of-ended}

-- what lines say

-- what the next line says, and those behind it
abbrev lines_next : {S : Type 0} → (S → List ℕ → Option S) → ℕ → List (List ℕ) → Option S → Result S ℕ
lines_next {S = S} step number lines answer =
    elim answer as (λ _. Result S ℕ) [ None ↦ Err number | Some next ↦ lines_behind step (number + 1) next lines ]

no-refusal : {S : Type 0} (number : ℕ) (said : S) → let refused : Result S ℕ = Err number in refused ≡ Ok said → ⊥
no-refusal number said e = cc

same-said : {S : Type 0} (one other : S) → let said : Result S ℕ = Ok one in said ≡ Ok other → one ≡ other
same-said one other e = cc

-- behind accepted lines the others go on
lines_behind-append : {S : Type 0} (step : S → List ℕ → Option S) (number : ℕ) (said last : S) (xs ys : List (List ℕ)) →
    lines_behind step number said xs ≡ Ok last
    → lines_behind step number said (xs ++ ys) ≡ lines_behind step (number + length xs) last ys
lines_behind-append {S = S} step number said last [] ys is =
    ap (λ (s : S). lines_behind step number s ys) (same-said said last is)
    ∙ ap (λ (k : ℕ). lines_behind step k last ys) (omega arith)
lines_behind-append {S = S} step number said last (x ∷ xs) ys is =
    go (step said x) (λ next e. lines_behind-append step (number + 1) next last xs ys e) is
  where
    go : (answer : Option S) → ((next : S) → lines_behind step (number + 1) next xs ≡ Ok last
        → lines_behind step (number + 1) next (xs ++ ys) ≡ lines_behind step (number + 1 + length xs) last ys)
        → lines_next step number xs answer ≡ Ok last →
        lines_next step number (xs ++ ys) answer ≡ lines_behind step (number + length (x ∷ xs)) last ys
    go None rest e = absurd (no-refusal number last e)
    go (Some next) rest e = rest next e ∙ ap (λ (k : ℕ). lines_behind step k last ys) (omega arith)

-- the lines of whole lines and of what follows them
pub lines_of-whole : (whole more : List ℕ) → AreWhole whole → lines_of (whole ++ more) ≡ lines_of whole ++ lines_of more
lines_of-whole whole more (inl none) =
    subst (λ (l : List ℕ). lines_of (l ++ more) ≡ lines_of l ++ lines_of more) (sym none) refl
lines_of-whole whole more (inr (head, is)) =
    subst (λ (l : List ℕ). lines_of (l ++ more) ≡ lines_of l ++ lines_of more) (sym is)
    (ap lines_of (append_assoc head (10 ∷ []) more) ∙ lines_of-ended head more)

-- one more is counted behind a line that has begun and its LF
pub lines-counted : (read whole begun : List ℕ) (lines : ℕ) → read ≡ whole ++ begun → AreWhole whole → NoEnd begun
    → length (lines_of whole) ≡ lines → length (lines_of (read ++ 10 ∷ [])) ≡ lines + 1
lines-counted read whole begun lines cut ended one counted =
    ap (λ (l : List (List ℕ)). length l) all-lines
    ∙ (length-append (lines_of whole) (begun ∷ []) ∙ omega (arith, counted))
  where
    all-lines : lines_of (read ++ 10 ∷ []) ≡ lines_of whole ++ begun ∷ []
    all-lines =
        ap (λ (l : List ℕ). lines_of (l ++ 10 ∷ [])) cut
        ∙ (ap lines_of (append_assoc whole begun (10 ∷ []))
        ∙ (lines_of-whole whole (begun ++ 10 ∷ []) ended
        ∙ ap (λ (l : List (List ℕ)). lines_of whole ++ l) (lines_of-ends begun [] one)))

-- a format

-- the file is what its lines come to, and a line of more bytes than one may have is refused
pub record IsFormat {S C : Type 0} (step : S → List ℕ → Option S) (start : S) (finish : S → Result C ℕ)
    (file : List ℕ → Result C ℕ) : Type 0 where
  pub long : (said : S) (bytes : List ℕ) → MOST_LINE_BYTES < length bytes → step said bytes ≡ None
  pub whole : (bytes : List ℕ) → file bytes ≡ file_in step start finish bytes

-- what a file is whose lines were read, or refused
abbrev pub file_of : {S C : Type 0} → (S → Result C ℕ) → Result S ℕ → Result C ℕ
file_of {C = C} finish answer = elim answer as (λ _. Result C ℕ) [ Err line ↦ Err line | Ok said ↦ finish said ]

-- the file is what is made of all that its lines said, or the number of the line that is refused
pub file-said : {S C : Type 0} (step : S → List ℕ → Option S) (start : S) (finish : S → Result C ℕ) (file : List ℕ →
    Result C ℕ) → IsFormat step start finish file
    → (bytes : List ℕ) (answer : Result S ℕ) → lines_in step start bytes ≡ answer → file bytes ≡ file_of finish answer
file-said step start finish file format bytes answer is = format.whole bytes ∙ ap (file_of finish) is

-- a certificate of a mesh is one

cert-long : (n : ℕ) (said : ReadSoFar) (bytes : List ℕ) → MOST_LINE_BYTES < length bytes →
    cert_line_in n said bytes ≡ None
unfolding read_cert_line
cert-long n said bytes long =
    ap (λ (b : Bool).
    elim (if b then None else cert_fields_line n (fields_of (without_last_cr bytes))) as (λ _. Option ReadSoFar) [
      | None ↦ None
      | Some line ↦ line_taken said line
    ])
    (lt-ltb MOST_LINE_BYTES (length bytes) long)

cert-whole : (n : ℕ) (bytes : List ℕ) → cert_in n bytes ≡ file_in (cert_line_in n) nothing_read cert_of bytes
unfolding cert_in
cert-whole n bytes = refl

-- the files of certificates of meshes over a grid with this n have a format
pub cert-format : (n : ℕ) → IsFormat (cert_line_in n) nothing_read cert_of (cert_in n)
cert-format n = record { long = cert-long n; whole = cert-whole n }

-- so is one of a fitted mesh

fit-long : (n : ℕ) (said : fit.FitReadSoFar) (bytes : List ℕ) → MOST_LINE_BYTES < length bytes →
    fit_line_in n said bytes ≡ None
unfolding fit_line.read_fit_line
fit-long n said bytes long =
    ap (λ (b : Bool). elim (if b then None
    else fit_line.fit_fields_line n (fields_of (without_last_cr bytes))) as (λ _. Option fit.FitReadSoFar)
    [ None ↦ None | Some line ↦ fit.fit_line_taken said line ])
    (lt-ltb MOST_LINE_BYTES (length bytes) long)

fit-whole : (n : ℕ) (bytes : List ℕ) →
    fit_cert_in n bytes ≡ file_in (fit_line_in n) fit.nothing_fit_read fit_cert_of bytes
unfolding fit_cert_in
fit-whole n bytes = refl

-- and so have those of certificates of fitted meshes
pub fit-format : (n : ℕ) → IsFormat (fit_line_in n) fit.nothing_fit_read fit_cert_of (fit_cert_in n)
fit-format n = record { long = fit-long n; whole = fit-whole n }

-- and of one that keeps points

kept-long : (n : ℕ) (said : kept.KeptReadSoFar) (bytes : List ℕ) → MOST_LINE_BYTES < length bytes →
    kept_line_in n said bytes ≡ None
unfolding need_in
kept-long n said bytes long =
    ap (λ (b : Bool). elim (if b then None
    else need_fields n (fields_of (without_last_cr bytes))) as (λ _. Option kept.KeptReadSoFar) [
      | None ↦ kept.rest_taken said.needs (fit_line_in n said.rest bytes)
      | Some p ↦ kept.need_taken said p
    ])
    (lt-ltb MOST_LINE_BYTES (length bytes) long)
    ∙ ap (kept.rest_taken said.needs) (fit-long n said.rest bytes long)

kept-whole : (n : ℕ) (bytes : List ℕ) →
    kept_cert_in n bytes ≡ file_in (kept_line_in n) kept.nothing_kept_read kept_cert_of bytes
unfolding kept_cert_in
kept-whole n bytes = refl

-- and so have those of certificates of meshes that keep points
pub kept-format : (n : ℕ) → IsFormat (kept_line_in n) kept.nothing_kept_read kept_cert_of (kept_cert_in n)
kept-format n = record { long = kept-long n; whole = kept-whole n }

-- the place that was reached

-- the place behind so many whole lines, by what they said and the bytes of the line that has begun
abbrev pub place : {S : Type 0} → S → ℕ → List ℕ → FilePlace S
place all count part = record { said = all; lines = count; begun = part }

-- nothing was read
pub come-begin : {S : Type 0} (step : S → List ℕ → Option S) (start : S) → HaveCome step start [] (place start 0 [])
come-begin step start = record {
  whole = [];
  cut = refl;
  ended = inl refl;
  accepted = refl;
  counted = refl;
  one_line = All-from_recursion (λ byte. byte ≢ 10) [] tt;
  short = omega arith;
}

module _ {S C : Type 0} (step : S → List ℕ → Option S) (start : S) (finish : S → Result C ℕ)
    (file : List ℕ → Result C ℕ)
    (format : IsFormat step start finish file) (read : List ℕ) (here : FilePlace S)
    (come : HaveCome step start read here) where
  begun-ends : NoEnd here.begun
  begun-ends = no_end here.begun come.one_line

  -- what was read, and more, leads on from the place
  said-come : (more : List ℕ) →
      lines_in step start (read ++ more) ≡ lines_behind step (here.lines + 1) here.said (lines_of (here.begun ++ more))
  said-come more =
      ap (λ (l : List ℕ). lines_in step start (l ++ more)) come.cut
      ∙ (ap (lines_in step start) (append_assoc come.whole here.begun more)
      ∙ (ap (λ (l : List (List ℕ)). lines_behind step 1 start l)
      (lines_of-whole come.whole (here.begun ++ more) come.ended)
      ∙ (lines_behind-append step 1 start here.said (lines_of come.whole) (lines_of (here.begun ++ more)) come.accepted
      ∙ ap (λ (k : ℕ). lines_behind step k here.said (lines_of (here.begun ++ more))) (omega (arith, come.counted)))))

  -- what the line and its LF lead to
  said-ended : (more : List ℕ) → lines_in step start ((read ++ 10 ∷ []) ++ more)
      ≡ lines_behind step (here.lines + 1) here.said (here.begun ∷ lines_of more)
  said-ended more =
      ap (lines_in step start) (append_assoc read (10 ∷ []) more)
      ∙ (said-come (10 ∷ more) ∙ ap (λ (l : List (List ℕ)). lines_behind step (here.lines + 1) here.said l)
      (lines_of-ends here.begun more begun-ends))

  -- an accepted line was read
  pub come-line : (next : S) → step here.said here.begun ≡ Some next →
      HaveCome step start (read ++ 10 ∷ []) (place next (here.lines + 1) [])
  come-line next is = record {
    whole = read ++ 10 ∷ [];
    cut = sym (append-nil (read ++ 10 ∷ []));
    ended = inr (read, refl);
    accepted = ap (lines_in step start) (sym (append-nil (read ++ 10 ∷ [])))
        ∙ (said-ended [] ∙ ap (lines_next step (here.lines + 1) []) is);
    counted = lines-counted read come.whole here.begun here.lines come.cut come.ended begun-ends come.counted;
    one_line = All-from_recursion (λ byte. byte ≢ 10) [] tt;
    short = omega arith;
  }

  -- a line that ended is refused, whatever follows
  pub refused-line : step here.said here.begun ≡ None → (more : List ℕ) →
      file ((read ++ 10 ∷ []) ++ more) ≡ Err (here.lines + 1)
  refused-line is more =
      file-said step start finish file format ((read ++ 10 ∷ []) ++ more) (Err (here.lines + 1))
      (said-ended more ∙ ap (lines_next step (here.lines + 1) (lines_of more)) is)

  -- a line of more bytes than one may have is refused, whatever follows
  pub refused-byte : (byte : ℕ) → byte ≢ 10 → MOST_LINE_BYTES ≤ length here.begun → (more : List ℕ) →
      file ((read ++ byte ∷ []) ++ more) ≡ Err (here.lines + 1)
  refused-byte byte other long more =
      file-said step start finish file format ((read ++ byte ∷ []) ++ more) (Err (here.lines + 1))
      (ap (lines_in step start) (append_assoc read (byte ∷ []) more)
      ∙ (said-come (byte ∷ more)
      ∙ (ap (λ (l : List ℕ). lines_behind step (here.lines + 1) here.said (lines_of l))
      (sym (append_assoc here.begun (byte ∷ []) more))
      ∙ begins (here.begun ++ byte ∷ []) (no_end-append here.begun byte begun-ends other) (let e =
      length-append here.begun (byte ∷ []) in omega (arith, e, long)))))
    where
      begins : (part : List ℕ) → NoEnd part → MOST_LINE_BYTES < length part →
          lines_behind step (here.lines + 1) here.said (lines_of (part ++ more)) ≡ Err (here.lines + 1)
      begins [] one short = absurd (omega (arith, short))
      begins (b ∷ part) one short =
          let begun : BeginsWith (b ∷ part) (lines_of (b ∷ (part ++ more))) = lines_of-begins b part more one in
          let e = length-append (b ∷ part) begun.0 in
          ap (λ (l : List (List ℕ)). lines_behind step (here.lines + 1) here.said l) begun.2
          ∙ ap (lines_next step (here.lines + 1) begun.1)
          (format.long here.said ((b ∷ part) ++ begun.0) (omega (arith, e, short)))

  -- the file ends behind whole lines
  pub file-end : here.begun ≡ [] → file read ≡ finish here.said
  file-end none = file-said step start finish file format read (Ok here.said)
      (ap (lines_in step start) (sym (append-nil read))
      ∙ (said-come [] ∙ ap (λ (l : List ℕ). lines_behind step (here.lines + 1) here.said (lines_of (l ++ []))) none))

  -- or in a line, which it ends as an LF does
  said-last : here.begun ≢ [] →
      lines_in step start read ≡ lines_behind step (here.lines + 1) here.said (here.begun ∷ [])
  said-last some =
      ap (lines_in step start) (sym (append-nil read))
      ∙ (said-come []
      ∙ (ap (λ (l : List ℕ). lines_behind step (here.lines + 1) here.said (lines_of l)) (append-nil here.begun)
      ∙ ap (λ (l : List (List ℕ)). lines_behind step (here.lines + 1) here.said l)
      (lines_of-only here.begun begun-ends some)))

  -- where the last line has no LF and may stand, the file is what is said behind it
  pub file-last : (next : S) → here.begun ≢ [] → step here.said here.begun ≡ Some next → file read ≡ finish next
  file-last next some is = file-said step start finish file format read (Ok next)
      (said-last some ∙ ap (lines_next step (here.lines + 1) []) is)

  -- and where it may not stand, the file is refused at its number
  pub refused-last : here.begun ≢ [] → step here.said here.begun ≡ None → file read ≡ Err (here.lines + 1)
  refused-last some is = file-said step start finish file format read (Err (here.lines + 1))
      (said-last some ∙ ap (lines_next step (here.lines + 1) []) is)
