-- What is written of a certificate with points is read back, and each line that is read says one thing more.
use Rattle.std.proofs.Common.{◌≡◌, ℕ, ◌+◌, ◌^◌, ◌<◌, ◌≤◌, true, List, [], ◌∷◌, ◌++◌, length, map}
use Rattle.std.proofs.Common.{Option, Some, None, refl, sym, ap, ap₂, ◌∙◌, arith, length-append}
use Rattle.std.proofs.Common.{⊎_elim}
use Rattle.std.specs.Prelude.{bytes_eq, codes, decimal, nat_lt, All}
use Rattle.std.specs.List.{flat_map}
use Rattle.std.proofs.lemmas.List.Elements.{All-cons, All-nil}
use Rattle.std.proofs.lemmas.Grind.{flat_map-append}
use Rattle.std.proofs.lemmas.Bool.{cases_Bool, cond-true, cond-false, lt-ltb}
use Rattle.std.proofs.lemmas.Slice.Eq.{bytes_eq-Decides}
use Rattle.std.proofs.lemmas.Option.{none-some}
use Rattle.std.proofs.Math.Pow.{pow_mono}
use Rattle.mesh_defs.specs.declared.point.Point.{Point}
use Rattle.text_laws.specs.Fields.{without_last_cr, fields_of}
use Rattle.cert_text.specs.Lines.{IsOneLine, number_below}
use Rattle.cert_text.proofs.LineLemmas.{IsField, decimal-field, joined-one, joined-says, number-back}
use Rattle.cert_text.proofs.LineLemmas.{lines-step, entries-back, entries-whole, lines-ended, counted-some, counted-if}
use Rattle.certificate_laws.specs.Keeping.{KeptCertificate}
use Rattle.cert_text.specs.declared.fit_line.FitLine.{FitLine}
use Rattle.cert_text.specs.FitLine.{fit_fields_line, read_fit_line}
use Rattle.cert_text.specs.FitCertReader.{FitReadSoFar, fit_read_so_far, nothing_fit_read, fit_line_taken}
use Rattle.cert_text.specs.FitCertReader.{fit_line_in}
use Rattle.cert_text.specs.FitCertText.{fit_cert_lines}
use Rattle.cert_text.specs.FitLaws.{fit_lines_read}
use Rattle.cert_text.specs.NeedLine.{need_text, need_of, need_fields, need_in, need_is}
use Rattle.cert_text.specs.KeptCert.{KeptReadSoFar, kept_read_so_far, nothing_kept_read, need_taken, rest_taken}
use Rattle.cert_text.specs.KeptCert.{kept_line_in, kept_cert_text, kept_cert_lines}
use Rattle.cert_text.specs.KeptLaws.{IsPointOf, IsKeptCertificateOf, kept_lines_read, kept_line_count}
use Rattle.cert_text.proofs.FitBackLemmas.{lines-back, text-ended, lines-whole}
use Rattle.cert_text.proofs.FitCountLemmas.{line-count}

-- the line of a point

need_field : IsField (codes "need")
need_field = record {
  some = omega arith;
  short = omega arith;
  big = (omega arith, (omega arith, (omega arith, (omega arith, tt))));
}

module _ (n : ℕ) (top : n ≤ 14) (p : Point) (is : IsPointOf n p) where
  abbrev parts : List (List ℕ)
  parts = decimal p.x ∷ (decimal p.y ∷ [])

  point-fields : All IsField parts
  point-fields =
      let side : 2 ^ n ≤ 2 ^ 14 = pow_mono top in
      let column = is.column in let row = is.row in
      All-cons IsField (decimal p.x) (decimal p.y ∷ []) (decimal-field p.x (omega arith))
      (All-cons IsField (decimal p.y) [] (decimal-field p.y (omega arith)) (All-nil IsField))

  -- the line of a point of the grid is read back as it
  need-back : need_in n (need_text p) ≡ Some p
  need-back =
      let side : 2 ^ n ≤ 2 ^ 14 = pow_mono top in
      let column = is.column in let row = is.row in
      let y = number_below (2 ^ n + 1) (decimal p.y) in
      need_is n _ ∙ joined-says (need_fields n) (codes "need") parts need_field point-fields (omega arith)
      ∙ ap (λ o. need_of o y) (number-back (2 ^ n + 1) p.x (omega arith) (omega arith))
      ∙ ap (λ o. need_of (Some p.x) o) (number-back (2 ^ n + 1) p.y (omega arith) (omega arith))

  need-one : IsOneLine (need_text p)
  need-one = joined-one (codes "need") parts need_field point-fields

-- lines one after the other

-- a point before the tolerance
need-next : (n : ℕ) → n ≤ 14 → (done : List Point) (p : Point) → IsPointOf n p → length done < 8388608 →
    kept_line_in n (kept_read_so_far done nothing_fit_read) (need_text p)
    ≡ Some (kept_read_so_far (done ++ p ∷ []) nothing_fit_read)
need-next n top done p is few =
    ap (λ (o : Option Point). elim o as (λ _. Option KeptReadSoFar) [
      | None ↦ rest_taken done (fit_line_in n nothing_fit_read (need_text p))
      | Some q ↦ need_taken (kept_read_so_far done nothing_fit_read) q
    ]) (need-back n top p is)
    ∙ cond-true (nat_lt (length done) 8388608) (Some (kept_read_so_far (done ++ p ∷ []) nothing_fit_read)) None
    (lt-ltb (length done) 8388608 few)

-- the fields of a line of a certificate are none of a point
word-other : (n : ℕ) (fields : List (List ℕ)) (line : FitLine) → fit_fields_line n fields ≡ Some line →
    need_fields n fields ≡ None
word-other n [] line e = refl
word-other n (word ∷ []) line e = refl
word-other n (word ∷ (x ∷ [])) line e = refl
word-other n (word ∷ (x ∷ (y ∷ []))) line e = ⊎_elim
    (λ is. absurd (none-some line (ap (λ w. fit_fields_line n (w ∷ (x ∷ (y ∷ []))))
    (sym ((bytes_eq-Decides word (codes "need")).0 is)) ∙ e)))
    (λ no. cond-false (bytes_eq word (codes "need")) (need_of (number_below (2 ^ n + 1) x)
    (number_below (2 ^ n + 1) y)) None no)
    (cases_Bool (bytes_eq word (codes "need")))
word-other n (word ∷ (x ∷ (y ∷ (z ∷ fields)))) line e = refl

-- so the bytes of the one are none of the other
need-other : (n : ℕ) (bytes : List ℕ) (line : FitLine) → read_fit_line n bytes ≡ Some line → need_in n bytes ≡ None
unfolding need_in read_fit_line
need-other n bytes line e = ⊎_elim
    (λ long. absurd (none-some line (sym (cond-true (nat_lt 200 (length bytes)) None
    (fit_fields_line n (fields_of (without_last_cr bytes))) long) ∙ e)))
    (λ short.
    cond-false (nat_lt 200 (length bytes)) None (need_fields n (fields_of (without_last_cr bytes))) short
    ∙ word-other n (fields_of (without_last_cr bytes)) line
    (sym (cond-false (nat_lt 200 (length bytes)) None
    (fit_fields_line n (fields_of (without_last_cr bytes))) short) ∙ e))
    (cases_Bool (nat_lt 200 (length bytes)))

taken-other : (n : ℕ) (read next : FitReadSoFar) (bytes : List ℕ) → fit_line_in n read bytes ≡ Some next →
    need_in n bytes ≡ None
taken-other n read next bytes e = go (read_fit_line n bytes) refl e
  where
    go : (o : Option FitLine) → read_fit_line n bytes ≡ o →
        (elim o as (λ _. Option FitReadSoFar) [ None ↦ None | Some l ↦ fit_line_taken read l ]) ≡ Some next →
        need_in n bytes ≡ None
    go None is taken = absurd (none-some next taken)
    go (Some line) is taken = need-other n bytes line is

-- the lines of a certificate are read behind points as they are
rest-back : (n : ℕ) (points : List Point) (read end : FitReadSoFar) (lines : List (List ℕ)) →
    fit_lines_read n read lines ≡ Some end →
    kept_lines_read n (kept_read_so_far points read) lines ≡ Some (kept_read_so_far points end)
rest-back n points read end [] e = ap (rest_taken points) e
rest-back n points read end (bytes ∷ lines) e =
    go (λ next taken. rest-back n points next end lines taken) (fit_line_in n read bytes) refl e
  where
    go : ((next : FitReadSoFar) → fit_lines_read n next lines ≡ Some end →
        kept_lines_read n (kept_read_so_far points next) lines ≡ Some (kept_read_so_far points end)) →
        (o : Option FitReadSoFar) → fit_line_in n read bytes ≡ o →
        (elim o as (λ _. Option FitReadSoFar) [ None ↦ None | Some after ↦ fit_lines_read n after lines ]) ≡ Some end →
        kept_lines_read n (kept_read_so_far points read) (bytes ∷ lines) ≡ Some (kept_read_so_far points end)
    go later None is taken = absurd (none-some end taken)
    go later (Some next) is taken =
        lines-step (kept_line_in n) (kept_read_so_far points read) (kept_read_so_far points next) bytes lines
        (ap (λ (o : Option Point). elim o as (λ _. Option KeptReadSoFar) [
          | None ↦ rest_taken points (fit_line_in n read bytes)
          | Some q ↦ need_taken (kept_read_so_far points read) q
        ]) (taken-other n read next bytes is)
        ∙ ap (rest_taken points) is)
        ∙ later next taken

-- the lines of a certificate with points are read as it
pub kept_lines-back : (n : ℕ) (cert : KeptCertificate) → IsKeptCertificateOf n cert →
    kept_lines_read n nothing_kept_read (kept_cert_lines cert) ≡ Some (kept_read_so_far cert.needs
    (fit_read_so_far (Some cert.rest.tolerance) true cert.rest.needed cert.rest.beyond))
kept_lines-back n cert is =
    entries-back (kept_line_in n) (λ done. kept_read_so_far done nothing_fit_read) need_text (IsPointOf n) 8388608
    (need-next n is.rest.few.in_grid.1) [] cert.needs (fit_cert_lines cert.rest) is.needs
    (let few = is.few in omega arith)
    ∙ rest-back n cert.needs nothing_fit_read _ (fit_cert_lines cert.rest) (lines-back n cert.rest is.rest)

-- its text is its lines, each with an LF (10) behind it
pub kept_text-ended : (cert : KeptCertificate) →
    kept_cert_text cert ≡ flat_map (λ line. line ++ 10 ∷ []) (kept_cert_lines cert)
kept_text-ended cert =
    ap₂ (λ (i j : List ℕ). i ++ j) (sym (lines-ended need_text cert.needs)) (text-ended cert.rest)
    ∙ sym (flat_map-append (λ line. line ++ 10 ∷ []) (map need_text cert.needs) (fit_cert_lines cert.rest))

-- and no line has an LF within
pub kept_lines-whole : (n : ℕ) (cert : KeptCertificate) → IsKeptCertificateOf n cert →
    All IsOneLine (kept_cert_lines cert)
kept_lines-whole n cert is =
    entries-whole need_text (IsPointOf n) (need-one n is.rest.few.in_grid.1) cert.needs (fit_cert_lines cert.rest)
    is.needs (lines-whole n cert.rest is.rest)

-- how many

-- behind a line that is read, one line more has been said
pub kept_line-count : (n : ℕ) (said next : KeptReadSoFar) (bytes : List ℕ) → kept_line_in n said bytes ≡ Some next →
    kept_line_count next ≡ kept_line_count said + 1
kept_line-count n said next bytes is = go (need_in n bytes) is
  where
    rest : (o : Option FitReadSoFar) → fit_line_in n said.rest bytes ≡ o → rest_taken said.needs o ≡ Some next →
        kept_line_count next ≡ kept_line_count said + 1
    rest None from e = absurd (none-some next e)
    rest (Some after) from e =
        let one = line-count n said.rest after bytes from in
        counted-some kept_line_count (kept_read_so_far said.needs after) next _ (omega arith) e

    go : (o : Option Point) → (elim o as (λ _. Option KeptReadSoFar) [
      | None ↦ rest_taken said.needs (fit_line_in n said.rest bytes)
      | Some p ↦ need_taken said p
    ]) ≡ Some next → kept_line_count next ≡ kept_line_count said + 1
    go None e = rest (fit_line_in n said.rest bytes) refl e
    go (Some p) e =
        counted-if kept_line_count _ (kept_read_so_far (said.needs ++ p ∷ []) said.rest) next _
        (omega (arith, length-append said.needs (p ∷ []))) e
