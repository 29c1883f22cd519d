-- What is written of a certificate of a fitted mesh is read back.
use Rattle.std.proofs.Common.{◌≡◌, ℕ, ◌+◌, ◌*◌, ◌^◌, ◌<◌, ◌≤◌, true, false, List, [], ◌∷◌, ◌++◌, length, map, Some, None}
use Rattle.std.proofs.Common.{refl, sym, ap, ap₂, ◌∙◌, arith, append_assoc}
use Rattle.std.specs.Prelude.{codes, decimal, nat_lt, All}
use Rattle.std.specs.List.{flat_map}
use Rattle.std.proofs.lemmas.List.Elements.{All-cons, All-nil}
use Rattle.std.proofs.lemmas.Grind.{flat_map-append}
use Rattle.std.proofs.lemmas.Bool.{cond-true, lt-ltb}
use Rattle.std.proofs.Math.Pow.{pow_mono}
use Rattle.mesh_laws.proofs.SweepLemmas.{splittable-lt}
use Rattle.certificate_laws.specs.declared.fit_reason.Witness.{Witness}
use Rattle.certificate_laws.specs.FitCertificate.{FitCertificate}
use Rattle.cert_text.specs.declared.fit_line.FitLine.TheVariants.{ToleranceLine, OffLine, MeshLine}
use Rattle.cert_text.specs.Lines.{IsOneLine, number_below}
use Rattle.cert_text.specs.FitLine.{tolerance_line, off_of, fit_fields_line, read_fit_line, fit_line_is}
use Rattle.cert_text.specs.FitCertReader.{fit_read_so_far, nothing_fit_read, fit_line_taken, fit_line_in}
use Rattle.cert_text.specs.FitCertText.{fit_line_text, ended_fit_line, off_text, fit_cert_text, fit_cert_lines}
use Rattle.cert_text.specs.FitLaws.{IsWitnessOf, IsFitCertificateOf, fit_lines_read}
use Rattle.cert_text.proofs.LineLemmas.{IsField, end-high, decimal-field, joined-one, joined-says, number-back}
use Rattle.cert_text.proofs.LineLemmas.{address-back, line-next, lines-step, entries-back, entries-end, entries-whole}
use Rattle.cert_text.proofs.LineLemmas.{entries-one, lines-ended}

-- the tolerance

tolerance_field : IsField (codes "tolerance")
tolerance_field = record {
  some = omega arith;
  short = omega arith;
  big = (
    omega arith,
    (
      omega arith,
      (omega arith, (omega arith, (omega arith, (omega arith, (omega arith, (omega arith, (omega arith, tt))))))),
    ),
  );
}

tolerance-fields : (own : ℕ) → own < 2 ^ 32 → All IsField (decimal own ∷ [])
tolerance-fields own fits = All-cons IsField (decimal own) [] (decimal-field own fits) (All-nil IsField)

-- the line of a tolerance of 32 bits is read back as it
tolerance-back : (n own : ℕ) → own < 2 ^ 32 →
    read_fit_line n (fit_line_text (ToleranceLine own)) ≡ Some (ToleranceLine own)
tolerance-back n own fits =
    fit_line_is n _ ∙ joined-says (fit_fields_line n) (codes "tolerance") (decimal own ∷ []) tolerance_field (tolerance-fields own fits)
    (omega arith)
    ∙ ap tolerance_line (number-back (2 ^ 32) own fits (omega arith))

-- the mesh

mesh_field : IsField (codes "mesh")
mesh_field = record {
  some = omega arith;
  short = omega arith;
  big = (omega arith, (omega arith, (omega arith, (omega arith, tt))));
}

-- the line of the mesh is read back as it
mesh-back : (n : ℕ) → read_fit_line n (fit_line_text MeshLine) ≡ Some MeshLine
mesh-back n = fit_line_is n _ ∙ joined-says (fit_fields_line n) (codes "mesh") [] mesh_field (All-nil IsField) (omega arith)

-- a reason

off_field : IsField (codes "off")
off_field =
    record { some = omega arith; short = omega arith; big = (omega arith, (omega arith, (omega arith, tt))) }

module _ (n : ℕ) (top : n ≤ 14) (r : Witness) (is : IsWitnessOf n r) where
  abbrev fields : List (List ℕ)
  fields = decimal r.triangle ∷ (decimal r.x ∷ (decimal r.y ∷ []))

  off-fields : All IsField fields
  off-fields =
      let below = end-high n 1 top (omega arith) in
      let side : 2 ^ n ≤ 2 ^ 14 = pow_mono top in
      let high = splittable-lt n r.triangle is.splittable in
      let column = is.column in let row = is.row in
      All-cons IsField (decimal r.triangle) (decimal r.x ∷ (decimal r.y ∷ [])) (decimal-field r.triangle (omega arith))
      (All-cons IsField (decimal r.x) (decimal r.y ∷ []) (decimal-field r.x (omega arith))
      (All-cons IsField (decimal r.y) [] (decimal-field r.y (omega arith)) (All-nil IsField)))

  -- the line of a reason, of a triangle that may be split and a point of the grid, is read back as it
  off-back : read_fit_line n (fit_line_text (OffLine r)) ≡ Some (OffLine r)
  off-back =
      let below = end-high n 1 top (omega arith) in
      let side : 2 ^ n ≤ 2 ^ 14 = pow_mono top in
      let low = is.splittable.low in let high = splittable-lt n r.triangle is.splittable in
      let column = is.column in let row = is.row in
      let x = number_below (2 ^ n + 1) (decimal r.x) in
      let y = number_below (2 ^ n + 1) (decimal r.y) in
      fit_line_is n _ ∙ joined-says (fit_fields_line n) (codes "off") fields off_field off-fields (omega arith)
      ∙ ap (λ o. off_of o x y) (address-back (2 ^ (2 * n + 1)) r.triangle low high below)
      ∙ ap (λ o. off_of (Some r.triangle) o y) (number-back (2 ^ n + 1) r.x (omega arith) (omega arith))
      ∙ ap (λ o. off_of (Some r.triangle) (Some r.x) o) (number-back (2 ^ n + 1) r.y (omega arith) (omega arith))

  off-one : IsOneLine (fit_line_text (OffLine r))
  off-one = joined-one (codes "off") fields off_field off-fields

-- lines one after the other

needed-next : (n own : ℕ) → n ≤ 14 → (done : List Witness) (r : Witness) → IsWitnessOf n r → length done < 8388608 →
    fit_line_in n (fit_read_so_far (Some own) false done []) (fit_line_text (OffLine r))
    ≡ Some (fit_read_so_far (Some own) false (done ++ r ∷ []) [])
needed-next n own top done r is few =
    line-next (fit_line_taken (fit_read_so_far (Some own) false done [])) _ (OffLine r) _ (off-back n top r is)
    (cond-true (nat_lt (length done) 8388608) (Some (fit_read_so_far (Some own) false (done ++ r ∷ []) [])) None
    (lt-ltb (length done) 8388608 few))

beyond-next : (n own : ℕ) (needed : List Witness) → n ≤ 14 → (done : List Witness) (r : Witness) → IsWitnessOf n r →
    length done < 8388608 →
    fit_line_in n (fit_read_so_far (Some own) true needed done) (fit_line_text (OffLine r))
    ≡ Some (fit_read_so_far (Some own) true needed (done ++ r ∷ []))
beyond-next n own needed top done r is few =
    line-next (fit_line_taken (fit_read_so_far (Some own) true needed done)) _ (OffLine r) _ (off-back n top r is)
    (cond-true (nat_lt (length done) 8388608) (Some (fit_read_so_far (Some own) true needed (done ++ r ∷ []))) None
    (lt-ltb (length done) 8388608 few))

-- the lines of a certificate are read as it
pub lines-back : (n : ℕ) (cert : FitCertificate) → IsFitCertificateOf n cert →
    fit_lines_read n nothing_fit_read (fit_cert_lines cert)
    ≡ Some (fit_read_so_far (Some cert.tolerance) true cert.needed cert.beyond)
lines-back n cert is =
    let own : ℕ = cert.tolerance in
    let text : Witness → List ℕ = λ r. fit_line_text (OffLine r) in
    let top = is.few.in_grid.1 in
    lines-step (fit_line_in n) nothing_fit_read (fit_read_so_far (Some own) false [] [])
    (fit_line_text (ToleranceLine own)) _
    (line-next (fit_line_taken nothing_fit_read) _ (ToleranceLine own) _ (tolerance-back n own is.tolerance) refl)
    ∙ entries-back (fit_line_in n) (λ done. fit_read_so_far (Some own) false done []) text (IsWitnessOf n) 8388608
    (needed-next n own top) [] cert.needed (fit_line_text MeshLine ∷ map text cert.beyond) is.needed
    (let few = is.few.few_needed in omega arith)
    ∙ lines-step (fit_line_in n) (fit_read_so_far (Some own) false cert.needed [])
    (fit_read_so_far (Some own) true cert.needed []) (fit_line_text MeshLine) (map text cert.beyond)
    (line-next (fit_line_taken (fit_read_so_far (Some own) false cert.needed [])) _ MeshLine _ (mesh-back n) refl)
    ∙ entries-end (fit_line_in n) (λ done. fit_read_so_far (Some own) true cert.needed done) text
    (IsWitnessOf n) 8388608
    (beyond-next n own cert.needed top) cert.beyond is.beyond (let few = is.few.few_beyond in omega arith)

-- the text of a certificate is its lines, each with an LF (10) behind it
pub text-ended : (cert : FitCertificate) → fit_cert_text cert ≡ flat_map (λ line. line ++ 10 ∷ []) (fit_cert_lines cert)
text-ended cert =
    let own : List ℕ = ended_fit_line (ToleranceLine cert.tolerance) in
    let mesh : List ℕ = ended_fit_line MeshLine in
    let needed = map (λ r. fit_line_text (OffLine r)) cert.needed in
    let beyond = map (λ r. fit_line_text (OffLine r)) cert.beyond in
    append_assoc (own ++ flat_map off_text cert.needed) mesh (flat_map off_text cert.beyond)
    ∙ append_assoc own (flat_map off_text cert.needed) (mesh ++ flat_map off_text cert.beyond)
    ∙ ap (λ l. own ++ l) (
    ap₂ (λ a b. a ++ (mesh ++ b)) (sym (lines-ended (λ r. fit_line_text (OffLine r)) cert.needed))
    (sym (lines-ended (λ r. fit_line_text (OffLine r)) cert.beyond))
    ∙ sym (flat_map-append (λ line. line ++ 10 ∷ []) needed (fit_line_text MeshLine ∷ beyond)))

-- each line of a certificate is one line: no LF stands within it
pub lines-whole : (n : ℕ) (cert : FitCertificate) → IsFitCertificateOf n cert → All IsOneLine (fit_cert_lines cert)
lines-whole n cert is =
    let top = is.few.in_grid.1 in
    let text : Witness → List ℕ = λ r. fit_line_text (OffLine r) in
    All-cons IsOneLine (fit_line_text (ToleranceLine cert.tolerance)) _
    (joined-one (codes "tolerance") (decimal cert.tolerance ∷ []) tolerance_field
    (tolerance-fields cert.tolerance is.tolerance))
    (entries-whole text (IsWitnessOf n) (off-one n top) cert.needed (fit_line_text MeshLine ∷ map text cert.beyond) is.needed
    (All-cons IsOneLine (fit_line_text MeshLine) (map text cert.beyond)
    (joined-one (codes "mesh") [] mesh_field (All-nil IsField))
    (entries-one text (IsWitnessOf n) (off-one n top) cert.beyond is.beyond)))
