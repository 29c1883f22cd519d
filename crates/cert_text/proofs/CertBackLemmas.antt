-- What is written of a certificate is read back.
use Rattle.std.proofs.Common.{◌≡◌, ℕ, suc, ◌+◌, ◌*◌, ◌^◌, ◌<◌, ◌≤◌, Bool, true, List, [], ◌∷◌, ◌++◌, length, map}
use Rattle.std.proofs.Common.{Some, None, ℤ, pos, negsuc, refl, sym, ap, ap₂, ◌∙◌, arith, append_assoc, lit<}
use Rattle.std.specs.Prelude.{◌&&◌, option_map, codes, decimal, unsigned_abs, nat_lt, All}
use Rattle.std.specs.List.{flat_map}
use Rattle.std.specs.Fmt.{signed_decimal}
use Rattle.std.proofs.lemmas.List.Elements.{All-cons, All-nil}
use Rattle.std.proofs.lemmas.Grind.{flat_map-append}
use Rattle.std.proofs.lemmas.Bool.{cond-true, lt-ltb, le-leb}
use Rattle.mesh_defs.specs.BoundingBox.{CameraAt}
use Rattle.mesh_defs.specs.Triangle.{IsAddress, IsSplittable}
use Rattle.mesh_laws.proofs.SweepLemmas.{splittable-lt}
use Rattle.view_priority.specs.Camera.{IsCamera}
use Rattle.text_laws.specs.Numbers.{signed_in}
use Rattle.text_laws.proofs.NumberLemmas.{signed-back}
use Rattle.certificate_laws.specs.declared.reason.Kind.{Kind}
use Rattle.certificate_laws.specs.declared.reason.Kind.TheVariants.{Want, Parent, Mate}
use Rattle.certificate_laws.specs.declared.reason.Reason.{Reason}
use Rattle.cert_text.specs.declared.cert_line.CertLine.TheVariants.{CameraLine, LeafLine, ReasonLine}
use Rattle.cert_text.specs.Lines.{IsOneLine, address_in}
use Rattle.cert_text.specs.Certificate.{Certificate}
use Rattle.cert_text.specs.CertLine.{is_camera_coordinate, camera_of, cert_fields_line, read_cert_line, cert_line_is}
use Rattle.cert_text.specs.CertReader.{read_so_far, nothing_read, line_taken, cert_line_in}
use Rattle.cert_text.specs.CertText.{kind_text, cert_line_text, ended_line, leaf_text, reason_text, cert_text}
use Rattle.cert_text.specs.CertText.{cert_lines}
use Rattle.cert_text.specs.Laws.{IsCertificateOf, lines_read}
use Rattle.cert_text.proofs.LineLemmas.{IsField, end-high, decimal-short, decimal-field, from-decimal, joined-one}
use Rattle.cert_text.proofs.LineLemmas.{joined-says, address-back, line-next, lines-step, entries-back, entries-end}
use Rattle.cert_text.proofs.LineLemmas.{entries-whole, entries-one, lines-ended}

-- the line of an address behind a word

number-fields : (a : ℕ) → a < 2 ^ 32 → All IsField (decimal a ∷ [])
number-fields a fits = All-cons IsField (decimal a) [] (decimal-field a fits) (All-nil IsField)

-- a leaf

leaf_field : IsField (codes "leaf")
leaf_field = record {
  some = omega arith;
  short = omega arith;
  big = (omega arith, (omega arith, (omega arith, (omega arith, tt))));
}

-- the line of a leaf of the grid is read back as it
leaf-back : (n a : ℕ) → n ≤ 14 → IsAddress n a → read_cert_line n (cert_line_text (LeafLine a)) ≡ Some (LeafLine a)
leaf-back n a top address =
    let most = end-high n 2 top (omega arith) in
    let low = address.low in let high = address.high in
    cert_line_is n _ ∙ joined-says (cert_fields_line n) (codes "leaf") (decimal a ∷ []) leaf_field (number-fields a (omega arith))
    (omega arith)
    ∙ ap (option_map (λ b. LeafLine b)) (address-back (2 ^ (2 * n + 2)) a low high most)

leaf-one : (n a : ℕ) → n ≤ 14 → IsAddress n a → IsOneLine (cert_line_text (LeafLine a))
leaf-one n a top address =
    let most = end-high n 2 top (omega arith) in
    let high = address.high in
    joined-one (codes "leaf") (decimal a ∷ []) leaf_field (number-fields a (omega arith))

-- each kind of reason

kind_field : (kind : Kind) → IsField (kind_text kind)
kind_field Want = record {
  some = omega arith;
  short = omega arith;
  big = (omega arith, (omega arith, (omega arith, (omega arith, tt))));
}
kind_field Parent = record {
  some = omega arith;
  short = omega arith;
  big = (omega arith, (omega arith, (omega arith, (omega arith, (omega arith, (omega arith, tt))))));
}
kind_field Mate = record {
  some = omega arith;
  short = omega arith;
  big = (omega arith, (omega arith, (omega arith, (omega arith, tt))));
}

kind-fields : (n : ℕ) (kind : Kind) (field : List ℕ) →
    cert_fields_line n (kind_text kind ∷ (field ∷ []))
    ≡ option_map (λ b. ReasonLine (record { kind = kind; triangle = b })) (address_in (2 ^ (2 * n + 1)) field)
kind-fields n Want field = refl
kind-fields n Parent field = refl
kind-fields n Mate field = refl

-- the line of a reason, of a triangle of the grid that may be split, is read back as it
reason-back : (n : ℕ) (r : Reason) → n ≤ 14 → IsSplittable n r.triangle →
    read_cert_line n (cert_line_text (ReasonLine r)) ≡ Some (ReasonLine r)
reason-back n r top splittable =
    let most = end-high n 1 top (omega arith) in
    let low = splittable.low in let high = splittable-lt n r.triangle splittable in
    cert_line_is n _ ∙ joined-says (cert_fields_line n) (kind_text r.kind) (decimal r.triangle ∷ []) (kind_field r.kind)
    (number-fields r.triangle (omega arith)) (omega arith)
    ∙ kind-fields n r.kind (decimal r.triangle)
    ∙ ap (option_map (λ b. ReasonLine (record { kind = r.kind; triangle = b })))
    (address-back (2 ^ (2 * n + 1)) r.triangle low high most)

reason-one : (n : ℕ) (r : Reason) → n ≤ 14 → IsSplittable n r.triangle → IsOneLine (cert_line_text (ReasonLine r))
reason-one n r top splittable =
    let most = end-high n 1 top (omega arith) in
    let high = splittable-lt n r.triangle splittable in
    joined-one (kind_text r.kind) (decimal r.triangle ∷ []) (kind_field r.kind) (number-fields r.triangle (omega arith))

-- a camera

camera_field : IsField (codes "camera")
camera_field = record {
  some = omega arith;
  short = omega arith;
  big = (omega arith, (omega arith, (omega arith, (omega arith, (omega arith, (omega arith, tt))))));
}

signed-field : (v : ℤ) → unsigned_abs v ≤ 2 ^ 30 → IsField (signed_decimal v)
signed-field (pos n) fits = decimal-field n (omega arith)
signed-field (negsuc n) fits = let short = decimal-short (suc n) (omega arith) in record {
  some = omega arith;
  short = omega arith;
  big = (omega arith, from-decimal (suc n) (omega arith));
}

module _ (n : ℕ) (seen_from : CameraAt) (is : IsCamera seen_from) where
  abbrev x : List ℕ
  x = signed_decimal seen_from.x

  abbrev y : List ℕ
  y = signed_decimal seen_from.y

  abbrev z : List ℕ
  z = signed_decimal seen_from.z

  camera-fields : All IsField (x ∷ (y ∷ (z ∷ [])))
  camera-fields = All-cons IsField x (y ∷ (z ∷ [])) (signed-field seen_from.x is.x_small)
      (All-cons IsField y (z ∷ []) (signed-field seen_from.y is.y_small)
      (All-cons IsField z [] (signed-field seen_from.z is.z_small) (All-nil IsField)))

  coordinates : (is_camera_coordinate seen_from.x &&
      (is_camera_coordinate seen_from.y && is_camera_coordinate seen_from.z)) ≡ true
  coordinates = ap₂ (λ (a b : Bool). a && b) (le-leb (unsigned_abs seen_from.x) (2 ^ 30) is.x_small)
      (ap₂ (λ (a b : Bool). a && b) (le-leb (unsigned_abs seen_from.y) (2 ^ 30) is.y_small)
      (le-leb (unsigned_abs seen_from.z) (2 ^ 30) is.z_small))

  camera-read : camera_of (signed_in x) (signed_in y) (signed_in z) ≡ Some (CameraLine seen_from)
  camera-read =
      let low : 2 ^ 30 < 10 ^ 18 = lit< tt in
      let a = is.x_small in let b = is.y_small in let c = is.z_small in
      ap (λ o. camera_of o (signed_in y) (signed_in z)) (signed-back seen_from.x (omega arith))
      ∙ ap (λ o. camera_of (Some seen_from.x) o (signed_in z)) (signed-back seen_from.y (omega arith))
      ∙ ap (λ o. camera_of (Some seen_from.x) (Some seen_from.y) o) (signed-back seen_from.z (omega arith))
      ∙ cond-true (is_camera_coordinate seen_from.x &&
      (is_camera_coordinate seen_from.y && is_camera_coordinate seen_from.z))
      (Some (CameraLine seen_from)) None coordinates

  -- the line of a camera whose coordinates are within their bounds is read back as it
  camera-back : read_cert_line n (cert_line_text (CameraLine seen_from)) ≡ Some (CameraLine seen_from)
  camera-back =
      cert_line_is n _ ∙ joined-says (cert_fields_line n) (codes "camera") (x ∷ (y ∷ (z ∷ []))) camera_field camera-fields (omega arith)
      ∙ camera-read

  camera-one : IsOneLine (cert_line_text (CameraLine seen_from))
  camera-one = joined-one (codes "camera") (x ∷ (y ∷ (z ∷ []))) camera_field camera-fields

-- lines one after the other

leaf-next : (n : ℕ) (seen_from : CameraAt) → n ≤ 14 → (done : List ℕ) (a : ℕ) → IsAddress n a →
    length done < 1048576 →
    cert_line_in n (read_so_far (Some seen_from) done []) (cert_line_text (LeafLine a))
    ≡ Some (read_so_far (Some seen_from) (done ++ a ∷ []) [])
leaf-next n seen_from top done a is few =
    line-next (line_taken (read_so_far (Some seen_from) done [])) _ (LeafLine a) _ (leaf-back n a top is)
    (cond-true (nat_lt (length done) 1048576) (Some (read_so_far (Some seen_from) (done ++ a ∷ []) [])) None
    (lt-ltb (length done) 1048576 few))

reason-next : (n : ℕ) (seen_from : CameraAt) (leaves : List ℕ) → n ≤ 14 → (done : List Reason) (r : Reason) →
    IsSplittable n r.triangle → length done < 1100000 →
    cert_line_in n (read_so_far (Some seen_from) leaves done) (cert_line_text (ReasonLine r))
    ≡ Some (read_so_far (Some seen_from) leaves (done ++ r ∷ []))
reason-next n seen_from leaves top done r is few =
    line-next (line_taken (read_so_far (Some seen_from) leaves done)) _ (ReasonLine r) _ (reason-back n r top is)
    (cond-true (nat_lt (length done) 1100000) (Some (read_so_far (Some seen_from) leaves (done ++ r ∷ []))) None
    (lt-ltb (length done) 1100000 few))

-- the lines of a certificate are read as it
pub lines-back : (n : ℕ) (cert : Certificate) → IsCertificateOf n cert →
    lines_read n nothing_read (cert_lines cert) ≡ Some (read_so_far (Some cert.camera) cert.leaves cert.reasons)
lines-back n cert is =
    let top = is.few.in_grid.1 in
    let place = cert.camera in
    lines-step (cert_line_in n) nothing_read (read_so_far (Some place) [] []) (cert_line_text (CameraLine place)) _
    (line-next (line_taken nothing_read) _ (CameraLine place) _ (camera-back n place is.camera) refl)
    ∙ entries-back (cert_line_in n) (λ done. read_so_far (Some place) done []) (λ a. cert_line_text (LeafLine a))
    (IsAddress n) 1048576 (leaf-next n place top) [] cert.leaves
    (map (λ r. cert_line_text (ReasonLine r)) cert.reasons) is.few.addresses
    (let few = is.few.few_leaves in omega arith)
    ∙ entries-end (cert_line_in n) (λ done. read_so_far (Some place) cert.leaves done)
    (λ r. cert_line_text (ReasonLine r)) (λ (r : Reason). IsSplittable n r.triangle) 1100000
    (reason-next n place cert.leaves top) cert.reasons is.few.splittable
    (let few = is.few.few_reasons in omega arith)

-- the text of a certificate is its lines, each with an LF (10) behind it
pub text-ended : (cert : Certificate) → cert_text cert ≡ flat_map (λ line. line ++ 10 ∷ []) (cert_lines cert)
text-ended cert =
    let leaves = map (λ a. cert_line_text (LeafLine a)) cert.leaves in
    let reasons = map (λ r. cert_line_text (ReasonLine r)) cert.reasons in
    append_assoc (ended_line (CameraLine cert.camera)) (flat_map leaf_text cert.leaves)
    (flat_map reason_text cert.reasons)
    ∙ ap (λ l. ended_line (CameraLine cert.camera) ++ l) (
    ap₂ (λ a b. a ++ b) (sym (lines-ended (λ a. cert_line_text (LeafLine a)) cert.leaves))
    (sym (lines-ended (λ r. cert_line_text (ReasonLine r)) cert.reasons))
    ∙ sym (flat_map-append (λ line. line ++ 10 ∷ []) leaves reasons))

-- each line of a certificate is one line: no LF stands within it
pub lines-whole : (n : ℕ) (cert : Certificate) → IsCertificateOf n cert → All IsOneLine (cert_lines cert)
lines-whole n cert is =
    let top = is.few.in_grid.1 in
    let reasons = map (λ r. cert_line_text (ReasonLine r)) cert.reasons in
    All-cons IsOneLine (cert_line_text (CameraLine cert.camera)) _ (camera-one n cert.camera is.camera)
    (entries-whole (λ a. cert_line_text (LeafLine a)) (IsAddress n) (λ a address. leaf-one n a top address)
    cert.leaves reasons is.few.addresses
    (entries-one (λ r. cert_line_text (ReasonLine r)) (λ (r : Reason). IsSplittable n r.triangle)
    (λ r splittable. reason-one n r top splittable) cert.reasons is.few.splittable))
