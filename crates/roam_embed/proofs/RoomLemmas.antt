-- How long the text of a certificate is at most: 43 bytes for the camera, 16 for a leaf and 17 for a reason.
use Rattle.std.proofs.Common.{◌≡◌, ℕ, zero, suc, ◌+◌, ◌*◌, ◌^◌, ◌<◌, ◌≤◌, All, List, [], ◌∷◌, ◌++◌, length, ℤ, pos, negsuc}
use Rattle.std.proofs.Common.{unsigned_abs, codes, arith, sym, subst, length-append, pow_mono}
use Rattle.std.specs.List.{flat_map}
use Rattle.std.specs.Fmt.{decimal, signed_decimal}
use Rattle.std.proofs.lemmas.Fmt.{length-decimal-le, length_signed_le}
use Rattle.std.proofs.lemmas.List.Elements.{All-head, All-tail, All-nil, All-cons}
use Rattle.mesh_defs.specs.BoundingBox.{CameraAt}
use Rattle.mesh_defs.specs.State.{State}
use Rattle.mesh_defs.specs.Triangle.{level_of, IsAddress, IsSplittable}
use Rattle.bintree_laws.proofs.LevelLemmas.{lt-pow-level}
use Rattle.view_priority.specs.Camera.{IsCamera}
use Rattle.certificate_laws.specs.declared.reason.Reason.{Reason}
use Rattle.certificate_laws.specs.declared.reason.Kind.{Kind}
use Rattle.certificate_laws.specs.declared.reason.Kind.TheVariants.{Want, Parent, Mate}
use Rattle.certificate_laws.specs.Certificate.{AreReasons, named_in}
use Rattle.cert_text.specs.Lines.{ended}
use Rattle.cert_text.specs.Certificate.{Certificate}
use Rattle.cert_text.specs.CertText.{number_text, kind_text, leaf_text, reason_text, cert_text}
use Rattle.roam_embed.specs.Certificates.{IsCertificateAt, IsCertificateText}

-- texts of so many bytes at most, one after another
flat-short : {A : Type 0} (f : A → List ℕ) (P : A → Type 0) (most : ℕ) → ((a : A) → P a → length (f a) ≤ most) →
    (xs : List A) → All P xs → length (flat_map f xs) ≤ most * length xs
flat-short f P most short [] all = omega arith
flat-short f P most short (x ∷ xs) all =
    let one = short x (All-head P x xs all) in
    let rest = flat-short f P most short xs (All-tail P x xs all) in
    omega (arith, length-append (f x) (flat_map f xs))

-- a number of the camera
signed-short : (v : ℤ) → unsigned_abs v ≤ 2 ^ 30 → length (signed_decimal v) ≤ 11
signed-short (pos n) small =
    let short = length-decimal-le 10 n (omega arith) (omega arith) (omega arith) in omega arith
signed-short (negsuc n) small =
    let short = length-decimal-le 10 (suc n) (omega arith) (omega arith) (omega arith) in omega arith

-- the camera's line
abbrev camera_text : CameraAt → List ℕ
camera_text place = ended (codes "camera" ++ number_text place.x ++ number_text place.y ++ number_text place.z)

line-length : (a b c : List ℕ) → length (ended (codes "camera" ++ (32 ∷ a) ++ (32 ∷ b) ++ (32 ∷ c)))
    ≡ 10 + length a + length b + length c
line-length a b c = omega (
  arith,
  length-append (a ++ (32 ∷ b) ++ (32 ∷ c)) (10 ∷ []),
  length-append (a ++ (32 ∷ b)) (32 ∷ c),
  length-append a (32 ∷ b),
)

camera-short : (place : CameraAt) → IsCamera place → length (camera_text place) ≤ 43
camera-short place camera =
    let x = signed-short place.x camera.x_small in
    let y = signed-short place.y camera.y_small in
    let z = signed-short place.z camera.z_small in
    omega (arith, line-length (signed_decimal place.x) (signed_decimal place.y) (signed_decimal place.z))

kind-short : (kind : Kind) → length (kind_text kind) ≤ 6
kind-short Want = omega arith
kind-short Parent = omega arith
kind-short Mate = omega arith

module _ (n : ℕ) (small : n ≤ 14) where
  leaf-short : (a : ℕ) → IsAddress n a → length (leaf_text a) ≤ 16
  leaf-short a address =
      let fits : 2 * n + 2 ≤ 30 = omega arith in
      let most : 2 ^ (2 * n + 2) ≤ 2 ^ 30 = pow_mono fits in
      let high = address.high in
      let short = length-decimal-le 10 a (omega arith) (omega arith) (omega arith) in
      omega (arith, length-append (decimal a) (10 ∷ []))

  -- a triangle of a reason may be split, so its address is below that of a finest one
  reason-short : (r : Reason) → IsSplittable n r.triangle → length (reason_text r) ≤ 17
  reason-short r split =
      let coarse = split.coarse in
      let low = lt-pow-level r.triangle split.low in
      let fits : level_of r.triangle ≤ 27 = omega arith in
      let most : 2 ^ level_of r.triangle ≤ 2 ^ 27 = pow_mono fits in
      let short = length-decimal-le 9 r.triangle (omega arith) (omega arith) (omega arith) in
      let word = kind-short r.kind in
      omega (
        arith,
        length-append (kind_text r.kind ++ (32 ∷ decimal r.triangle)) (10 ∷ []),
        length-append (kind_text r.kind) (32 ∷ decimal r.triangle),
      )

  reasons-split : (priority : ℕ → ℕ) (worst : ℕ) (before reasons : List Reason) →
      AreReasons n priority worst before reasons → All (λ (r : Reason). IsSplittable n r.triangle) reasons
  reasons-split priority worst before [] are = All-nil (λ (r : Reason). IsSplittable n r.triangle)
  reasons-split priority worst before (r ∷ reasons) are =
      All-cons (λ (r : Reason). IsSplittable n r.triangle) r reasons are.0.splittable
      (reasons-split priority worst (before ++ r ∷ []) reasons are.1)

-- so the text has room in 33 bytes for each triangle of the budget and 48 more
pub certificate-short : (state : State) (place : CameraAt) (text : List ℕ) → state.grid.n ≤ 14 → IsCamera place →
    IsCertificateText state place text → length text ≤ 48 + 33 * state.budget
certificate-short state place text small camera (cert, is, same) =
    let leaves : ℕ = length (flat_map leaf_text cert.leaves) in
    let reasons : ℕ = length (flat_map reason_text cert.reasons) in
    let one = camera-short cert.camera (subst IsCamera (sym is.camera) camera) in
    let two : leaves ≤ 16 * length cert.leaves = flat-short leaf_text (IsAddress state.grid.n) 16 (leaf-short state.grid.n small)
    cert.leaves is.best.conforming.addresses in
    let three : reasons ≤ 17 * length cert.reasons =
    flat-short reason_text (λ (r : Reason). IsSplittable state.grid.n r.triangle) 17 (reason-short state.grid.n small)
    cert.reasons (reasons-split state.grid.n small _ _ [] cert.reasons is.sound.reasoned) in
    let within = is.best.within in
    let few = is.few in
    let whole : length (cert_text cert) ≤ 48 + 33 * state.budget = omega (
      arith,
      length-append (camera_text cert.camera ++ flat_map leaf_text cert.leaves) (flat_map reason_text cert.reasons),
      length-append (camera_text cert.camera) (flat_map leaf_text cert.leaves),
    ) in
    subst (λ t. length t ≤ 48 + 33 * state.budget) (sym same) whole
