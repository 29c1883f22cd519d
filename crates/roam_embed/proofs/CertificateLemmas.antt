-- A certificate at a place is that of an engine which stands there without planes; and so is its text.
use Rattle.std.proofs.Common.{◌≡◌, ℕ, ◌<◌, ◌≤◌, List, ◌++◌, length, drop, Result, Ok, Err, IfOk, refl, ap, subst, arith}
use Rattle.std.proofs.Common.{inl, inr, unsigned_abs}
use Rattle.mesh_defs.specs.BoundingBox.{CameraAt}
use Rattle.mesh_defs.specs.State.{State}
use Rattle.cert_text.specs.Certificate.{Certificate}
use Rattle.cert_text.specs.CertText.{cert_text}
use Rattle.view_priority.specs.Camera.{IsCamera}
use Rattle.roam_embed.specs.declared.answer.Answer.{Answer}
use Rattle.roam_embed.specs.declared.answer.Answer.TheVariants.{Done, NoRoom}
use Rattle.roam_embed.specs.Answer.{number_of}
use Rattle.roam_embed.proofs.RoomLemmas.{certificate-short}
use Rattle.roam_embed.specs.Certificates.{unplaned_at, IsCertificateAt, IsCertificateText, IsCertificateTold}

-- who stands at the place without planes sees what is seen from there without planes
certificate-again : (state : State) (place : CameraAt) (cert : Certificate) →
    IsCertificateAt (unplaned_at place state) place cert → IsCertificateAt state place cert
certificate-again state place cert w = record { camera = w.camera; best = w.best; sound = w.sound; few = w.few }

pub certificate-of : {E : Type 0} (state now : State) (place : CameraAt) (r : Result Certificate E) →
    now ≡ unplaned_at place state
    → IfOk r (IsCertificateAt now place) → IfOk r (IsCertificateAt state place)
certificate-of state now place (Ok cert) same w =
    certificate-again state place cert (subst (λ s. IsCertificateAt s place cert) same w)
certificate-of state now place (Err e) same w = tt

-- its text is that of a certificate
pub text-of : {V E : Type 0} (items : V → List ℕ) (state : State) (place : CameraAt)
    (cert : Certificate) (r : Result V E)
    → IsCertificateAt state place cert → IfOk r (λ text. items text ≡ cert_text cert) →
    IfOk r (λ text. IsCertificateText state place (items text))
text-of items state place cert (Ok text) w is = (cert, w, is)
text-of items state place cert (Err e) w is = tt

-- the size of an answer's number
abbrev size : Answer → ℕ
size answer = unsigned_abs (number_of answer)

-- a text that has room is written
pub told-done : (state : State) (place : CameraAt) (before after text : List ℕ) (count_before count : ℕ) →
    IsCamera place → IsCertificateText state place text
    → length text ≤ length before → after ≡ text ++ drop (length text) before → count ≡ length text
    → IsCertificateTold state place before after count_before count Done
told-done state place before after text count_before count camera is fits written counted = record {
  bad_camera = (λ same. (let h : 0 ≡ 5 = ap size same in absurd (omega arith)), λ none. absurd (none camera));
  others = (λ _. camera, λ _. inl refl);
  no_room = λ same. (let h : 0 ≡ 11 = ap size same in absurd (omega arith));
  written = λ _. (text, is, fits, counted, written);
  room = λ _ same. (let h : 0 ≡ 11 = ap size same in absurd (omega arith));
  unwritten = λ not. absurd (not refl);
  uncounted = λ not. absurd (not refl);
}

-- and one that has none is not
pub told-no_room : (state : State) (place : CameraAt) (before after text : List ℕ) (count_before count : ℕ) →
    state.grid.n ≤ 14 → IsCamera place → IsCertificateText state place text
    → length before < length text → after ≡ before → count ≡ count_before →
    IsCertificateTold state place before after count_before count NoRoom
told-no_room state place before after text count_before count small camera is short unwritten uncounted = record {
  bad_camera = (λ same. (let h : 11 ≡ 5 = ap size same in absurd (omega arith)), λ none. absurd (none camera));
  others = (λ _. camera, λ _. inr (inl refl));
  no_room = λ _. (text, is, short);
  written = λ same. (let h : 11 ≡ 0 = ap size same in absurd (omega arith));
  room = λ more _. (let most = certificate-short state place text small camera is in absurd (omega arith));
  unwritten = λ _. unwritten;
  uncounted = λ _. uncounted;
}
