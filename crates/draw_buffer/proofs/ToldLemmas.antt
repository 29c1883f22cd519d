-- What each change leaves as it was, where no place is told to be written.
use Rattle.std.proofs.Common.{◌≡◌, ◌≢◌, ℕ, ◌+◌, ◌-◌, ◌<◌, List, [], ◌∷◌, ◌++◌, length, get_or, set, refl, sym, ap}
use Rattle.std.proofs.Common.{◌∙◌, arith}
use Rattle.std.specs.List.{swap_remove}
use Rattle.std.proofs.lemmas.List.{length-set, length_push, get_or-set_other, get_or_append_left, get_or-take}
use Rattle.draw_buffer.specs.declared.indices.Indices.{Indices}
use Rattle.draw_buffer.specs.Times.{times}
use Rattle.draw_buffer.specs.Exchange.{ExchangeState, KeepsUntold, IsGiven}
use Rattle.draw_buffer.proofs.TimesLemmas.{same-one, times-push, length-swap_remove}

-- a place that is told last is not one that is not told
apart : (told : List ℕ) (at k : ℕ) → times (told ++ at ∷ []) k ≡ 0 → k ≢ at
apart told at k none e = let more = times-push told at k in let one = same-one at k (sym e) in absurd (omega arith)

fewer : (told : List ℕ) (at k : ℕ) → times (told ++ at ∷ []) k ≡ 0 → times told k ≡ 0
fewer told at k none = let more = times-push told at k in omega arith

-- the other entries, after the last took the place of one
swap_remove-rest : {X : Type 0} (xs : List X) (at : ℕ) (e : X) (k : ℕ) (d : X) → k < length xs - 1 → k ≢ at
    → get_or (swap_remove xs at e) k d ≡ get_or xs k d
swap_remove-rest xs at e k d within u =
    get_or-take (length xs - 1) (set xs at (get_or xs (length xs - 1) e)) k d within
    ∙ get_or-set_other xs at k (get_or xs (length xs - 1) e) d u

-- where nothing changes, what is not told is as before
pub told-none : (e : ExchangeState) → KeepsUntold e e
told-none e = record {
  grows = λ k none. none;
  within = λ k inside none. inside;
  triangles_stay = λ k inside none. refl;
  corners_stay = λ k d inside none. refl;
}

-- two changes that keep what is not told keep it one after the other
pub told-trans : (e f g : ExchangeState) → KeepsUntold e f → KeepsUntold f g → KeepsUntold e g
told-trans e f g first second = record {
  grows = λ k none. first.grows k (second.grows k none);
  within = λ k inside none. first.within k (second.within k inside none) (second.grows k none);
  triangles_stay = λ k inside none. second.triangles_stay k inside none
      ∙ first.triangles_stay k (second.within k inside none) (second.grows k none);
  corners_stay = λ k d inside none. second.corners_stay k d inside none
      ∙ first.corners_stay k d (second.within k inside none) (second.grows k none);
}

-- a triangle is put behind the last
pub told-push : (e f : ExchangeState) (t : ℕ) (x : Indices) → length e.corners ≡ length e.triangles
    → f.written ≡ e.written ++ length e.triangles ∷ [] → f.triangles ≡ e.triangles ++ t ∷ [] →
    f.corners ≡ e.corners ++ x ∷ [] → KeepsUntold e f
told-push e f t x long told triangles corners =
    let before : (k : ℕ) → k < length f.triangles → times f.written k ≡ 0 → k < length e.triangles = λ k inside none.
    let u = apart e.written (length e.triangles) k (rw (← told) none) in
    let more = ap length triangles ∙ length_push e.triangles t in
    omega arith in
    record {
      grows = λ k none. fewer e.written (length e.triangles) k (rw (← told) none);
      within = before;
      triangles_stay = λ k inside none. ap (λ ts. get_or ts k 0) triangles
          ∙ get_or_append_left e.triangles (t ∷ []) 0 k (before k inside none);
      corners_stay = λ k d inside none.
          let low = before k inside none in
          ap (λ xs. get_or xs k d) corners ∙ get_or_append_left e.corners (x ∷ []) d k (omega arith);
    }

-- a triangle is put at a place
pub told-put : (e f : ExchangeState) (at t : ℕ) (x : Indices) → f.written ≡ e.written ++ at ∷ [] →
    f.triangles ≡ set e.triangles at t
    → f.corners ≡ set e.corners at x → KeepsUntold e f
told-put e f at t x told triangles corners =
    let other : (k : ℕ) → times f.written k ≡ 0 → k ≢ at = λ k none. apart e.written at k (rw (← told) none) in
    record {
      grows = λ k none. fewer e.written at k (rw (← told) none);
      within = λ k inside none. let same_length = ap length triangles ∙ length-set e.triangles at t in omega arith;
      triangles_stay =
          λ k inside none. ap (λ ts. get_or ts k 0) triangles ∙ get_or-set_other e.triangles at k t 0 (other k none);
      corners_stay =
          λ k d inside none. ap (λ xs. get_or xs k d) corners ∙ get_or-set_other e.corners at k x d (other k none);
    }

-- the last takes the place of another, which is told where it is not the last itself
pub told-close : (e f : ExchangeState) (at : ℕ) (x : Indices) → at < length e.triangles →
    length e.corners ≡ length e.triangles
    → ((k : ℕ) → times f.written k ≡ 0 → times e.written k ≡ 0) →
    ((k : ℕ) → k + 1 < length e.triangles → times f.written k ≡ 0 → k ≢ at)
    → f.triangles ≡ swap_remove e.triangles at 0 → f.corners ≡ swap_remove e.corners at x → KeepsUntold e f
told-close e f at x inside long grows other triangles corners =
    let short : length f.triangles + 1 ≡ length e.triangles =
    ap (λ ts. length ts + 1) triangles ∙ length-swap_remove e.triangles at 0 inside in
    record {
      grows = grows;
      within = λ k low none. omega arith;
      triangles_stay = λ k low none. ap (λ ts. get_or ts k 0) triangles
          ∙ swap_remove-rest e.triangles at 0 k 0 (omega arith) (other k (omega arith) none);
      corners_stay = λ k d low none. ap (λ xs. get_or xs k d) corners
          ∙ swap_remove-rest e.corners at x k d (omega arith) (other k (omega arith) none);
    }

-- the last takes the place of another, which is told
pub told-gap : (e f : ExchangeState) (at : ℕ) (x : Indices) → at < length e.triangles →
    length e.corners ≡ length e.triangles
    → f.written ≡ e.written ++ at ∷ [] → f.triangles ≡ swap_remove e.triangles at 0 →
    f.corners ≡ swap_remove e.corners at x → KeepsUntold e f
told-gap e f at x inside long told triangles corners =
    told-close e f at x inside long (λ k none. fewer e.written at k (rw (← told) none))
    (λ k low none. apart e.written at k (rw (← told) none)) triangles corners

-- ---- numbers that were given out

-- where nothing changes, each number keeps its point
pub given-none : (e : ExchangeState) → IsGiven e e
given-none e = record { grows = λ v none. none; points_stay = λ v none. refl; used = λ v some. (some, refl) }

-- two changes that keep the points of numbers not given out keep them one after the other
pub given-trans : (e f g : ExchangeState) → IsGiven e f → IsGiven f g → IsGiven e g
given-trans e f g first second = record {
  grows = λ v none. first.grows v (second.grows v none);
  points_stay = λ v none. second.points_stay v none ∙ first.points_stay v (second.grows v none);
  used = λ v some.
      let one = first.used v some in
      let two = second.used v one.0 in
      (two.0, two.1 ∙ one.1);
}
