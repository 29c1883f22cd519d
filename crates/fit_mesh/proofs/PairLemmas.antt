-- The children of a triangle: their levels, and those that are neither split nor finest.
use Rattle.std.proofs.Common.{◌≡◌, ℕ, ◌+◌, ◌*◌, ◌/◌, ◌<◌, ◌≤◌, ◌⊎◌, Bool, IsTrue, ap, arith, ⊎_elim}
use Rattle.mesh_defs.specs.Triangle.{level_of, IsSplittable}
use Rattle.bintree_laws.proofs.LevelLemmas.{level_of-parent, level-le}
use Rattle.fit_laws.specs.Error.{IsExactAtFinest}
use Rattle.fit_mesh.proofs.PendingLemmas.{child-address}

-- a level below
pub child-level : (t a : ℕ) → 2 ≤ t → a / 2 ≡ t → level_of a ≡ level_of t + 1
child-level t a low half =
    let below : level_of a ≡ level_of (a / 2) + 1 = level_of-parent a (omega arith) in
    let above : level_of (a / 2) ≡ level_of t = ap level_of half in
    omega arith

-- where each child is split or finest, one with an error is split
pub all-split : (n : ℕ) (error : ℕ → ℕ) (has : ℕ → Bool) (t : ℕ) → IsExactAtFinest n error → IsSplittable n t →
    ((a : ℕ) → 2 ≤ a → a / 2 ≡ t → IsTrue (has a) ⊎ (2 * n ≤ level_of a)) →
    (a : ℕ) → 2 ≤ a → a / 2 ≡ t → 0 < error a → IsTrue (has a)
all-split n error has t exact s closed a low half some = ⊎_elim
    (λ split. split)
    (λ (fine : 2 * n ≤ level_of a).
    let address = child-address n t a s low half in
    let le : level_of a ≤ 2 * n = level-le n a address in
    let none : error a ≡ 0 = exact a address (omega arith) in
    absurd (omega arith))
    (closed a low half)
