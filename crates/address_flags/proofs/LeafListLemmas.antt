-- Leaves that are listed depth first, and their number.
use Rattle.std.proofs.Common.{◌≡◌, ℕ, ◌+◌, ◌*◌, ◌^◌, ◌≤◌, Bool, false, List, [], ◌∷◌, ◌++◌, length, length-append, ap₂}
use Rattle.std.proofs.Common.{arith, pow-add}
use Rattle.mesh_defs.specs.ClosedSet.{leaves_under, leaves_of}
use Rattle.mesh_laws.proofs.LeafLemmas.{leaves-most, leaves_under-whole, four-power}

-- all of them have room
pub leaves-room : (n : ℕ) (has : ℕ → Bool) → length (leaves_of n has) ≤ 2 ^ (2 * n + 1)
leaves-room n has =
    let most = leaves-most n has in let p = four-power n in let q = pow-add 2 (2 * n) 1 in omega arith

-- and are those below 2 and those below 3
pub leaves-halves : (n : ℕ) (has : ℕ → Bool) →
    length (leaves_of n has) ≡ length (leaves_under (2 * n) has 2) + length (leaves_under (2 * n) has 3)
unfolding leaves_of
leaves-halves n has = length-append (leaves_under (2 * n) has 2) (leaves_under (2 * n) has 3)

-- with no member they are 2 and 3
pub leaves-base : (n : ℕ) (has : ℕ → Bool) → ((a : ℕ) → has a ≡ false) → leaves_of n has ≡ 2 ∷ (3 ∷ [])
unfolding leaves_of
leaves-base n has none =
    ap₂ (λ (x y : List ℕ). x ++ y) (leaves_under-whole (2 * n) has 2 (none 2))
    (leaves_under-whole (2 * n) has 3 (none 3))
