-- Closures of lists, with one entry more; parents; and what is behind a list that is behind another.
use Rattle.std.proofs.Common.{◌≡◌, ℕ, ◌*◌, ◌/◌, ◌^◌, ◌+◌, ◌≤◌, List, [], ◌++◌, sym}
use Rattle.std.proofs.Common.{◌∙◌, ap, append_assoc, arith, pow-add}
use Rattle.std.proofs.lemmas.List.{append-nil}
use Rattle.mesh_defs.specs.Triangle.{IsAddress, IsSplittable}
use Rattle.mesh_laws.proofs.SweepLemmas.{lt-splittable}
use Rattle.fit_mesh.specs.Log.{Extends}

-- the parent of a triangle of the grid may be split
pub parent-splittable : (n a : ℕ) → IsAddress n a → 4 ≤ a → IsSplittable n (a / 2)
parent-splittable n a address big =
    let p : 2 ^ (2 * n + 2) ≡ 2 ^ (2 * n + 1) * 2 ^ 1 = ap (λ k. 2 ^ k) (let e : 2 * n + 2 ≡ (2 * n + 1) + 1 = omega arith in e)
    ∙ pow-add 2 (2 * n + 1) 1 in
    let high = address.high in
    lt-splittable n (a / 2) (omega arith) (omega arith)

-- of one list
pub extends-same : (log : List ℕ) → Extends log log
extends-same log = ([], sym (append-nil log))

-- of three lists
pub extends-extends : (some more all : List ℕ) → Extends some more → Extends more all → Extends some all
extends-extends some more all first second = (
  first.0 ++ second.0,
  second.1 ∙ ap (λ (l : List ℕ). l ++ second.0) first.1 ∙ append_assoc some first.0 second.0,
)
