-- Between the ends of an inner row there is nothing of the border.
use Rattle.std.proofs.Common.{◌≡◌, ℕ, ◌+◌, ◌-◌, ◌*◌, ◌/◌, ◌%◌, ◌^◌, ◌<◌, ◌≤◌, subst, arith}
use Rattle.std.proofs.Math.Pow.{pow_mono}
use Rattle.mesh_defs.specs.HeightField.{side_of}
use Rattle.roam_embed.proofs.BorderLemmas.{inner-row, row-below}
use Rattle.roam_embed.proofs.border.next_on_border.Goals as goal

pub returns-clause-between : goal.returns-clause-between
returns-clause-between c k low high is =
    let n : ℕ = c.args.n in
    let place : ℕ = c.args.place in
    let deep = c.requires.in_grid.1 in
    let small : 2 ^ n ≤ 2 ^ 14 = pow_mono deep in
    let shift : 1 * 2 ^ n % 4294967296 ≡ 2 ^ n = omega arith in
    let at : place % side_of n ≡ 0 = subst (λ z. place % (z + 1) ≡ 0) shift c.if-place-side-ne0.false in
    let row : 0 < place / side_of n =
    subst (λ z. 0 < place / (z + 1)) shift (let h = c.if-row-eq0.false in omega arith) in
    let under = row-below (side_of n) place (omega arith) c.requires.place in
    let below : place / side_of n + 1 < side_of n =
    (let h = subst (λ z. place / (z + 1) + 1 ≡ z + 1 → ⊥) shift c.if-row-side.false in omega arith) in
    inner-row n place k at row below low (subst (λ z. k < place + (z + 1) - 1) shift high) is
