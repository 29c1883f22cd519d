-- A conforming mesh tiles the rectangle.
use Rattle.std.proofs.Common.{◌≡◌, ℕ, ◌*◌, ◌/◌, ◌<◌, ◌∙◌, List, length, ap, arith, slice_index}
use Rattle.mesh_defs.specs.declared.point.Point.{Point}
use Rattle.mesh_cover.specs.Mesh.{IsTiling}
use Rattle.mesh_cover.specs.Conforming.{corner_in, rises_before, IsConforming}
use Rattle.mesh_cover.proofs.NearLemmas.{tiles}

pub conforming-tiles : (right top : ℕ) (points : List Point) (heights corners across : List ℕ) → 0 < right → 0 < top →
    length corners ≡ length corners / 3 * 3 → IsConforming right top points heights corners across →
    IsTiling right top (length corners / 3) (corner_in points corners)
conforming-tiles right top points heights corners across wide high threes mesh =
    tiles right top (length corners / 3) (corner_in points corners) (slice_index across) wide high (record {
      within = λ h less. (mesh.corner h (omega arith)).1;
      turns = mesh.turned;
      below = λ h less. (mesh.joined h (omega arith)).below;
      back = λ h less. (mesh.joined h (omega arith)).back;
      seams = λ h less. (mesh.joined h (omega arith)).seam;
      sides = λ y less.
          let e : rises_before right points corners across (length corners / 3 * 3) y ≡ rises_before right points corners across (length corners) y =
          ap (λ n. rises_before right points corners across n y) (let same : length corners / 3 * 3 ≡ length corners = omega arith in same) in
          e ∙ mesh.sides y less;
    })
