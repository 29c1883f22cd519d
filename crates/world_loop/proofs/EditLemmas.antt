-- Areas in which heights change.
use Rattle.std.proofs.Common.{◌≡◌, ℕ, true, false, sym, subst, arith}
use Rattle.std.proofs.lemmas.Bool.{both_ways}
use Rattle.mesh_defs.specs.declared.point.Point.{Point}
use Rattle.mesh_defs.specs.State.{Area, is_in_area}
use Rattle.mesh_defs.specs.Triangle.{corners_of}
use Rattle.bintree_laws.specs.Areas.{overlaps}
use Rattle.bintree_laws.proofs.AreaLemmas.{made-area}
use Rattle.roam_mesh.specs.Mesh.{MeshState}
use Rattle.view_mesh.specs.Expiry.{IsExpired}

-- the triangles whose stamps expired, by the world's area
pub met-area : {before after : MeshState} {n : ℕ} {area other : Area} → before.pool.n ≡ n → other ≡ area →
    IsExpired before after (λ a. overlaps (corners_of before.pool.n a) other) →
    IsExpired before after (λ a. overlaps (corners_of n a) area)
met-area {before} {after} {area = area} n is =
    λ e. subst (λ k. IsExpired before after (λ a. overlaps (corners_of k a) area)) n
    (subst (λ (z : Area). IsExpired before after (λ a. overlaps (corners_of before.pool.n a) z)) is e)

-- a point outside of the area of one point is another one
pub point-apart : (p r : Point) (area : Area) → area ≡ record { x0 = p.x; y0 = p.y; x1 = p.x; y1 = p.y } →
    is_in_area area r.x r.y ≡ false → r ≡ p → ⊥
point-apart p r area is out same = both_ways (is_in_area area r.x r.y) out
    (subst (λ (z : Point). is_in_area area z.x z.y ≡ true) (sym same)
    (subst (λ (z : Area). is_in_area z p.x p.y ≡ true) (sym is)
    (made-area (record { x0 = p.x; y0 = p.y; x1 = p.x; y1 = p.y }) p.x p.y record {
      left = omega arith;
      right = omega arith;
      bottom = omega arith;
      top = omega arith;
    })))
