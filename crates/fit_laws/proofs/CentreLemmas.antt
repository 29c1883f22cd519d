-- Triangles by their centres: what such a triangle is, and that a closed set has all with one centre, or none.
use Rattle.std.proofs.Common.{◌≡◌, ℕ, ◌*◌, Bool, ◌&&◌, nat_le, nat_lt, IsTrue, sym, ◌∙◌, ap}
use Rattle.std.proofs.lemmas.Bool.{and_parts, and_from, leb-true, ltb-true, le-leb, lt-ltb}
use Rattle.mesh_defs.specs.declared.point.Point.{Point}
use Rattle.mesh_defs.specs.Triangle.{level_of, IsSplittable}
use Rattle.mesh_defs.specs.ClosedSet.{IsClosed, leaves_of}
use Rattle.mesh_laws.specs.Vertex.{is_mesh_vertex, centre_of}
use Rattle.mesh_laws.proofs.VertexLemmas.{centre-member}
use Rattle.fit_laws.specs.Centre.{has_centre}

module _ (n : ℕ) (points : Point → Bool) (a : ℕ) where
  abbrev is_coarse : Bool
  is_coarse = nat_le 2 a && nat_lt (level_of a) (2 * n)

  -- it may be split
  pub has_centre-splittable : IsTrue (has_centre n points a) → IsSplittable n a
  has_centre-splittable is =
      let test = and_parts (nat_le 2 a) (nat_lt (level_of a) (2 * n))
      (and_parts is_coarse (points (centre_of n a)) is).0 in
      record { low = leb-true 2 a test.0; coarse = ltb-true (level_of a) (2 * n) test.1 }

  -- and its centre is one of the points
  pub has_centre-point : IsTrue (has_centre n points a) → IsTrue (points (centre_of n a))
  has_centre-point is = (and_parts is_coarse (points (centre_of n a)) is).1

  -- and the other way round
  pub splittable-has_centre : IsSplittable n a → IsTrue (points (centre_of n a)) → IsTrue (has_centre n points a)
  splittable-has_centre s listed = and_from is_coarse (points (centre_of n a))
      (and_from (nat_le 2 a) (nat_lt (level_of a) (2 * n)) (le-leb 2 a s.low) (lt-ltb (level_of a) (2 * n) s.coarse))
      listed

-- a closed set has all triangles with one centre, or none
pub centre-shared : (n : ℕ) (has : ℕ → Bool) (a t : ℕ) → IsClosed n has → IsSplittable n a → IsSplittable n t →
    centre_of n a ≡ centre_of n t → has a ≡ has t
centre-shared n has a t closed s splittable same =
    sym (centre-member n has a closed s) ∙ ap (is_mesh_vertex n (leaves_of n has)) same
    ∙ centre-member n has t closed splittable
