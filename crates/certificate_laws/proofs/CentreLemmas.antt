-- Triangles whose centres are points, and the least closed set that has all of them: with one point more it is the
-- split of a triangle there.
use Rattle.std.proofs.Common.{◌≡◌, ◌⊎◌, ℕ, ◌^◌, Bool, true, false, IsTrue, List, []}
use Rattle.std.proofs.Common.{◌∷◌, ◌++◌, Contains, inl, inr, refl, sym, ◌∙◌, ap, subst, arith, ⊎_elim}
use Rattle.std.specs.Cmp.{IsEquivalence}
use Rattle.std.specs.List.{list_any}
use Rattle.std.proofs.lemmas.Bool.{false≢true, cases_Bool, both_ways}
use Rattle.std.proofs.lemmas.List.Elements.{Contains-append_left, Contains-push, Contains-push_cases}
use Rattle.std.proofs.lemmas.Map.Views.{Contains-from_any, list_any-from_Contains}
use Rattle.mesh_defs.specs.declared.point.Point.{Point}
use Rattle.mesh_defs.specs.Triangle.{IsSplittable}
use Rattle.mesh_defs.specs.ClosedSet.{IsClosed, IsSubset, IsLeastClosed}
use Rattle.mesh_defs.specs.Greedy.{with_triangle}
use Rattle.mesh_defs.specs.MeshText.{is_same_point}
use Rattle.mesh_defs.proofs.PointLemmas.{same_point-eq, eq-same_point}
use Rattle.mesh_defs.proofs.TestLemmas.{same_tests}
use Rattle.mesh_laws.proofs.ForcingLemmas.{with-cases, with-old, with-new}
use Rattle.mesh_laws.specs.Vertex.{centre_of, IsSquareCorner}
use Rattle.mesh_laws.proofs.VertexLemmas.{centre-inside}
use Rattle.fit_laws.proofs.CentreLemmas.{has_centre-splittable, has_centre-point, splittable-has_centre, centre-shared}
use Rattle.certificate_laws.specs.Keeping.{is_centred}

-- the test of two points for being the same one
pub same_points : IsEquivalence is_same_point
same_points = record {
  refl = λ p. eq-same_point p p refl;
  symm = λ p q. same_tests (is_same_point p q) (is_same_point q p) (turned p q) (turned q p);
  congr = same;
}
  where
    same : (p q r : Point) → is_same_point p q ≡ true → is_same_point p r ≡ is_same_point q r
    same p q r e = ap (λ (z : Point). is_same_point z r) (same_point-eq p q e)

    turned : (p q : Point) → is_same_point p q ≡ true → is_same_point q p ≡ true
    turned p q e = eq-same_point q p (sym (same_point-eq p q e))

-- whether a point is one of a list is decided
pub listed_or_not : (points : List Point) (p : Point) → Contains points p ⊎ (Contains points p → ⊥)
listed_or_not points p = ⊎_elim
    (λ is. inl (Contains-from_any same_point-eq p points is))
    (λ no. inr (λ listed.
    both_ways (list_any (is_same_point p) points) no (list_any-from_Contains same_points p points listed)))
    (cases_Bool (list_any (is_same_point p) points))

-- what is centred at points may be split, and has one of them as its centre
module _ (n : ℕ) (points : List Point) (a : ℕ) where
  abbrev listed : Point → Bool
  listed p = list_any (is_same_point p) points

  pub centred-splittable : IsTrue (is_centred n points a) → IsSplittable n a
  centred-splittable is = has_centre-splittable n listed a is

  pub centred-point : IsTrue (is_centred n points a) → Contains points (centre_of n a)
  centred-point is = Contains-from_any same_point-eq (centre_of n a) points (has_centre-point n listed a is)

  -- and what may be split and has one as its centre is centred
  pub is-centred : IsSplittable n a → Contains points (centre_of n a) → IsTrue (is_centred n points a)
  is-centred s contained = splittable-has_centre n listed a s
      (list_any-from_Contains same_points (centre_of n a) points contained)

-- what is centred at points is centred where they are among others
pub centred-within : (n : ℕ) (some all : List Point) → ((p : Point) → Contains some p → Contains all p) →
    IsSubset (is_centred n some) (is_centred n all)
centred-within n some all within a is = is-centred n all a (centred-splittable n some a is)
    (within (centre_of n a) (centred-point n some a is))

-- no point has no triangle
pub centred-none : (n : ℕ) (a : ℕ) → IsTrue (is_centred n [] a) → ⊥
centred-none n a is = none (centred-point n [] a is)
  where
    none : {p : Point} → Contains [] p → ⊥
    none (k, low, e) = absurd (omega (arith, low))

-- so the least closed set with none of them is empty
pub closure-none : (n : ℕ) (has : ℕ → Bool) → ((a : ℕ) → has a ≡ false) → IsClosed n has →
    IsLeastClosed n (is_centred n []) has
closure-none n has empty closed = record {
  closed = closed;
  holds = λ a is. absurd (centred-none n a is);
  least = λ other shut holds a is. absurd (false≢true (sym (empty a) ∙ is));
}

-- one point more

module _ (n : ℕ) (points : List Point) (p : Point) where
  -- what is centred at points is centred at more
  pub centred-more : (a : ℕ) → IsTrue (is_centred n points a) → IsTrue (is_centred n (points ++ p ∷ []) a)
  centred-more a is = is-centred n (points ++ p ∷ []) a (centred-splittable n points a is)
      (Contains-append_left points (p ∷ []) (centre_of n a) (centred-point n points a is))

  -- what is centred at one more is centred at the others or there
  pub centred-cases : (a : ℕ) → IsTrue (is_centred n (points ++ p ∷ []) a) →
      IsTrue (is_centred n points a) ⊎ (IsSplittable n a × (p ≡ centre_of n a))
  centred-cases a is =
      let s = centred-splittable n (points ++ p ∷ []) a is in
      ⊎_elim
      (λ old. inl (is-centred n points a s old))
      (λ new. inr (s, new))
      (Contains-push_cases points p (centre_of n a) (centred-point n (points ++ p ∷ []) a is))

  -- a corner of the square is no centre
  pub corner-none : IsSquareCorner (2 ^ n) p → (a : ℕ) → IsTrue (is_centred n (points ++ p ∷ []) a) →
      IsTrue (is_centred n points a)
  corner-none corner a is = ⊎_elim
      (λ old. old)
      (λ (new : IsSplittable n a × (p ≡ centre_of n a)).
      absurd (centre-inside n a new.0 (subst (λ q. IsSquareCorner (2 ^ n) q) new.1 corner)))
      (centred-cases a is)

  module _ (t : ℕ) (splittable : IsSplittable n t) (centre : centre_of n t ≡ p) where
    -- a closed set with the old ones and with the triangle has them all
    pub centred-held : (has : ℕ → Bool) → IsClosed n has → IsSubset (is_centred n points) has → IsTrue (has t) →
        IsSubset (is_centred n (points ++ p ∷ [])) has
    centred-held has closed old member a is = ⊎_elim
        (λ before. old a before)
        (λ (new : IsSplittable n a × (p ≡ centre_of n a)).
        centre-shared n has a t closed new.0 splittable (sym new.1 ∙ sym centre) ∙ member)
        (centred-cases a is)

    -- and the triangle is one of them
    pub centred-last : IsTrue (is_centred n (points ++ p ∷ []) t)
    centred-last = is-centred n (points ++ p ∷ []) t splittable
        (subst (λ q. Contains (points ++ p ∷ []) q) (sym centre) (Contains-push points p))

    -- so its split makes the least closed set with one point more
    pub closure-more : (has next : ℕ → Bool) → IsLeastClosed n (is_centred n points) has →
        IsLeastClosed n (with_triangle has t) next → IsLeastClosed n (is_centred n (points ++ p ∷ [])) next
    closure-more has next before least = record {
      closed = least.closed;
      holds = centred-held next least.closed
          (λ a is. least.holds a (with-old has t a (before.holds a is)))
          (least.holds t (with-new has t));
      least = λ other shut holds. least.least other shut (λ a h. ⊎_elim
          (λ old. before.least other shut (λ b is. holds b (centred-more b is)) a old)
          (λ same. subst (λ z. IsTrue (other z)) same (holds t centred-last))
          (with-cases has t a h));
    }
