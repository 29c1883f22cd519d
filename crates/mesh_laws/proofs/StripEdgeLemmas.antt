-- Edges that lie on a segment and begin at one of its ends: in a conforming list two of them are one.
use Rattle.std.proofs.Common.{◌≡◌, ℕ, ◌<◌, ◌⊎◌, inl, inr, Bool, true, false, not, List, Contains, sym, subst, arith}
use Rattle.std.proofs.Common.{⊎_elim}
use Rattle.std.proofs.lemmas.Bool.{cases_lt}
use Rattle.mesh_defs.specs.declared.point.Point.{Point}
use Rattle.mesh_defs.specs.declared.point.Corners.{Corners}
use Rattle.mesh_defs.specs.Triangle.{corners_of, IsCorner, IsEdge}
use Rattle.mesh_defs.specs.Tiling.{IsStrictlyBetween, IsConforming}
use Rattle.mesh_laws.proofs.WayLemmas.{Way, IsRun, IsRun-same, IsInside-between, IsStrictlyBetween-inside}
use Rattle.mesh_laws.proofs.WayLemmas.{IsStrictlyBetween-reversed}
use Rattle.mesh_laws.specs.Strip.{SharesEdge}

-- ---- segments

-- r is the end q of the segment from p, or lies inside it
abbrev pub IsOnSegment : Point → Point → Point → Type 0
IsOnSegment p q r = (r ≡ q) ⊎ IsStrictlyBetween p q r

-- then it lies some steps along the run from p to q
on_run : (w : Way) (k : ℕ) (p q r : Point) → 0 < k → IsRun w k p q → IsOnSegment p q r →
    (j : ℕ) × (0 < j) × IsRun w j p r
on_run w k p q r some run (inl e) = (k, some, subst (λ z. IsRun w k p z) (sym e) run)
on_run w k p q r some run (inr b) = let i = IsInside-between w k p q r some run b in (i.0, i.1, i.3)

-- two points some steps along one way are one, or one lies inside the segment to the other
along_one_way : (w : Way) (i j : ℕ) (p r s : Point) → 0 < i → 0 < j → IsRun w i p r → IsRun w j p s →
    (r ≡ s) ⊎ (IsStrictlyBetween p s r ⊎ IsStrictlyBetween p r s)
along_one_way w i j p r s some other run way = ⊎_elim
    (λ less. inr (inl (IsStrictlyBetween-inside w j p s r way (i, some, less, run))))
    (λ least. ⊎_elim
    (λ more. inr (inr (IsStrictlyBetween-inside w i p r s run (j, other, more, way))))
    (λ most. let same : j ≡ i = omega arith in inl (IsRun-same w i p r s run (subst (λ k. IsRun w k p s) same way)))
    (cases_lt j i))
    (cases_lt i j)

-- ---- edges at a point

-- from p to q is an edge of c: out of p, or into it
abbrev pub IsEdgeAt : Bool → Corners → Point → Point → Type 0
IsEdgeAt true c p q = IsEdge c p q
IsEdgeAt false c p q = IsEdge c q p

-- triangle e has a corner at p, and an edge from there that lies on the segment from p to q
pub record HasEdgeAlong (n : ℕ) (out : Bool) (e : ℕ) (p q : Point) : Type 0 where
  pub far : Point
  pub edge : IsEdgeAt out (corners_of n e) p far
  pub within : IsOnSegment p q far

-- the same on a longer segment
pub HasEdgeAlong-longer : (n : ℕ) (out : Bool) (e : ℕ) (p m q : Point) → IsStrictlyBetween p q m →
    ((r : Point) → IsStrictlyBetween p m r → IsStrictlyBetween p q r) → HasEdgeAlong n out e p m →
    HasEdgeAlong n out e p q
HasEdgeAlong-longer n out e p m q inside longer along = record {
  far = along.far;
  edge = along.edge;
  within = inr (⊎_elim (λ same. subst (λ z. IsStrictlyBetween p q z) (sym same) inside)
      (λ b. longer along.far b) along.within);
}

-- the far end of an edge is a corner
IsCorner-far : (out : Bool) (c : Corners) (p q : Point) → IsEdgeAt out c p q → IsCorner c q
IsCorner-far true c p q (inl e) = inr (inl e.1)
IsCorner-far true c p q (inr (inl e)) = inr (inr e.1)
IsCorner-far true c p q (inr (inr e)) = inl e.1
IsCorner-far false c p q (inl e) = inl e.0
IsCorner-far false c p q (inr (inl e)) = inr (inl e.0)
IsCorner-far false c p q (inr (inr e)) = inr (inr e.0)

module _ (n : ℕ) (list : List ℕ) (conforming : IsConforming n list) where
  -- no corner lies inside an edge
  not_inside : (out : Bool) (e f : ℕ) (p q r : Point) → Contains list e → Contains list f →
      IsCorner (corners_of n e) r → IsEdgeAt out (corners_of n f) p q → IsStrictlyBetween p q r → ⊥
  not_inside true e f p q r in_e in_f corner edge b = conforming.whole_edges e f p q r in_e in_f corner edge b
  not_inside false e f p q r in_e in_f corner edge b =
      conforming.whole_edges e f q p r in_e in_f corner edge (IsStrictlyBetween-reversed p q r b)

  -- two edges from p on one segment end at one point
  same_far : (out back : Bool) (e f : ℕ) (w : Way) (k : ℕ) (p q : Point) → 0 < k → IsRun w k p q →
      Contains list e → Contains list f → (x : HasEdgeAlong n out e p q) →
      (y : HasEdgeAlong n back f p q) → x.far ≡ y.far
  same_far out back e f w k p q some run in_e in_f x y =
      let i = on_run w k p q x.far some run x.within in
      let j = on_run w k p q y.far some run y.within in
      ⊎_elim
      (λ same. same)
      (λ differ. absurd (⊎_elim
      (λ b. not_inside back e f p y.far x.far in_e in_f (IsCorner-far out (corners_of n e) p x.far x.edge) y.edge b)
      (λ b. not_inside out f e p x.far y.far in_f in_e (IsCorner-far back (corners_of n f) p y.far y.edge) x.edge b)
      differ))
      (along_one_way w i.0 j.0 p x.far y.far i.1 j.1 i.2 j.2)

  -- so two triangles with edges on one segment, one into its end and one out of it, share an edge
  pub SharesEdge-along : (out : Bool) (e f : ℕ) (w : Way) (k : ℕ) (p q : Point) → 0 < k → IsRun w k p q →
      Contains list e → Contains list f → HasEdgeAlong n (not out) e p q → HasEdgeAlong n out f p q → SharesEdge n e f
  SharesEdge-along true e f w k p q some run in_e in_f x y =
      let same : x.far ≡ y.far = same_far false true e f w k p q some run in_e in_f x y in
      record { from = x.far; to = p; here = x.edge; there = subst (λ z. IsEdge (corners_of n f) p z) (sym same) y.edge }
  SharesEdge-along false e f w k p q some run in_e in_f x y =
      let same : x.far ≡ y.far = same_far true false e f w k p q some run in_e in_f x y in
      record { from = p; to = x.far; here = x.edge; there = subst (λ z. IsEdge (corners_of n f) z p) (sym same) y.edge }
