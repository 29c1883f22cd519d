-- Mates in tiles: within a tile they are those of the small grid, by their corners; and across the sides of tiles.
use Rattle.std.proofs.Common.{◌≡◌, ◌≢◌, ℕ, ◌+◌, ◌*◌, ◌/◌, ◌^◌, ◌<◌, ◌≤◌, ◌↔◌, inl, inr, refl, sym, ◌∙◌}
use Rattle.std.proofs.Common.{ap, ap₂, subst, arith, ⊎_elim}
use Rattle.std.proofs.lemmas.Bool.{cases_lt}
use Rattle.mesh_defs.specs.declared.point.Point.{Point}
use Rattle.mesh_defs.specs.declared.point.Corners.{Corners}
use Rattle.mesh_defs.specs.Triangle.{level_of, corners_of, midpoint, IsAddress, IsSplittable, SameEnds, IsMate}
use Rattle.mesh_defs.specs.Triangle.{HasBorderBase}
use Rattle.bintree_laws.proofs.LevelLemmas.{level_of-root}
use Rattle.bintree_laws.proofs.LatticeLemmas.{same_point}
use Rattle.bintree_laws.proofs.MateLemmas.{IsMate-pair}
use Rattle.bintree_laws.proofs.CentreLemmas.{mate_unique, not_border_and_mate, border_or_mate, same_centre}
use Rattle.bintree_laws.proofs.CentreLemmas.{mate_reversed}
use Rattle.mesh_laws.proofs.DescentLemmas.{IsAddress-splittable}
use Rattle.mosaic_laws.specs.Tile.{IsTile, in_tile, placed, moved}
use Rattle.mosaic_laws.proofs.AddressLemmas.{level-some, in_tile-level, in_tile-big, in_tile-address, in_tile-inside}
use Rattle.mosaic_laws.proofs.AddressLemmas.{in_tile-unique, in_tile-apart}
use Rattle.mosaic_laws.proofs.CornerLemmas.{in_tile-corners, in_tile-midpoint}

-- moved bases

placed-unique : (m : ℕ) (t p q : Point) → placed m t p ≡ placed m t q → p ≡ q
placed-unique m t p q same =
    let e : m * t.x + p.x ≡ m * t.x + q.x = ap (λ (r : Point). r.x) same in
    let f : m * t.y + p.y ≡ m * t.y + q.y = ap (λ (r : Point). r.y) same in
    same_point p.x p.y q.x q.y (omega arith) (omega arith)

SameEnds-moved : (m : ℕ) (t : Point) (c d : Corners) → SameEnds c d → SameEnds (moved m t c) (moved m t d)
SameEnds-moved m t c d (inl (e, f)) = inl (ap (placed m t) e, ap (placed m t) f)
SameEnds-moved m t c d (inr (e, f)) = inr (ap (placed m t) e, ap (placed m t) f)

SameEnds-back : (m : ℕ) (t : Point) (c d : Corners) → SameEnds (moved m t c) (moved m t d) → SameEnds c d
SameEnds-back m t c d (inl (e, f)) = inl (placed-unique m t c.v0 d.v0 e, placed-unique m t c.v1 d.v1 f)
SameEnds-back m t c d (inr (e, f)) = inr (placed-unique m t c.v0 d.v1 e, placed-unique m t c.v1 d.v0 f)

-- levels of mates

-- what is neither 2 nor 3 has such a level
pub level-big : (a : ℕ) → 2 ≤ a → 1 ≤ level_of a → 4 ≤ a
level-big a low some = ⊎_elim
    (λ (small : a < 4). let z = level_of-root a low small in absurd (omega arith))
    (λ big. big)
    (cases_lt a 4)

-- so has its mate
pub mate-big : (n a c : ℕ) → 4 ≤ a → IsMate n a c → 4 ≤ c
mate-big n a c big mate =
    let some = level-some a big in let same = mate.level in level-big c mate.address.low (omega arith)

-- 2 and 3 are mates
pub mate-first : (n : ℕ) → IsMate n 2 3
mate-first n =
    let z = level_of-root 2 (omega arith) (omega arith) in
    IsMate-pair n 2 3 (omega arith) (omega arith) (rw z refl)

-- the other way round
pub mate-second : (n : ℕ) → IsMate n 3 2
mate-second n =
    let z = level_of-root 3 (omega arith) (omega arith) in
    IsMate-pair n 3 2 (omega arith) (omega arith) (rw z refl)

-- mates in tiles

module _ (n p : ℕ) (t : Point) (tile : IsTile (2 ^ p) (2 ^ p) t) where
  -- the triangles of mates are mates
  pub mate-in : (a c : ℕ) → 4 ≤ a → IsAddress n a → IsMate n a c → IsMate (n + p) (in_tile p t a) (in_tile p t c)
  mate-in a c big address mate =
      let large : 4 ≤ c = mate-big n a c big mate in
      let l = in_tile-level p t a big in
      let m = in_tile-level p t c large in
      let same = mate.level in
      record {
        address = in_tile-address p t n c large mate.address;
        other = λ one. mate.other (in_tile-unique p t c a tile large big one);
        level = omega arith;
        base = subst (λ k. SameEnds k (corners_of (n + p) (in_tile p t c)))
            (sym (in_tile-corners p t tile n a big address))
            (subst (λ k. SameEnds (moved (2 ^ n) t (corners_of n a)) k)
            (sym (in_tile-corners p t tile n c large mate.address))
            (SameEnds-moved (2 ^ n) t (corners_of n a) (corners_of n c) mate.base));
      }

  -- and the other way round
  pub mate-out : (a c : ℕ) → 4 ≤ a → 4 ≤ c → IsAddress n a → IsMate (n + p) (in_tile p t a) (in_tile p t c) →
      IsMate n a c
  mate-out a c big large address mate =
      let l = in_tile-level p t a big in
      let m = in_tile-level p t c large in
      let same = mate.level in
      let address' : IsAddress n c = in_tile-inside p t n c large mate.address in
      record {
        address = address';
        other = λ one. mate.other (ap (in_tile p t) one);
        level = omega arith;
        base = SameEnds-back (2 ^ n) t (corners_of n a) (corners_of n c)
            (subst (λ k. SameEnds k (moved (2 ^ n) t (corners_of n c))) (in_tile-corners p t tile n a big address)
            (subst (λ k. SameEnds (corners_of (n + p) (in_tile p t a)) k)
            (in_tile-corners p t tile n c large address') mate.base));
      }

  -- so a triangle with its base on the small square's border has no mate in the tile
  pub mate-border : (a c : ℕ) → 4 ≤ a → 4 ≤ c → IsAddress n a → HasBorderBase n a →
      IsMate (n + p) (in_tile p t a) (in_tile p t c) → ⊥
  mate-border a c big large address border mate =
      not_border_and_mate n a c address border (mate-out a c big large address mate)

  -- a triangle with its mate in another tile has its base there
  pub beyond-border : (u : Point) (a c : ℕ) → IsTile (2 ^ p) (2 ^ p) u → t ≢ u → 4 ≤ a → 4 ≤ c → IsAddress n a →
      IsMate (n + p) (in_tile p t a) (in_tile p u c) → HasBorderBase n a
  beyond-border u a c tile' other big large address mate = ⊎_elim
      (λ border. border)
      (λ (m : (e : ℕ) × IsMate n a e).
      let same : in_tile p t m.0 ≡ in_tile p u c =
      mate_unique (n + p) (in_tile p t a) (in_tile p t m.0) (in_tile p u c) (in_tile-address p t n a big address)
      (mate-in a m.0 big address m.1) mate in
      absurd (other (in_tile-apart p t u m.0 c tile tile' (mate-big n a m.0 big m.1) large same)))
      (border_or_mate n a address)

  -- the triangle of a splittable one is splittable
  pub in_tile-splittable : (a : ℕ) → 4 ≤ a → IsSplittable n a → IsSplittable (n + p) (in_tile p t a)
  in_tile-splittable a big s =
      let level = in_tile-level p t a big in
      let coarse = s.coarse in
      let low = in_tile-big p t a big in
      record { low = omega arith; coarse = omega arith }

midpoint-reversed : (p q : Point) → midpoint p q ≡ midpoint q p
midpoint-reversed p q =
    same_point ((p.x + q.x) / 2) ((p.y + q.y) / 2) ((q.x + p.x) / 2) ((q.y + p.y) / 2) (omega arith) (omega arith)

-- two splittable triangles of different tiles are mates exactly if their bases have one midpoint
pub mates-midpoint : (n p : ℕ) (t u : Point) (a c : ℕ) → IsTile (2 ^ p) (2 ^ p) t → IsTile (2 ^ p) (2 ^ p) u → t ≢ u →
    4 ≤ a → 4 ≤ c → IsSplittable n a → IsSplittable n c →
    IsMate (n + p) (in_tile p t a) (in_tile p u c)
    ↔ (placed (2 ^ n) t (midpoint (corners_of n a).v0 (corners_of n a).v1)
    ≡ placed (2 ^ n) u (midpoint (corners_of n c).v0 (corners_of n c).v1))
mates-midpoint n p t u a c tile tile' other big large s z =
    let e = in_tile-midpoint p t tile n a big s in
    let f = in_tile-midpoint p u tile' n c large z in (
      (λ mate.
          let reversed = mate_reversed (n + p) (in_tile p t a) (in_tile p u c)
          (in_tile-address p t n a big (IsAddress-splittable n a s)) mate in
          sym e
          ∙ ap₂ midpoint reversed.0 reversed.1
          ∙ midpoint-reversed (corners_of (n + p) (in_tile p u c)).v1 (corners_of (n + p) (in_tile p u c)).v0
          ∙ f),
      (λ same. ⊎_elim
          (λ (one : in_tile p u c ≡ in_tile p t a).
          absurd (other (in_tile-apart p t u a c tile tile' big large (sym one))))
          (λ mate. mate)
          (same_centre (n + p) (in_tile p t a) (in_tile p u c)
          (in_tile-splittable n p t tile a big s) (in_tile-splittable n p u tile' c large z) (e ∙ same ∙ sym f))),
    )
