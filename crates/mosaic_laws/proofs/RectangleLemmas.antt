-- Rectangles of tiles: sets that agree within a rectangle are the part of sets that agree in the whole square, by
-- mirror images beyond its sides; so where no tile beyond has an error of its own the rectangle can be fitted alone.
use Rattle.std.proofs.Common.{◌≡◌, ◌≢◌, ℕ, zero, suc, ◌+◌, ◌-◌, ◌*◌, ◌/◌, ◌%◌, ◌^◌, ◌<◌, ◌≤◌, ◌⊎◌, inl, inr, refl, sym}
use Rattle.std.proofs.Common.{◌∙◌, ap, subst, arith, ⊎_elim, Bool, ◌&&◌, ◌||◌, IsTrue, nat_le, nat_lt, min}
use Rattle.std.proofs.Common.{mul-le-mul_left, pow_pos}
use Rattle.std.proofs.lemmas.Bool.{cases_lt, cases_eq, and_parts, and_from, ltb-true, lt-ltb, leb-true, le-leb}
use Rattle.std.proofs.lemmas.Bool.{or_cases, or_left, or_right}
use Rattle.mesh_defs.specs.declared.point.Point.{Point}
use Rattle.mesh_defs.specs.declared.point.Corners.{Corners}
use Rattle.mesh_defs.specs.Triangle.{level_of, corners_of, IsAddress, IsSplittable, SameEnds, IsMate}
use Rattle.mesh_defs.specs.ClosedSet.{IsClosed, IsSubset}
use Rattle.mesh_defs.proofs.TestLemmas.{same_tests}
use Rattle.bintree_laws.proofs.LevelLemmas.{level_of-root, level-le}
use Rattle.bintree_laws.proofs.LatticeLemmas.{same_point}
use Rattle.bintree_laws.proofs.CornerLemmas.{IsWithin-corners_of}
use Rattle.mesh_laws.proofs.DescentLemmas.{IsAddress-level, IsAddress-splittable}
use Rattle.fit_laws.specs.Settled.{IsFineEnough}
use Rattle.fit_laws.proofs.SettledLemmas.{settled-outer, outer-settled}
use Rattle.fit_laws.specs.Required.{IsLeastSettledWith}
use Rattle.mosaic_laws.specs.Tile.{IsTile, in_tile, is_part, placed, moved}
use Rattle.mosaic_laws.specs.Glue.{is_coarse, glue, IsAgreed}
use Rattle.mosaic_laws.proofs.AddressLemmas.{level-some, in_tile-level, in_tile-address, in_tile-unique, in_tile-apart}
use Rattle.mosaic_laws.proofs.CornerLemmas.{in_tile-corners}
use Rattle.mosaic_laws.proofs.MateLemmas.{mate-in, mate-out, mate-big}
use Rattle.mosaic_laws.proofs.ClosedLemmas.{cases_point, part-parts, closed-second, closed-some}
use Rattle.mosaic_laws.proofs.ClosedLemmas.{glue-coarse, coarse-parts, glue-out}
use Rattle.mosaic_laws.specs.Rounds.{tile_error}
use Rattle.mosaic_laws.specs.Beyond.{mirrored_if, nearest_in, is_odd_beyond, nearest, image, extended}
use Rattle.mosaic_laws.proofs.ImageLemmas.{if-level, if-big, if-parent, if-ends, reflected_if, HasEnds, ends-same}
use Rattle.mosaic_laws.proofs.RoundLemmas.{tile-wider, glue-fine}

-- one coordinate

-- a coordinate in a tile, from the other side if wanted
abbrev along : ℕ → ℕ → ℕ → ℕ
along zero m x = x
along (suc _) m x = m - x

-- where a coordinate of tile i is in the nearest tile
abbrev put : ℕ → ℕ → ℕ → ℕ → ℕ
put count m i x = m * nearest_in count i + along (is_odd_beyond count i) m x

-- the end of a tile and the beginning of the next are put at one place
seam-next : (count m i : ℕ) → 1 ≤ count → put count m i m ≡ put count m (i + 1) 0
seam-next count m i some = ⊎_elim
    (λ (within : i + 1 < count).
    let a : min i (count - 1) ≡ i = omega arith in
    let b : min (i + 1) (count - 1) ≡ i + 1 = omega arith in
    let c : (i + 1 - count) % 2 ≡ 0 = omega arith in
    let d : (i + 1 + 1 - count) % 2 ≡ 0 = omega arith in
    rw (a, b, c, d) (omega arith))
    (λ (beyond : count ≤ i + 1).
    let a : min i (count - 1) ≡ count - 1 = omega arith in
    let b : min (i + 1) (count - 1) ≡ count - 1 = omega arith in
    ⊎_elim
    (λ (even : (i + 1 - count) % 2 ≡ 0).
    let d : (i + 1 + 1 - count) % 2 ≡ 1 = omega arith in rw (a, b, even, d) (omega arith))
    (λ (odd : (i + 1 - count) % 2 ≢ 0).
    let c : (i + 1 - count) % 2 ≡ 1 = omega arith in
    let d : (i + 1 + 1 - count) % 2 ≡ 0 = omega arith in rw (a, b, c, d) (omega arith))
    (cases_eq ((i + 1 - count) % 2) 0))
    (cases_lt (i + 1) count)

seam-less : (count m i j x y : ℕ) → 1 ≤ count → 0 < m → x ≤ m → i < j → m * i + x ≡ m * j + y →
    put count m i x ≡ put count m j y
seam-less count m i j x y some large small less same =
    let le : m * (i + 1) ≤ m * j = mul-le-mul_left m (omega arith) in
    let end : x ≡ m = omega arith in
    let start : y ≡ 0 = omega arith in
    let next : j ≡ i + 1 = ⊎_elim
    (λ (far : i + 1 < j).
    let le' : m * (i + 2) ≤ m * j = mul-le-mul_left m (omega arith) in absurd (omega arith))
    (λ (near : j ≤ i + 1). omega arith)
    (cases_lt (i + 1) j) in
    rw (end, start, next) (seam-next count m i some)

-- one coordinate of two tiles is put at one place
seam : (count m i j x y : ℕ) → 1 ≤ count → 0 < m → x ≤ m → y ≤ m → m * i + x ≡ m * j + y →
    put count m i x ≡ put count m j y
seam count m i j x y some large small little same = ⊎_elim
    (λ (less : i < j). seam-less count m i j x y some large small less same)
    (λ (more : j ≤ i). ⊎_elim
    (λ (less : j < i). sym (seam-less count m j i y x some large little less (sym same)))
    (λ (least : i ≤ j).
    let one : i ≡ j = omega arith in
    let e : m * i ≡ m * j = ap (λ k. m * k) one in
    let f : x ≡ y = omega arith in rw (one, f) refl)
    (cases_lt j i))
    (cases_lt i j)

-- points

reflected-both : (across up m : ℕ) (r : Point) →
    reflected_if up 1 m (reflected_if across 0 m r) ≡ record { x = along across m r.x; y = along up m r.y }
reflected-both zero zero m r = refl
reflected-both zero (suc _) m r = refl
reflected-both (suc _) zero m r = refl
reflected-both (suc _) (suc _) m r = refl

module _ (columns rows : ℕ) (wide : 1 ≤ columns) (high : 1 ≤ rows) where
  -- where a point of tile t is in the nearest tile
  abbrev put_point : ℕ → Point → Point → Point
  put_point m t r = placed m (nearest columns rows t)
      (reflected_if (is_odd_beyond rows t.y) 1 m (reflected_if (is_odd_beyond columns t.x) 0 m r))

  put-coordinates : (m : ℕ) (t r : Point) →
      put_point m t r ≡ record { x = put columns m t.x r.x; y = put rows m t.y r.y }
  put-coordinates m t r =
      ap (placed m (nearest columns rows t)) (reflected-both (is_odd_beyond columns t.x) (is_odd_beyond rows t.y) m r)

  -- one point of two tiles is put at one place
  put-same : (m : ℕ) (t u r s : Point) → 0 < m → r.x ≤ m → r.y ≤ m → s.x ≤ m → s.y ≤ m →
      placed m t r ≡ placed m u s → put_point m t r ≡ put_point m u s
  put-same m t u r s large a b c d same =
      put-coordinates m t r
      ∙ same_point (put columns m t.x r.x) (put rows m t.y r.y) (put columns m u.x s.x) (put rows m u.y s.y)
      (seam columns m t.x u.x r.x s.x wide large a c (ap (λ (q : Point). q.x) same))
      (seam rows m t.y u.y r.y s.y high large b d (ap (λ (q : Point). q.y) same))
      ∙ sym (put-coordinates m u s)

-- images in tiles

module _ (columns rows : ℕ) (t : Point) where
  abbrev seen : ℕ → ℕ
  seen a = image columns rows t a

  seen-level : (a : ℕ) → 4 ≤ a → level_of (seen a) ≡ level_of a
  seen-level a big =
      if-level (is_odd_beyond rows t.y) 1 (mirrored_if (is_odd_beyond columns t.x) 0 a)
      (if-big (is_odd_beyond columns t.x) 0 a big)
      ∙ if-level (is_odd_beyond columns t.x) 0 a big

  seen-big : (a : ℕ) → 4 ≤ a → 4 ≤ seen a
  seen-big a big =
      if-big (is_odd_beyond rows t.y) 1 (mirrored_if (is_odd_beyond columns t.x) 0 a)
      (if-big (is_odd_beyond columns t.x) 0 a big)

  seen-parent : (a : ℕ) → 8 ≤ a → seen a / 2 ≡ seen (a / 2)
  seen-parent a big =
      let level = if-level (is_odd_beyond columns t.x) 0 a (omega arith) in
      let some : 4 ≤ mirrored_if (is_odd_beyond columns t.x) 0 a / 2 = rw
      (if-parent (is_odd_beyond columns t.x) 0 a big)
      (if-big (is_odd_beyond columns t.x) 0 (a / 2) (omega arith)) in
      if-parent (is_odd_beyond rows t.y) 1 (mirrored_if (is_odd_beyond columns t.x) 0 a) (omega arith)
      ∙ ap (mirrored_if (is_odd_beyond rows t.y) 1) (if-parent (is_odd_beyond columns t.x) 0 a big)

  seen-address : (n a : ℕ) → 4 ≤ a → IsAddress n a → IsAddress n (seen a)
  seen-address n a big address =
      let fits = level-le n a address in
      let level = seen-level a big in
      let low = seen-big a big in
      IsAddress-level n (seen a) (omega arith) (omega arith)

  -- the ends of its base
  seen-ends : (n a : ℕ) (q r : Point) → 4 ≤ a → IsAddress n a → HasEnds (corners_of n a) q r →
      HasEnds (corners_of n (seen a))
      (reflected_if (is_odd_beyond rows t.y) 1 (2 ^ n) (reflected_if (is_odd_beyond columns t.x) 0 (2 ^ n) q))
      (reflected_if (is_odd_beyond rows t.y) 1 (2 ^ n) (reflected_if (is_odd_beyond columns t.x) 0 (2 ^ n) r))
  seen-ends n a q r big address ends =
      let fits = level-le n a address in
      let level = if-level (is_odd_beyond columns t.x) 0 a big in
      if-ends (is_odd_beyond rows t.y) 1 n (mirrored_if (is_odd_beyond columns t.x) 0 a)
      (reflected_if (is_odd_beyond columns t.x) 0 (2 ^ n) q) (reflected_if (is_odd_beyond columns t.x) 0 (2 ^ n) r)
      (if-big (is_odd_beyond columns t.x) 0 a big) (omega arith)
      (if-ends (is_odd_beyond columns t.x) 0 n a q r big fits ends)

ends-moved : (m : ℕ) (t : Point) (c d : Corners) (q r : Point) → d ≡ moved m t c → HasEnds c q r →
    HasEnds d (placed m t q) (placed m t r)
ends-moved m t c d q r is (inl (e, f)) =
    inl (ap (λ (c : Corners). c.v0) is ∙ ap (placed m t) e, ap (λ (c : Corners). c.v1) is ∙ ap (placed m t) f)
ends-moved m t c d q r is (inr (e, f)) =
    inr (ap (λ (c : Corners). c.v0) is ∙ ap (placed m t) e, ap (λ (c : Corners). c.v1) is ∙ ap (placed m t) f)

-- extended sets

module _ (columns rows n p : ℕ) (wide : 1 ≤ columns) (high : 1 ≤ rows) (fits : columns ≤ 2 ^ p) (fits' : rows ≤ 2 ^ p)
    (sets : Point → ℕ → Bool) where
  abbrev more : Point → ℕ → Bool
  more t a = extended columns rows sets t a

  near : Point → Point
  near t = nearest columns rows t

  near-tile : (t : Point) → IsTile columns rows (nearest columns rows t)
  near-tile t = record { column = omega arith; row = omega arith }

  near-inside : (t : Point) → IsTile (2 ^ p) (2 ^ p) (nearest columns rows t)
  near-inside t = tile-wider columns rows (2 ^ p) (nearest columns rows t) fits fits' (near-tile t)

  -- 2 and 3 are members
  more-first : (t : Point) (a : ℕ) → 2 ≤ a → a < 4 → IsTrue (more t a)
  more-first t a low less =
      and_from (nat_le 2 a) (nat_lt a 4 || sets (nearest columns rows t) (image columns rows t a)) (le-leb 2 a low)
      (or_left (nat_lt a 4) (sets (nearest columns rows t) (image columns rows t a)) (lt-ltb a 4 less))

  -- and the images of members
  more-from : (t : Point) (a : ℕ) → 2 ≤ a → IsTrue (sets (nearest columns rows t) (image columns rows t a)) → IsTrue
      (more t a)
  more-from t a low is =
      and_from (nat_le 2 a) (nat_lt a 4 || sets (nearest columns rows t) (image columns rows t a)) (le-leb 2 a low)
      (or_right (nat_lt a 4) (sets (nearest columns rows t) (image columns rows t a)) is)

  more-low : (t : Point) (a : ℕ) → IsTrue (more t a) → 2 ≤ a
  more-low t a h =
      leb-true 2 a (and_parts (nat_le 2 a) (nat_lt a 4 || sets (nearest columns rows t) (image columns rows t a)) h).0

  more-out : (t : Point) (a : ℕ) → 4 ≤ a → IsTrue (more t a) → IsTrue
      (sets (nearest columns rows t) (image columns rows t a))
  more-out t a big h =
      let q = and_parts (nat_le 2 a) (nat_lt a 4 || sets (nearest columns rows t) (image columns rows t a)) h in ⊎_elim
      (λ small. let less = ltb-true a 4 small in absurd (omega arith))
      (λ is. is)
      (or_cases (nat_lt a 4) (sets (nearest columns rows t) (image columns rows t a)) q.1)

  -- in the rectangle nothing is changed
  pub more-same : (t : Point) (a : ℕ) → IsTile columns rows t → 4 ≤ a →
      sets (nearest columns rows t) (image columns rows t a) ≡ sets t a
  more-same t a tile big =
      let column = tile.column in let row = tile.row in
      let i : min t.x (columns - 1) ≡ t.x = omega arith in
      let j : min t.y (rows - 1) ≡ t.y = omega arith in
      let c : (t.x + 1 - columns) % 2 ≡ 0 = omega arith in
      let d : (t.y + 1 - rows) % 2 ≡ 0 = omega arith in
      rw (i, j, c, d) refl

  module _ (closed : (t : Point) → IsTile columns rows t → IsClosed n (sets t))
      (centres : (t : Point) → IsTile columns rows t → IsTrue (sets t 2))
      (agreed : IsAgreed columns rows n p sets) where
    -- two triangles with the same ends of their bases: if the image of the one is a member, that of the other is
    carried : (t u : Point) (a c : ℕ) → IsTile (2 ^ p) (2 ^ p) t → IsTile (2 ^ p) (2 ^ p) u → 4 ≤ a → 4 ≤ c →
        IsAddress n a → IsAddress n c → level_of a ≡ level_of c →
        SameEnds (corners_of (n + p) (in_tile p t a)) (corners_of (n + p) (in_tile p u c)) →
        IsTrue (sets (nearest columns rows t) (image columns rows t a)) →
        IsTrue (sets (nearest columns rows u) (image columns rows u c))
    carried t u a c tile tile' big large address address' level ends is =
        let a' : ℕ = image columns rows t a in
        let c' : ℕ = image columns rows u c in
        let x : ℕ = in_tile p (nearest columns rows t) (image columns rows t a) in
        let y : ℕ = in_tile p (nearest columns rows u) (image columns rows u c) in
        let big' : 4 ≤ image columns rows t a = seen-big columns rows t a big in
        let large' : 4 ≤ image columns rows u c = seen-big columns rows u c large in
        let own : IsAddress n (image columns rows t a) = seen-address columns rows t n a big address in
        let own' : IsAddress n (image columns rows u c) = seen-address columns rows u n c large address' in
        let same : SameEnds (corners_of (n + p) (in_tile p (nearest columns rows t) (image columns rows t a)))
        (corners_of (n + p) (in_tile p (nearest columns rows u) (image columns rows u c))) =
        image-ends t u a c tile tile' big large address address' ends in
        ⊎_elim
        (λ (one : in_tile p (nearest columns rows t) (image columns rows t a)
        ≡ in_tile p (nearest columns rows u) (image columns rows u c)).
        let place : nearest columns rows t ≡ nearest columns rows u = in_tile-apart p (nearest columns rows t)
        (nearest columns rows u) (image columns rows t a) (image columns rows u c) (near-inside t) (near-inside u) big'
        large' one in
        let number : image columns rows t a ≡ image columns rows u c = in_tile-unique p (nearest columns rows u)
        (image columns rows t a) (image columns rows u c) (near-inside u) big' large'
        (ap (λ z. in_tile p z (image columns rows t a)) (sym place) ∙ one) in
        subst (λ z. IsTrue (sets z (image columns rows u c))) place
        (subst (λ z. IsTrue (sets (nearest columns rows t) z)) number is))
        (λ (two : in_tile p (nearest columns rows t) (image columns rows t a)
        ≢ in_tile p (nearest columns rows u) (image columns rows u c)).
        let l = in_tile-level p (nearest columns rows t) (image columns rows t a) big' in
        let m = in_tile-level p (nearest columns rows u) (image columns rows u c) large' in
        let i = seen-level columns rows t a big in
        let j = seen-level columns rows u c large in
        let mates : IsMate (n + p) (in_tile p (nearest columns rows t) (image columns rows t a))
        (in_tile p (nearest columns rows u) (image columns rows u c)) = record {
          address = in_tile-address p (nearest columns rows u) n (image columns rows u c) large' own';
          other = λ e. two (sym e);
          level = omega arith;
          base = same;
        } in
        ⊎_elim
        (λ (here : nearest columns rows t ≡ nearest columns rows u).
        let inside : IsMate (n + p) (in_tile p (nearest columns rows t) (image columns rows t a))
        (in_tile p (nearest columns rows t) (image columns rows u c)) =
        subst (λ z. IsMate (n + p) (in_tile p (nearest columns rows t) (image columns rows t a))
        (in_tile p z (image columns rows u c))) (sym here) mates in
        subst (λ z. IsTrue (sets z (image columns rows u c))) here
        ((closed (nearest columns rows t) (near-tile t)).mate (image columns rows t a) (image columns rows u c) is
        (mate-out n p (nearest columns rows t) (near-inside t) (image columns rows t a) (image columns rows u c) big'
        large' own inside)))
        (λ (there : nearest columns rows t ≢ nearest columns rows u).
        agreed (nearest columns rows t) (nearest columns rows u) (image columns rows t a) (image columns rows u c)
        (near-tile t) (near-tile u) there own own' big' large' mates is)
        (cases_point (nearest columns rows t) (nearest columns rows u)))
        (cases_eq (in_tile p (nearest columns rows t) (image columns rows t a))
        (in_tile p (nearest columns rows u) (image columns rows u c)))
      where
        tile_ends : (t : Point) (a : ℕ) (q r : Point) → 4 ≤ a → IsAddress n a → HasEnds (corners_of n a) q r →
            HasEnds (corners_of (n + p) (in_tile p (nearest columns rows t) (image columns rows t a)))
            (put_point columns rows wide high (2 ^ n) t q) (put_point columns rows wide high (2 ^ n) t r)
        tile_ends t a q r big address ends =
            ends-moved (2 ^ n) (nearest columns rows t) (corners_of n (image columns rows t a))
            (corners_of (n + p) (in_tile p (nearest columns rows t) (image columns rows t a)))
            (reflected_if (is_odd_beyond rows t.y) 1 (2 ^ n) (reflected_if (is_odd_beyond columns t.x) 0 (2 ^ n) q))
            (reflected_if (is_odd_beyond rows t.y) 1 (2 ^ n) (reflected_if (is_odd_beyond columns t.x) 0 (2 ^ n) r))
            (in_tile-corners p (nearest columns rows t) (near-inside t) n (image columns rows t a)
            (seen-big columns rows t a big) (seen-address columns rows t n a big address))
            (seen-ends columns rows t n a q r big address ends)

        point_same : (t u q r : Point) → q.x ≤ 2 ^ n → q.y ≤ 2 ^ n → r.x ≤ 2 ^ n → r.y ≤ 2 ^ n →
            placed (2 ^ n) t q ≡ placed (2 ^ n) u r →
            put_point columns rows wide high (2 ^ n) t q ≡ put_point columns rows wide high (2 ^ n) u r
        point_same t u q r a b c d same = put-same columns rows wide high (2 ^ n) t u q r (pow_pos n) a b c d same

        image-ends : (t u : Point) (a c : ℕ) → IsTile (2 ^ p) (2 ^ p) t → IsTile (2 ^ p) (2 ^ p) u → 4 ≤ a → 4 ≤ c →
            IsAddress n a → IsAddress n c →
            SameEnds (corners_of (n + p) (in_tile p t a)) (corners_of (n + p) (in_tile p u c)) →
            SameEnds (corners_of (n + p) (in_tile p (nearest columns rows t) (image columns rows t a)))
            (corners_of (n + p) (in_tile p (nearest columns rows u) (image columns rows u c)))
        image-ends t u a c tile tile' big large address address' ends =
            let e : corners_of (n + p) (in_tile p t a) ≡ moved (2 ^ n) t (corners_of n a) =
            in_tile-corners p t tile n a big address in
            let f : corners_of (n + p) (in_tile p u c) ≡ moved (2 ^ n) u (corners_of n c) =
            in_tile-corners p u tile' n c large address' in
            let w = IsWithin-corners_of n a in
            let v = IsWithin-corners_of n c in
            let first = tile_ends t a (corners_of n a).v0 (corners_of n a).v1 big address (inl (refl, refl)) in
            let second = tile_ends u c (corners_of n c).v0 (corners_of n c).v1 large address' (inl (refl, refl)) in
            ends-same (corners_of (n + p) (in_tile p (nearest columns rows t) (image columns rows t a)))
            (corners_of (n + p) (in_tile p (nearest columns rows u) (image columns rows u c)))
            (put_point columns rows wide high (2 ^ n) u (corners_of n c).v0)
            (put_point columns rows wide high (2 ^ n) u (corners_of n c).v1)
            (⊎_elim
            (λ (s : (placed (2 ^ n) t (corners_of n a).v0 ≡ placed (2 ^ n) u (corners_of n c).v0)
            × (placed (2 ^ n) t (corners_of n a).v1 ≡ placed (2 ^ n) u (corners_of n c).v1)).
            subst (λ z. HasEnds (corners_of (n + p) (in_tile p (nearest columns rows t) (image columns rows t a))) z
            (put_point columns rows wide high (2 ^ n) u (corners_of n c).v1))
            (point_same t u (corners_of n a).v0 (corners_of n c).v0 w.v0_x w.v0_y v.v0_x v.v0_y s.0)
            (subst (λ z. HasEnds (corners_of (n + p) (in_tile p (nearest columns rows t) (image columns rows t a)))
            (put_point columns rows wide high (2 ^ n) t (corners_of n a).v0) z)
            (point_same t u (corners_of n a).v1 (corners_of n c).v1 w.v1_x w.v1_y v.v1_x v.v1_y s.1) first))
            (λ (s : (placed (2 ^ n) t (corners_of n a).v0 ≡ placed (2 ^ n) u (corners_of n c).v1)
            × (placed (2 ^ n) t (corners_of n a).v1 ≡ placed (2 ^ n) u (corners_of n c).v0)).
            exchanged (corners_of (n + p) (in_tile p (nearest columns rows t) (image columns rows t a)))
            (put_point columns rows wide high (2 ^ n) u (corners_of n c).v1)
            (put_point columns rows wide high (2 ^ n) u (corners_of n c).v0)
            (subst (λ z. HasEnds (corners_of (n + p) (in_tile p (nearest columns rows t) (image columns rows t a))) z
            (put_point columns rows wide high (2 ^ n) u (corners_of n c).v0))
            (point_same t u (corners_of n a).v0 (corners_of n c).v1 w.v0_x w.v0_y v.v1_x v.v1_y s.0)
            (subst (λ z. HasEnds (corners_of (n + p) (in_tile p (nearest columns rows t) (image columns rows t a)))
            (put_point columns rows wide high (2 ^ n) t (corners_of n a).v0) z)
            (point_same t u (corners_of n a).v1 (corners_of n c).v0 w.v1_x w.v1_y v.v0_x v.v0_y s.1) first)))
            (subst (λ k. SameEnds (moved (2 ^ n) t (corners_of n a)) k) f
            (subst (λ k. SameEnds k (corners_of (n + p) (in_tile p u c))) e ends)))
            second
          where
            exchanged : (d : Corners) (q r : Point) → HasEnds d q r → HasEnds d r q
            exchanged d q r (inl h) = inr h
            exchanged d q r (inr h) = inl h

    some : 1 ≤ n
    some =
        let corner : Point = record { x = 0; y = 0 } in
        let tile : IsTile columns rows (record { x = 0; y = 0 }) = record { column = omega arith; row = omega arith } in
        closed-some n (sets (record { x = 0; y = 0 })) (closed (record { x = 0; y = 0 }) tile)
        (centres (record { x = 0; y = 0 }) tile)

    more-splittable : (t : Point) (a : ℕ) → IsTrue (more t a) → IsSplittable n a
    more-splittable t a h =
        let low = more-low t a h in
        let one = some in
        ⊎_elim
        (λ (less : a < 4). let z = level_of-root a low less in record { low = low; coarse = omega arith })
        (λ (big : 4 ≤ a).
        let coarse = ((closed (nearest columns rows t) (near-tile t)).splittable (image columns rows t a)
        (more-out t a big h)).coarse in
        let level = seen-level columns rows t a big in
        record { low = low; coarse = omega arith })
        (cases_lt a 4)

    -- they are closed
    pub more-closed : (t : Point) → IsTile (2 ^ p) (2 ^ p) t → IsClosed n (more t)
    more-closed t tile = record {
      splittable = more-splittable t;
      parent = λ a h big. ⊎_elim
          (λ (less : a < 8). more-first t (a / 2) (omega arith) (omega arith))
          (λ (large : 8 ≤ a). more-from t (a / 2) (omega arith)
          (subst (λ z. IsTrue (sets (nearest columns rows t) z)) (seen-parent columns rows t a large)
          ((closed (nearest columns rows t) (near-tile t)).parent (image columns rows t a) (more-out t a big h)
          (seen-big columns rows t a big))))
          (cases_lt a 8);
      mate = λ a c h mate. ⊎_elim
          (λ (less : a < 4).
          let z = level_of-root a (more-low t a h) less in
          let same = mate.level in
          more-first t c mate.address.low (⊎_elim
          (λ (small : c < 4). small)
          (λ (large : 4 ≤ c). let deep = level-some c large in absurd (omega arith))
          (cases_lt c 4)))
          (λ (big : 4 ≤ a).
          let address : IsAddress n a = IsAddress-splittable n a (more-splittable t a h) in
          more-from t c mate.address.low
          (carried t t a c tile tile big (mate-big n a c big mate) address mate.address (sym mate.level)
          (mate-in n p t tile a c big address mate).base (more-out t a big h)))
          (cases_lt a 4);
    }

    -- they agree
    pub more-agreed : IsAgreed (2 ^ p) (2 ^ p) n p more
    more-agreed t u a c tile tile' other address address' big large mates h =
        let l = in_tile-level p t a big in
        let m = in_tile-level p u c large in
        let level = mates.level in
        more-from u c address'.low
        (carried t u a c tile tile' big large address address' (omega arith) mates.base (more-out t a big h))

    module _ (tolerance : ℕ) (error : ℕ → ℕ)
        (fine : (t : Point) → IsTile columns rows t → IsFineEnough n tolerance (tile_error p error t) (sets t))
        (beyond : (t : Point) (a : ℕ) → IsTile (2 ^ p) (2 ^ p) t → (IsTile columns rows t → ⊥) → 4 ≤ a →
        IsAddress n a → error (in_tile p t a) ≤ tolerance) where
      tile_or_not : (t : Point) → IsTile columns rows t ⊎ (IsTile columns rows t → ⊥)
      tile_or_not t = ⊎_elim
          (λ (column : t.x < columns). ⊎_elim
          (λ (row : t.y < rows). inl record { column = column; row = row })
          (λ (out : rows ≤ t.y). inr (λ tile. let row = tile.row in omega arith))
          (cases_lt t.y rows))
          (λ (out : columns ≤ t.x). inr (λ tile. let column = tile.column in omega arith))
          (cases_lt t.x columns)

      -- they are settled
      more-fine : (t : Point) → IsTile (2 ^ p) (2 ^ p) t → IsFineEnough n tolerance (tile_error p error t) (more t)
      more-fine t tile = outer-settled n tolerance (tile_error p error t) (more t) (more-closed t tile) (λ a outer.
          let big : 4 ≤ a = ⊎_elim
          (λ (less : a < 4). absurd (outer.outside (more-first t a outer.address.low less)))
          (λ big. big)
          (cases_lt a 4) in
          ⊎_elim
          (λ (here : IsTile columns rows t). settled-outer n tolerance (tile_error p error t) (sets t) a (fine t here)
          record {
            address = outer.address;
            outside = λ is. outer.outside (more-from t a outer.address.low
                (subst (λ (z : Bool). IsTrue z) (sym (more-same t a here big)) is));
            parent = λ parent. ⊎_elim
                (λ (small : a < 8). closed-second n (sets t) (closed t here) (centres t here) (a / 2) (omega arith)
                (omega arith))
                (λ (large : 8 ≤ a). subst (λ (z : Bool). IsTrue z) (more-same t (a / 2) here (omega arith))
                (more-out t (a / 2) (omega arith) (outer.parent parent)))
                (cases_lt a 8);
          })
          (λ out. beyond t a tile out big outer.address)
          (tile_or_not t))

      -- so all together are a settled set of the whole
      pub extended-fine : IsFineEnough (n + p) tolerance error (glue p more)
      extended-fine =
          glue-fine n p tolerance error more more-fine
          (λ t tile. more-first t 2 (omega arith) (omega arith)) more-agreed

      -- the least settled set of the whole has in the tiles of the rectangle no more than the tiles' sets
      pub rectangle-most : (whole : ℕ → Bool) → IsLeastSettledWith (n + p) tolerance error (is_coarse p) whole →
          (t : Point) → IsTile columns rows t → IsSubset (is_part p t whole) (sets t)
      rectangle-most whole least t tile a h =
          let q = part-parts p t whole a h in ⊎_elim
          (λ (less : a < 4). closed-second n (sets t) (closed t tile) (centres t tile) a q.0 less)
          (λ (r : (4 ≤ a) × IsTrue (whole (in_tile p t a))).
          subst (λ (z : Bool). IsTrue z) (more-same t a tile r.0) (more-out t a r.0
          (glue-out n p more t a (tile-wider columns rows (2 ^ p) t fits fits' tile) r.0
          (least.needed (glue p more) extended-fine
          (λ x is. let k = coarse-parts p x is in glue-coarse p more x k.0 k.1) (in_tile p t a) r.1))))
          q.1

-- in the rectangle the extended sets are the sets
pub extended-same : (columns rows : ℕ) (sets : Point → ℕ → Bool) (t : Point) (a : ℕ) → IsTile columns rows t → 4 ≤ a →
    extended columns rows sets t a ≡ sets t a
extended-same columns rows sets t a tile big =
    let column = tile.column in let row = tile.row in
    let i : min t.x (columns - 1) ≡ t.x = omega arith in
    let j : min t.y (rows - 1) ≡ t.y = omega arith in
    let c : (t.x + 1 - columns) % 2 ≡ 0 = omega arith in
    let d : (t.y + 1 - rows) % 2 ≡ 0 = omega arith in
    rw (i, j, c, d) (same_tests (nat_le 2 a && (nat_lt a 4 || sets t a)) (sets t a)
    (λ h. let q = and_parts (nat_le 2 a) (nat_lt a 4 || sets t a) h in ⊎_elim
    (λ small. let less = ltb-true a 4 small in absurd (omega arith))
    (λ is. is)
    (or_cases (nat_lt a 4) (sets t a) q.1))
    (λ is. and_from (nat_le 2 a) (nat_lt a 4 || sets t a) (le-leb 2 a (omega arith))
    (or_right (nat_lt a 4) (sets t a) is)))
