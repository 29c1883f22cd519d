-- What is asked of a tile, by corners and by bits; and a tile that lacks something.
use Rattle.std.proofs.Common.{◌≡◌, ℕ, ◌+◌, ◌-◌, ◌*◌, ◌%◌, ◌^◌, ◌<◌, ◌≤◌, Bool, true, false, ◌&&◌, ◌||◌, IsTrue, nat_lt}
use Rattle.std.proofs.Common.{nat_le}
use Rattle.std.proofs.Common.{List, refl, sym, ◌∙◌, ap, subst, arith, ⊎_elim, inl, inr}
use Rattle.std.proofs.lemmas.Bool.{both_ways, cases_Bool, cases_lt, lt-ltb, le-ltb, le-leb, lt-leb}
use Rattle.mesh_defs.specs.declared.point.Point.{Point}
use Rattle.mesh_defs.specs.Triangle.{level_of, IsSplittable}
use Rattle.bintree_laws.proofs.LevelLemmas.{level_of-root}
use Rattle.mesh_laws.proofs.DescentLemmas.{IsAddress-level, IsAddress-splittable}
use Rattle.mosaic_laws.specs.Tile.{IsTile}
use Rattle.mosaic_laws.specs.Mirror.{mirrored}
use Rattle.mosaic_laws.proofs.MirrorLemmas.{mirrored-level}
use Rattle.mosaic_rounds.specs.declared.shape.Shape.{Shape}
use Rattle.mosaic_rounds.specs.Border.{is_border, side_of, place_of}
use Rattle.mosaic_rounds.specs.Bits.{has_bit, is_kept, splits_at}
use Rattle.mosaic_rounds.specs.Side.{IsNeighbour}
use Rattle.mosaic_rounds.specs.Shape.{first_of}
use Rattle.mosaic_rounds.specs.Across.{IsAcross, LacksBy, IsAskedBy}
use Rattle.mosaic_rounds.specs.Turn.{turn_in, Waits}
use Rattle.mosaic_rounds.specs.Rounds.{rounds_of, splits, IsAskedOf, IsSettled, Lacks, wait_of}
use Rattle.mosaic_rounds.specs.BorderPoints.{IsKept, BorderState, has_split}
use Rattle.mosaic_rounds.proofs.BorderLemmas.{border-big, border-placed}
use Rattle.mosaic_rounds.proofs.SplitLemmas.{border-low, kept-cases, kept-border, kept-two, splits-kept, splits-border}
use Rattle.mosaic_rounds.proofs.SplitLemmas.{splits-other}
use Rattle.mosaic_rounds.proofs.PlaceLemmas.{kept-bit}
use Rattle.mosaic_rounds.proofs.ShapeLemmas.{turn-small, tile-before}
use Rattle.mosaic_rounds.proofs.GeometryLemmas.{beyond-side, side-beyond, mirrored-facing, border-address}
use Rattle.mosaic_rounds.proofs.GeometryLemmas.{border-base, way_of}
use Rattle.mosaic_rounds.proofs.GeometryLemmas.{IsFacing}

-- what is kept, by corners
pub kept-from : (n a : ℕ) → IsKept n a → IsTrue (is_kept n a)
kept-from n a (inl two) = subst (λ k. IsTrue (is_kept n k)) (sym two) (kept-two n)
kept-from n a (inr h) =
    let coarse = h.0.coarse in
    kept-border n a coarse (border-address n a (IsAddress-splittable n a h.0) h.1)

pub kept-to : (n a : ℕ) → IsTrue (is_kept n a) → IsKept n a
kept-to n a kept = ⊎_elim
    (λ two. inl two)
    (λ (border : (level_of a < 2 * n) × IsTrue (is_border a)).
    inr (record { low = border-low a border.1; coarse = border.0 }, border-base n a border.1))
    (kept-cases n a kept)

-- the bit of a mirror image
facing-bit : (n : ℕ) (words : List ℕ) (first a c : ℕ) → IsFacing a c → level_of c < 2 * n →
    splits_at n words first c ≡ has_bit words (first + ((side_of a + 2) % 4 * 2 ^ n + place_of a))
facing-bit n words first a c f coarse =
    let same : side_of c * 2 ^ n + place_of c ≡ (side_of a + 2) % 4 * 2 ^ n + place_of a =
    ap (λ k. k * 2 ^ n + place_of c) f.side ∙ ap (λ k. (side_of a + 2) % 4 * 2 ^ n + k) f.place in
    splits-border n words first c coarse f.border ∙ ap (λ k. has_bit words (first + k)) same

module _ (s : Shape) (turn : ℕ) (words : List ℕ) (t : Point) where
  -- what is asked for by corners is asked for by bits
  pub asked-to : (a : ℕ) → IsAskedOf (rounds_of s turn words) t a → IsAskedBy s words t 4 a
  asked-to a (inl two) = inl two
  asked-to a (inr (u, c, tile, big, address, beyond, split)) =
      let h = beyond-side s.n t u a c address beyond in
      let f : IsFacing a c = subst (IsFacing a) (sym h.image) (mirrored-facing a h.border) in
      let kept = splits-kept s.n words (first_of s u) c split in
      let level : level_of c ≡ level_of a = ap level_of h.image ∙ mirrored-level (way_of (side_of a)) a big in
      let coarse : level_of c < 2 * s.n = ⊎_elim
      (λ (two : c ≡ 2). absurd (let low = border-big c (border-low c f.border) f.border in omega arith))
      (λ (border : (level_of c < 2 * s.n) × IsTrue (is_border c)). border.0)
      (kept-cases s.n c kept) in
      inr (
        side_of a,
        (border-placed a address.low h.border).side,
        record {
          low = address.low;
          coarse = omega arith;
          border = h.border;
          side = refl;
          other = u;
          tile = tile;
          beyond = h.neighbour;
          there = sym (facing-bit s.n words (first_of s u) a c f coarse) ∙ split;
        },
      )

  -- and back
  pub across-asked : (side a : ℕ) → IsAcross s words t side a → IsAskedOf (rounds_of s turn words) t a
  across-asked side a is =
      let big = border-big a is.low is.border in
      let coarse = is.coarse in
      let f = mirrored-facing a is.border in
      let level = mirrored-level (way_of (side_of a)) a big in
      let neighbour : IsNeighbour (side_of a) t is.other = subst (λ k. IsNeighbour k t is.other)
      (sym is.side) is.beyond in
      let at : (side + 2) % 4 * 2 ^ s.n + place_of a ≡ (side_of a + 2) % 4 * 2 ^ s.n + place_of a =
      ap (λ k. (k + 2) % 4 * 2 ^ s.n + place_of a) (sym is.side) in
      inr (
        is.other,
        mirrored (way_of (side_of a)) a,
        is.tile,
        big,
        IsAddress-level s.n a is.low (omega arith),
        side-beyond s.n t is.other a is.border neighbour,
        facing-bit s.n words (first_of s is.other) a (mirrored (way_of (side_of a)) a) f (omega arith)
            ∙ sym (ap (λ k. has_bit words (first_of s is.other + k)) at) ∙ is.there,
      )

  pub asked-from : (a : ℕ) → IsAskedBy s words t 4 a → IsAskedOf (rounds_of s turn words) t a
  asked-from a (inl two) = inl two
  asked-from a (inr h) = across-asked h.0 a h.2

  -- so a tile that lacks something does so by corners and by bits
  pub lacks-to : Lacks (rounds_of s turn words) t → LacksBy s words t 4
  lacks-to (a, asked, off) = ⊎_elim
      (λ (two : a ≡ 2). inl (subst (λ k. splits_at s.n words (first_of s t) k ≡ false) two off))
      (λ (h : (side : ℕ) × (side < 4) × IsAcross s words t side a). inr (h.0, h.1, (a, h.2, off)))
      (asked-to a asked)

  pub lacks-from : LacksBy s words t 4 → Lacks (rounds_of s turn words) t
  lacks-from (inl off) = (2, inl refl, off)
  lacks-from (inr h) = (h.2.0, across-asked h.0 h.2.0 h.2.1, h.2.2)

  -- everything that is asked for can be split
  pub asked-splittable : 1 ≤ s.n → (a : ℕ) → IsAskedBy s words t 4 a → IsSplittable s.n a
  asked-splittable some a (inl two) =
      let first = level_of-root 2 (omega arith) (omega arith) in
      subst (IsSplittable s.n) (sym two) record { low = omega arith; coarse = omega arith }
  asked-splittable some a (inr h) = record { low = h.2.low; coarse = h.2.coarse }

-- the tiles are settled if nobody waits
pub settled-from : (s : Shape) (turn : ℕ) (words : List ℕ) →
    ((v : ℕ) → v < 2 * (s.columns * s.rows) → Waits s words v → ⊥) → IsSettled (rounds_of s turn words)
settled-from s turn words none t a tile asked = ⊎_elim
    (λ is. is)
    (λ off. absurd (none (turn_in s t) (turn-small s t tile)
    (t, tile, refl, lacks-to s turn words t (a, asked, off))))
    (cases_Bool (splits (rounds_of s turn words) t a))

-- and then nobody lacks anything
pub settled-lacks : (s : Shape) (turn : ℕ) (words : List ℕ) (t : Point) → IsTile s.columns s.rows t →
    IsSettled (rounds_of s turn words) → Lacks (rounds_of s turn words) t → ⊥
settled-lacks s turn words t tile settled (a, asked, off) =
    both_ways (splits (rounds_of s turn words) t a) off (settled t a tile asked)

-- how long a tile waits
module _ (s : Shape) (turn : ℕ) (words : List ℕ) where
  wait_late : (t : Point) → turn ≤ turn_in s t → wait_of (rounds_of s turn words) t ≡ turn_in s t - turn
  wait_late t late = at (nat_le turn (turn_in s t)) (le-leb turn (turn_in s t) late)
    where
      at : (b : Bool) → b ≡ true → elim b as (λ _. ℕ) [
        | true ↦ turn_in s t - turn
        | false ↦ turn_in s t + 2 * (s.columns * s.rows) - turn
      ] ≡ turn_in s t - turn
      at true e = refl
      at false e = absurd (both_ways false refl e)

  wait_early : (t : Point) → turn_in s t < turn →
      wait_of (rounds_of s turn words) t ≡ turn_in s t + 2 * (s.columns * s.rows) - turn
  wait_early t early = at (nat_le turn (turn_in s t)) (lt-leb turn (turn_in s t) early)
    where
      at : (b : Bool) → b ≡ false → elim b as (λ _. ℕ) [
        | true ↦ turn_in s t - turn
        | false ↦ turn_in s t + 2 * (s.columns * s.rows) - turn
      ] ≡ turn_in s t + 2 * (s.columns * s.rows) - turn
      at true e = absurd (both_ways true e refl)
      at false e = refl

  -- none that waits comes before the first turn that is found
  pub wait-least : (t u : Point) → IsTile s.columns s.rows t → IsTile s.columns s.rows u → Waits s words (turn_in s u) →
      (turn ≤ turn_in s t → (v : ℕ) → turn ≤ v → v < turn_in s t → Waits s words v → ⊥) →
      (turn_in s t < turn → (v : ℕ) → turn ≤ v → v < 2 * (s.columns * s.rows) → Waits s words v → ⊥) →
      (turn_in s t < turn → (v : ℕ) → v < turn_in s t → Waits s words v → ⊥) →
      wait_of (rounds_of s turn words) t ≤ wait_of (rounds_of s turn words) u
  wait-least t u tile tile' waits first later wrapped =
      let small = turn-small s t tile in
      let small' = turn-small s u tile' in ⊎_elim
      (λ (early : turn_in s t < turn).
      let here = wait_early t early in ⊎_elim
      (λ (early' : turn_in s u < turn).
      let there = wait_early u early' in ⊎_elim
      (λ (before : turn_in s u < turn_in s t). absurd (wrapped early (turn_in s u) before waits))
      (λ from. omega arith)
      (cases_lt (turn_in s u) (turn_in s t)))
      (λ (late' : turn ≤ turn_in s u). absurd (later early (turn_in s u) late' small' waits))
      (cases_lt (turn_in s u) turn))
      (λ (late : turn ≤ turn_in s t).
      let here = wait_late t late in ⊎_elim
      (λ (early' : turn_in s u < turn). let there = wait_early u early' in omega arith)
      (λ (late' : turn ≤ turn_in s u).
      let there = wait_late u late' in ⊎_elim
      (λ (before : turn_in s u < turn_in s t). absurd (first late (turn_in s u) late' before waits))
      (λ from. omega arith)
      (cases_lt (turn_in s u) (turn_in s t)))
      (cases_lt (turn_in s u) turn))
      (cases_lt (turn_in s t) turn)

-- a put

module _ (n first : ℕ) (old fresh new : List ℕ)
    (added : (j : ℕ) → has_bit new (first + j) ≡
    (has_bit old (first + j) || (nat_lt j (2 ^ (n + 2)) && has_bit fresh j)))
    (all : (a : ℕ) → IsTrue (splits_at n old first a) → splits_at n fresh 0 a ≡ false → ⊥) where
  -- the tile's bits say then what the mesh's say
  pub put-splits : (a : ℕ) → splits_at n new first a ≡ splits_at n fresh 0 a
  put-splits a = ⊎_elim
      (λ kept.
      let b = kept-bit n a kept in
      let none_more : 0 + b.0 ≡ b.0 = omega arith in
      let own : has_bit fresh b.0 ≡ splits_at n fresh 0 a = ap (has_bit fresh) (sym none_more) ∙ sym (b.3 fresh 0) in
      b.3 new first ∙ added b.0
      ∙ joined (has_bit old (first + b.0)) (nat_lt b.0 (2 ^ (n + 2))) (has_bit fresh b.0)
      (lt-ltb b.0 (2 ^ (n + 2)) b.1)
      (λ is off. all a (b.3 old first ∙ is) (sym own ∙ off))
      ∙ own)
      (λ off. splits-other n new first a off ∙ sym (splits-other n fresh 0 a off))
      (cases_Bool (is_kept n a))
    where
      joined : (x l y : Bool) → l ≡ true → (x ≡ true → y ≡ false → ⊥) → (x || (l && y)) ≡ y
      joined x false y e h = absurd (both_ways false refl e)
      joined true true true e h = refl
      joined true true false e h = absurd (h refl refl)
      joined false true y e h = refl

-- what the border points of a mesh say, by their bits
pub has-split-at : (b : BorderState) (n : ℕ) (words : List ℕ) → b.n ≡ n → words ≡ b.bits → (a : ℕ) →
    splits_at n words 0 a ≡ has_split b a
has-split-at b n words same at a =
    ap (λ (w : List ℕ). splits_at n w 0 a) at ∙ ap (λ k. splits_at k b.bits 0 a) (sym same)

-- and those of other tiles are as they were
pub put-others : (s : Shape) (old new fresh : List ℕ) (t u : Point) (a : ℕ) → IsTile s.columns s.rows t →
    IsTile s.columns s.rows u → (u ≡ t → ⊥) →
    ((j : ℕ) → has_bit new (first_of s t + j)
    ≡ (has_bit old (first_of s t + j) || (nat_lt j (2 ^ (s.n + 2)) && has_bit fresh j))) →
    ((j : ℕ) → j < first_of s t → has_bit new j ≡ has_bit old j) →
    splits_at s.n new (first_of s u) a ≡ splits_at s.n old (first_of s u) a
put-others s old new fresh t u a tile tile' other added before = ⊎_elim
    (λ kept.
    let b = kept-bit s.n a kept in
    let less = b.1 in
    b.3 new (first_of s u) ∙ ⊎_elim
    (λ (early : first_of s u + 2 ^ (s.n + 2) ≤ first_of s t). before (first_of s u + b.0) (omega arith))
    (λ (late : first_of s t + 2 ^ (s.n + 2) ≤ first_of s u).
    let j : ℕ = first_of s u + b.0 - first_of s t in
    let there : first_of s t + j ≡ first_of s u + b.0 = omega arith in
    ap (has_bit new) (sym there) ∙ added j
    ∙ beside (has_bit old (first_of s t + j)) (nat_lt j (2 ^ (s.n + 2))) (has_bit fresh j)
    (le-ltb j (2 ^ (s.n + 2)) (omega arith))
    ∙ ap (has_bit old) there)
    (tile-before s t u tile tile' other) ∙ sym (b.3 old (first_of s u)))
    (λ off. splits-other s.n new (first_of s u) a off ∙ sym (splits-other s.n old (first_of s u) a off))
    (cases_Bool (is_kept s.n a))
  where
    beside : (x l y : Bool) → l ≡ false → (x || (l && y)) ≡ x
    beside true l y e = refl
    beside false true y e = absurd (both_ways true e refl)
    beside false false y e = refl
