-- Rounds: they begin, go on and come to an end, and where they end is the least mesh.
use Rattle.std.proofs.Common.{◌≡◌, ℕ, zero, suc, ◌+◌, ◌*◌, ◌^◌, ◌<◌, ◌≤◌, ◌⊎◌, inl, inr, Bool, true}
use Rattle.std.proofs.Common.{false, not, ◌&&◌, ◌||◌, IsTrue, nat_le, nat_lt, eqb, List, length, refl, sym, subst}
use Rattle.std.proofs.Common.{arith}
use Rattle.std.proofs.Common.{⊎_elim}
use Rattle.std.specs.List.{list_any, range_with_len}
use Rattle.std.proofs.lemmas.Bool.{cases_lt, cases_Bool, false≢true, both_ways, and_parts, and_from, leb-true, le-leb}
use Rattle.std.proofs.lemmas.Bool.{or_cases, or_left, or_right, not_from_false, ltb-true, lt-ltb, eqb-true}
use Rattle.mesh_defs.specs.declared.point.Point.{Point}
use Rattle.mesh_defs.specs.Triangle.{level_of, IsAddress, IsSplittable, IsMate, HasBorderBase}
use Rattle.mesh_defs.specs.ClosedSet.{IsClosed, IsSubset, leaves_of}
use Rattle.mesh_defs.proofs.ListLemmas.{IsIn, Any-in, list_any-in}
use Rattle.bintree_laws.proofs.LevelLemmas.{splittable-below, level_of-root}
use Rattle.bintree_laws.proofs.CentreLemmas.{mate_unique, border_or_mate, not_border_and_mate}
use Rattle.mesh_laws.proofs.ClosureLemmas.{leaves_of-more}
use Rattle.mesh_laws.proofs.LeafLemmas.{leaves-most}
use Rattle.mesh_laws.proofs.SetListLemmas.{in-range}
use Rattle.fit_laws.specs.Error.{IsExactAtFinest}
use Rattle.fit_laws.specs.Required.{IsLeastSettledWith, IsLeastMeshWith}
use Rattle.fit_laws.proofs.RequiredLemmas.{with-found, with-more, with-grown}
use Rattle.mosaic_laws.specs.Tile.{IsTile, in_tile}
use Rattle.mosaic_laws.specs.Glue.{is_coarse, tile_of, local_of, glue, splits_of, IsUnionOf}
use Rattle.mosaic_laws.specs.Join.{tile_at, joined}
use Rattle.mosaic_laws.proofs.AddressLemmas.{level-some, in_tile-level, in_tile-address, in_tile-inside, local-big}
use Rattle.mosaic_laws.proofs.AddressLemmas.{local-address, in_tile-local, tile-in_tile, local-in_tile}
use Rattle.mosaic_laws.proofs.JoinLemmas.{number_of, number-small, tile_at-number, tile_at-is, joined-most, joined-grown}
use Rattle.mosaic_laws.proofs.HeightLemmas.{tile-exact}
use Rattle.mosaic_laws.specs.Terrain.{is_tile}
use Rattle.mosaic_laws.specs.Rounds.{tile_error, IsAsked, IsRunning, IsSettledDown}
use Rattle.mosaic_laws.proofs.RoundLemmas.{tile-wider, asked-agreed, reached-least, union-least}

-- beginning, step, end

-- what is asked for stays asked for as the sets grow
pub asked-more : (columns rows n p : ℕ) (before after : Point → ℕ → Bool) (t : Point) (a : ℕ) →
    ((u : Point) → IsTile columns rows u → IsSubset (before u) (after u)) → IsAsked columns rows n p before t a →
    IsAsked columns rows n p after t a
asked-more columns rows n p before after t a grows ask = record {
  other = ask.other;
  beyond = ask.beyond;
  tile = ask.tile;
  address = ask.address;
  there = ask.there;
  big = ask.big;
  large = ask.large;
  mates = ask.mates;
  split = grows ask.other ask.tile ask.beyond ask.split;
}

module _ (columns rows n p tolerance : ℕ) (error : ℕ → ℕ) where
  -- the least settled sets of the tiles, with the centres required, are a first round
  pub run-start : (sets : Point → ℕ → Bool) →
      ((t : Point) → IsTile columns rows t →
      IsLeastSettledWith n tolerance (tile_error p error t) (λ a. eqb a 2) (sets t)) →
      IsRunning columns rows n p tolerance error (λ t a. eqb a 2) sets
  run-start sets least = record {
    rounds = suc zero;
    reached = (
      (λ t a. false),
      (λ t a. refl),
      λ t tile. inr record {
        required = λ a. eqb a 2;
        centre = refl;
        asked = λ a is. inl (eqb-true a 2 is);
        least = least t tile;
      },
    );
    least = least;
    centre = λ t tile. refl;
    asked = λ t a tile is. inl (eqb-true a 2 is);
  }

  module _ (required sets : Point → ℕ → Bool) (running : IsRunning columns rows n p tolerance error required sets) where
    -- to what was required comes what is asked for: a further round
    module _ (more next : Point → ℕ → Bool)
        (wider : (t : Point) → IsTile columns rows t → IsSubset (required t) (more t))
        (asked : (t : Point) (a : ℕ) → IsTile columns rows t → IsTrue (more t a) →
        (a ≡ 2) ⊎ IsAsked columns rows n p sets t a)
        (least : (t : Point) → IsTile columns rows t →
        IsLeastSettledWith n tolerance (tile_error p error t) (more t) (next t)) where
      -- the sets grow
      pub run-grows : (t : Point) → IsTile columns rows t → IsSubset (sets t) (next t)
      run-grows t tile =
          with-more n tolerance (tile_error p error t) (required t) (more t) (sets t) (next t) (wider t tile)
          (running.least t tile) (least t tile)

      -- and rounds are running still
      pub run-step : IsRunning columns rows n p tolerance error more next
      run-step = record {
        rounds = suc running.rounds;
        reached = (
          sets,
          running.reached,
          λ t tile. inr record {
            required = more t;
            centre = wider t tile 2 (running.centre t tile);
            asked = λ a is. asked t a tile is;
            least = least t tile;
          },
        );
        least = least;
        centre = λ t tile. wider t tile 2 (running.centre t tile);
        asked = λ t a tile is. ⊎_elim
            (λ first. inl first)
            (λ ask. inr (asked-more columns rows n p sets next t a run-grows ask))
            (asked t a tile is);
      }

-- at the end they are the least of all
pub run-end : (n p tolerance : ℕ) (error : ℕ → ℕ) (required sets : Point → ℕ → Bool) →
    IsRunning (2 ^ p) (2 ^ p) n p tolerance error required sets → IsSettledDown (2 ^ p) (2 ^ p) n p sets →
    IsLeastSettledWith (n + p) tolerance error (is_coarse p) (glue p sets)
run-end n p tolerance error required sets running down =
    reached-least n p tolerance running.rounds error sets running.reached
    (λ t tile. (running.least t tile).settled)
    (λ t tile. (running.least t tile).splits 2 (running.centre t tile))
    (asked-agreed (2 ^ p) (2 ^ p) n p sets down)

-- and their lists the least mesh
pub run-mesh : (n p tolerance : ℕ) (error : ℕ → ℕ) (required : Point → ℕ → Bool) (lists : Point → List ℕ)
    (triangles : List ℕ) → IsRunning (2 ^ p) (2 ^ p) n p tolerance error required (splits_of lists) →
    ((t : Point) → IsTile (2 ^ p) (2 ^ p) t →
    IsLeastMeshWith n tolerance (tile_error p error t) (required t) (lists t)) →
    IsSettledDown (2 ^ p) (2 ^ p) n p (splits_of lists) → IsUnionOf n p lists triangles →
    IsLeastMeshWith (n + p) tolerance error (is_coarse p) triangles
run-mesh n p tolerance error required lists triangles running meshes down union =
    union-least n p tolerance running.rounds error lists triangles running.reached
    (λ t tile. ((meshes t tile).mesh.conforming, (meshes t tile).mesh.within))
    (λ t tile. (meshes t tile).mesh.splits 2 (running.centre t tile))
    (asked-agreed (2 ^ p) (2 ^ p) n p (splits_of lists) down) union

-- what a range holds is in it
range-in : (low count a : ℕ) → IsIn a (range_with_len low count) → (low ≤ a) × (a < low + count)
range-in low zero a h = absurd h
range-in low (suc count) a (inl e) = (omega arith, omega arith)
range-in low (suc count) a (inr h) =
    let r = range-in (low + 1) count a h in let first = r.0 in let last = r.1 in (omega arith, omega arith)

-- tiles of a rectangle, as a test

-- what the test tells is one
pub tile-parts : (columns rows : ℕ) (t : Point) → is_tile columns rows t ≡ true → IsTile columns rows t
tile-parts columns rows t h =
    let q = and_parts (nat_lt t.x columns) (nat_lt t.y rows) h in
    record { column = ltb-true t.x columns q.0; row = ltb-true t.y rows q.1 }

-- and it tells each
pub tile-from : (columns rows : ℕ) (t : Point) → IsTile columns rows t → is_tile columns rows t ≡ true
tile-from columns rows t tile =
    and_from (nat_lt t.x columns) (nat_lt t.y rows) (lt-ltb t.x columns tile.column) (lt-ltb t.y rows tile.row)

-- what is asked for, as a test

address_or_not : (n a : ℕ) → IsAddress n a ⊎ (IsAddress n a → ⊥)
address_or_not n a = ⊎_elim
    (λ small. inr (λ address. let low = address.low in omega arith))
    (λ low. ⊎_elim
    (λ high. inl record { low = low; high = high })
    (λ large. inr (λ address. let high = address.high in omega arith))
    (cases_lt a (2 ^ (2 * n + 2))))
    (cases_lt a 2)

module _ (columns rows n p : ℕ) (wide : columns ≤ 2 ^ p) (high : rows ≤ 2 ^ p) (sets : Point → ℕ → Bool) where
  -- y is split in its tile
  abbrev is_split : ℕ → Bool
  is_split y = is_tile columns rows (tile_of p y) && sets (tile_of p y) (local_of p y)

  mate_split : (x : ℕ) → HasBorderBase (n + p) x ⊎ ((y : ℕ) × IsMate (n + p) x y) → Bool
  mate_split x (inl border) = false
  mate_split x (inr mate) = is_split mate.0

  split_beyond : (x : ℕ) → IsAddress (n + p) x ⊎ (IsAddress (n + p) x → ⊥) → Bool
  split_beyond x (inl address) = mate_split x (border_or_mate (n + p) x address)
  split_beyond x (inr other) = false

  -- the mate of triangle a of tile t is split in its tile
  abbrev asks : Point → ℕ → Bool
  asks t a = nat_le 4 a && split_beyond (in_tile p t a) (address_or_not (n + p) (in_tile p t a))

  mate_split-sound : (x : ℕ) (s : HasBorderBase (n + p) x ⊎ ((y : ℕ) × IsMate (n + p) x y)) →
      mate_split x s ≡ true → (y : ℕ) × IsMate (n + p) x y × (is_split y ≡ true)
  unfolding mate_split
  mate_split-sound x (inl border) h = absurd (false≢true h)
  mate_split-sound x (inr mate) h = (mate.0, mate.1, h)

  split_beyond-sound : (x : ℕ) (s : IsAddress (n + p) x ⊎ (IsAddress (n + p) x → ⊥)) → split_beyond x s ≡ true →
      IsAddress (n + p) x × ((y : ℕ) × IsMate (n + p) x y × (is_split y ≡ true))
  unfolding split_beyond
  split_beyond-sound x (inl address) h =
      (address, mate_split-sound x (border_or_mate (n + p) x address) h)
  split_beyond-sound x (inr other) h = absurd (false≢true h)

  mate_split-found : (x y : ℕ) (s : HasBorderBase (n + p) x ⊎ ((y : ℕ) × IsMate (n + p) x y)) →
      IsAddress (n + p) x → IsMate (n + p) x y → is_split y ≡ true → mate_split x s ≡ true
  unfolding mate_split
  mate_split-found x y (inl border) address mate is = absurd (not_border_and_mate (n + p) x y address border mate)
  mate_split-found x y (inr other) address mate is =
      subst (λ z. is_split z ≡ true) (mate_unique (n + p) x y other.0 address mate other.1) is

  split_beyond-found : (x y : ℕ) (s : IsAddress (n + p) x ⊎ (IsAddress (n + p) x → ⊥)) → IsAddress (n + p) x →
      IsMate (n + p) x y → is_split y ≡ true → split_beyond x s ≡ true
  unfolding split_beyond
  split_beyond-found x y (inl found) address mate is =
      mate_split-found x y (border_or_mate (n + p) x found) address mate is
  split_beyond-found x y (inr other) address mate is = absurd (other address)

  -- what the test tells is asked for
  asks-asked : (t : Point) (a : ℕ) → asks t a ≡ true → IsAsked columns rows n p sets t a
  asks-asked t a h =
      let q = and_parts (nat_le 4 a) (split_beyond (in_tile p t a) (address_or_not (n + p) (in_tile p t a))) h in
      let big : 4 ≤ a = leb-true 4 a q.0 in
      let r = split_beyond-sound (in_tile p t a) (address_or_not (n + p) (in_tile p t a)) q.1 in
      let y : ℕ = r.1.0 in
      let mate : IsMate (n + p) (in_tile p t a) r.1.0 = r.1.1 in
      let s = and_parts (is_tile columns rows (tile_of p r.1.0)) (sets (tile_of p r.1.0) (local_of p r.1.0)) r.1.2 in
      let level = in_tile-level p t a big in
      let some = level-some a big in
      let same = mate.level in
      let deep : 2 * p < level_of r.1.0 = omega arith in
      record {
        other = tile_of p r.1.0;
        beyond = local_of p r.1.0;
        tile = tile-parts columns rows (tile_of p r.1.0) s.0;
        address = in_tile-inside p t n a big r.0;
        there = local-address p r.1.0 mate.address.low deep n mate.address;
        big = big;
        large = local-big p r.1.0 mate.address.low deep;
        mates = subst (λ z. IsMate (n + p) (in_tile p t a) z) (sym (in_tile-local p r.1.0 mate.address.low deep)) mate;
        split = s.1;
      }

  -- and it tells all that is
  asked-asks : (t : Point) (a : ℕ) → IsAsked columns rows n p sets t a → asks t a ≡ true
  asked-asks t a ask =
      let inside : IsTile (2 ^ p) (2 ^ p) ask.other = tile-wider columns rows (2 ^ p) ask.other wide high ask.tile in
      let e : tile_of p (in_tile p ask.other ask.beyond) ≡ ask.other =
      tile-in_tile p ask.other ask.beyond inside ask.large in
      let f : local_of p (in_tile p ask.other ask.beyond) ≡ ask.beyond =
      local-in_tile p ask.other ask.beyond inside ask.large in
      let own : (is_tile columns rows ask.other && sets ask.other ask.beyond) ≡ true =
      and_from (is_tile columns rows ask.other) (sets ask.other ask.beyond) (tile-from columns rows ask.other ask.tile)
      ask.split in
      let split : is_split (in_tile p ask.other ask.beyond) ≡ true =
      subst (λ z. (is_tile columns rows z && sets z (local_of p (in_tile p ask.other ask.beyond))) ≡ true) (sym e)
      (subst (λ z. (is_tile columns rows ask.other && sets ask.other z) ≡ true) (sym f) own) in
      and_from (nat_le 4 a) (split_beyond (in_tile p t a) (address_or_not (n + p) (in_tile p t a)))
      (le-leb 4 a ask.big)
      (split_beyond-found (in_tile p t a) (in_tile p ask.other ask.beyond)
      (address_or_not (n + p) (in_tile p t a)) (in_tile-address p t n a ask.big ask.address) ask.mates split)

-- what is asked for can be split
pub asked-splittable : (columns rows n p : ℕ) (sets : Point → ℕ → Bool) →
    ((u : Point) → IsTile columns rows u → IsClosed n (sets u)) → (t : Point) (a : ℕ) →
    IsAsked columns rows n p sets t a → IsSplittable n a
asked-splittable columns rows n p sets closed t a ask =
    let coarse = ((closed ask.other ask.tile).splittable ask.beyond ask.split).coarse in
    let same = ask.mates.level in
    let l = in_tile-level p t a ask.big in
    let m = in_tile-level p ask.other ask.beyond ask.large in
    record { low = ask.address.low; coarse = omega arith }

-- rounds come to an end

module _ (columns rows n p tolerance : ℕ) (error : ℕ → ℕ) (wide : columns ≤ 2 ^ p) (high : rows ≤ 2 ^ p) (some : 1 ≤ n)
    (exact : IsExactAtFinest (n + p) error) where
  -- 2 can be split
  first-splittable : (a : ℕ) → a ≡ 2 → IsSplittable n a
  first-splittable a is =
      let z : level_of a ≡ 0 = level_of-root a (omega arith) (omega arith) in
      record { low = omega arith; coarse = omega arith }

  -- the least sets for what is required, for each tile
  fitted : (required : Point → ℕ → Bool) →
      ((t : Point) → IsTile columns rows t → (a : ℕ) → IsTrue (required t a) → IsSplittable n a) →
      (sets : Point → ℕ → Bool) × ((t : Point) → IsTile columns rows t →
      IsLeastSettledWith n tolerance (tile_error p error t) (required t) (sets t))
  fitted required splittable = (
    (λ t. by t (cases_Bool (is_tile columns rows t))),
    λ t tile. least t tile (cases_Bool (is_tile columns rows t)),
  )
    where
      by : (t : Point) → (is_tile columns rows t ≡ true) ⊎ (is_tile columns rows t ≡ false) → ℕ → Bool
      by t (inl is) =
          (with-found n (required t) (splittable t (tile-parts columns rows t is)) tolerance (tile_error p error t)
          (tile-exact n p t error some exact)).0
      by t (inr other) = λ a. false

      least : (t : Point) → IsTile columns rows t →
          (s : (is_tile columns rows t ≡ true) ⊎ (is_tile columns rows t ≡ false)) →
          IsLeastSettledWith n tolerance (tile_error p error t) (required t) (by t s)
      least t tile (inl is) =
          (with-found n (required t) (splittable t (tile-parts columns rows t is)) tolerance (tile_error p error t)
          (tile-exact n p t error some exact)).1
      least t tile (inr other) = absurd (both_ways (is_tile columns rows t) other (tile-from columns rows t tile))

  -- where rounds end
  record IsEnd : Type 0 where
    required : Point → ℕ → Bool
    sets : Point → ℕ → Bool
    running : IsRunning columns rows n p tolerance error required sets
    down : IsSettledDown columns rows n p sets

  -- how many triangles all tiles have
  total : (Point → ℕ → Bool) → ℕ
  total sets = length (joined p columns (λ t. leaves_of n (sets t)) (columns * rows))

  total-most : (sets : Point → ℕ → Bool) → total sets ≤ 2 * 4 ^ n * (columns * rows)
  unfolding total
  total-most sets =
      joined-most p columns (2 * 4 ^ n) (λ t. leaves_of n (sets t)) (λ t. leaves-most n (sets t)) (columns * rows)

  module _ (required sets : Point → ℕ → Bool) (running : IsRunning columns rows n p tolerance error required sets) where
    abbrev asking : Point → ℕ → Bool
    asking t a = asks columns rows n p wide high sets t a

    -- what a tile lacks
    lacks : Point → ℕ → Bool
    lacks t a = asking t a && not (sets t a)

    abbrev places : List ℕ
    places = range_with_len 0 (4 * 2 ^ (2 * n))

    abbrev numbers : List ℕ
    numbers = range_with_len 0 (columns * rows)

    closed : (t : Point) → IsTile columns rows t → IsClosed n (sets t)
    closed t tile = (running.least t tile).settled.closed

    -- if no tile lacks anything they are settled down
    down : list_any (λ i. list_any (lacks (tile_at columns i)) places) numbers ≡ false →
        IsSettledDown columns rows n p sets
    unfolding lacks
    down none t a tile ask = ⊎_elim
        (λ is. is)
        (λ no.
        let small = splittable-below n a (asked-splittable columns rows n p sets closed t a ask) in
        let top = number-small columns rows t tile in
        let here : list_any (lacks t) places ≡ true = list_any-in (lacks t) places a
        (in-range 0 (4 * 2 ^ (2 * n)) a (omega arith) (omega arith))
        (and_from (asking t a) (not (sets t a)) (asked-asks columns rows n p wide high sets t a ask)
        (not_from_false (sets t a) no)) in
        let there : list_any (lacks (tile_at columns (number_of columns t))) places ≡ true =
        subst (λ z. list_any (lacks z) places ≡ true) (sym (tile_at-number columns rows t tile)) here in
        absurd (both_ways (list_any (λ i. list_any (lacks (tile_at columns i)) places) numbers) none
        (list_any-in (λ i. list_any (lacks (tile_at columns i)) places) numbers (number_of columns t)
        (in-range 0 (columns * rows) (number_of columns t) (omega arith) (omega arith)) there)))
        (cases_Bool (sets t a))

    abbrev wanted : Point → ℕ → Bool
    wanted t a = required t a || asking t a

    wanted-asked : (t : Point) (a : ℕ) → IsTile columns rows t → IsTrue (wanted t a) →
        (a ≡ 2) ⊎ IsAsked columns rows n p sets t a
    wanted-asked t a tile is = ⊎_elim
        (λ old. running.asked t a tile old)
        (λ new. inr (asks-asked columns rows n p wide high sets t a new))
        (or_cases (required t a) (asking t a) is)

    wanted-splittable : (t : Point) → IsTile columns rows t → (a : ℕ) → IsTrue (wanted t a) → IsSplittable n a
    wanted-splittable t tile a is = ⊎_elim
        (λ first. first-splittable a first)
        (λ ask. asked-splittable columns rows n p sets closed t a ask)
        (wanted-asked t a tile is)

    wider : (t : Point) → IsTile columns rows t → IsSubset (required t) (wanted t)
    wider t tile a is = or_left (required t a) (asking t a) is

    -- if one does, the next round has more triangles
    further : list_any (λ i. list_any (lacks (tile_at columns i)) places) numbers ≡ true →
        (next : Point → ℕ → Bool) × IsRunning columns rows n p tolerance error wanted next × (total sets < total next)
    unfolding lacks total
    further some =
        let f : (next : Point → ℕ → Bool) × ((t : Point) → IsTile columns rows t →
        IsLeastSettledWith n tolerance (tile_error p error t) (wanted t) (next t)) = fitted wanted wanted-splittable in
        let step : IsRunning columns rows n p tolerance error wanted f.0 =
        run-step columns rows n p tolerance error required sets running wanted f.0 wider wanted-asked f.1 in
        let i = Any-in (λ i. list_any (lacks (tile_at columns i)) places) numbers some in
        let t : Point = tile_at columns i.0 in
        let a = Any-in (lacks (tile_at columns i.0)) places i.2 in
        let last = (range-in 0 (columns * rows) i.0 i.1).1 in
        let tile : IsTile columns rows t = tile_at-is columns rows i.0 (omega arith) in
        let top = number-small columns rows t tile in
        let q = and_parts (asking t a.0) (not (sets t a.0)) a.2 in
        let member : IsTrue (f.0 t a.0) = (f.1 t tile).splits a.0 (or_right (required t a.0) (asking t a.0) q.0) in (
          f.0,
          step,
          joined-grown p columns rows t (λ t. leaves_of n (sets t)) (λ t. leaves_of n (f.0 t)) tile
              (λ u tile'. leaves_of-more n (sets u) (f.0 u)
              (run-grows columns rows n p tolerance error required sets running wanted f.0 wider wanted-asked f.1
              u tile'))
              (with-grown n tolerance (tile_error p error t) (required t) (wanted t) (sets t) (f.0 t) a.0
              (wider t tile) (running.least t tile) (f.1 t tile) member (outside (sets t a.0) q.1))
              (columns * rows) top (omega arith),
        )
      where
        outside : (t : Bool) → not t ≡ true → t ≡ true → ⊥
        outside true h k = false≢true h
        outside false h k = false≢true k

  run-from : (fuel : ℕ) (required sets : Point → ℕ → Bool) → IsRunning columns rows n p tolerance error required sets →
      2 * 4 ^ n * (columns * rows) < total sets + fuel → IsEnd
  run-from zero required sets running enough = let most = total-most sets in absurd (omega arith)
  run-from (suc fuel) required sets running enough = ⊎_elim
      (λ some.
      let next : (next : Point → ℕ → Bool)
      × IsRunning columns rows n p tolerance error (wanted required sets running) next
      × (total sets < total next) = further required sets running some in
      let more = next.2 in
      run-from fuel (wanted required sets running) next.0 next.1 (omega arith))
      (λ none. record {
        required = required;
        sets = sets;
        running = running;
        down = down required sets running none;
      })
      (cases_Bool (list_any
      (λ i. list_any (lacks required sets running (tile_at columns i)) (places required sets running))
      (numbers required sets running)))

  -- there are rounds that do
  pub run-ends : (required : Point → ℕ → Bool) × (sets : Point → ℕ → Bool)
      × IsRunning columns rows n p tolerance error required sets × IsSettledDown columns rows n p sets
  run-ends =
      let f : (sets : Point → ℕ → Bool) × ((t : Point) → IsTile columns rows t →
      IsLeastSettledWith n tolerance (tile_error p error t) (λ a. eqb a 2) (sets t)) =
      fitted (λ t a. eqb a 2) (λ t tile a is. first-splittable a (eqb-true a 2 is)) in
      let e : IsEnd = run-from (2 * 4 ^ n * (columns * rows) + 1) (λ t a. eqb a 2) f.0
      (run-start columns rows n p tolerance error f.0 f.1) (omega arith) in
      (e.required, e.sets, e.running, e.down)
