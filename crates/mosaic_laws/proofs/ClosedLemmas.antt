-- Closed sets: the part of one in a tile is closed, and closed sets of the tiles that agree on their borders are one
-- closed set with all that is coarse.
use Rattle.std.proofs.Common.{◌≡◌, ◌≢◌, ℕ, ◌+◌, ◌*◌, ◌/◌, ◌^◌, ◌<◌, ◌≤◌, ◌⊎◌, inl, inr, Bool, ◌||◌}
use Rattle.std.proofs.Common.{IsTrue, nat_le, nat_lt, sym, ◌∙◌, ap, subst, arith, ⊎_elim}
use Rattle.std.proofs.lemmas.Bool.{cases_lt, cases_eq, and_parts, and_from, ltb-true, lt-ltb, leb-true, le-leb}
use Rattle.std.proofs.lemmas.Bool.{or_cases, or_left, or_right}
use Rattle.std.proofs.Math.Pow.{pow_pos}
use Rattle.mesh_defs.specs.declared.point.Point.{Point}
use Rattle.mesh_defs.specs.Triangle.{level_of, IsAddress, IsSplittable, IsMate}
use Rattle.mesh_defs.specs.ClosedSet.{IsClosed, IsSubset}
use Rattle.mesh_defs.proofs.TestLemmas.{same_tests}
use Rattle.bintree_laws.proofs.LevelLemmas.{IsAtLevel, pow_after, level_of-at, level_of-parent, level_of-root}
use Rattle.bintree_laws.proofs.LatticeLemmas.{same_point}
use Rattle.mesh_laws.proofs.DescentLemmas.{IsAddress-splittable}
use Rattle.mosaic_laws.specs.Tile.{IsTile, in_tile, is_part}
use Rattle.mosaic_laws.specs.Glue.{is_coarse, tile_of, local_of, glue, IsAgreed}
use Rattle.mosaic_laws.proofs.AddressLemmas.{at-low, level-some, in_tile-level, in_tile-big, in_tile-parent, tile-is}
use Rattle.mosaic_laws.proofs.AddressLemmas.{local-big}
use Rattle.mosaic_laws.proofs.AddressLemmas.{local-level, local-address, in_tile-local, tile-in_tile, local-in_tile}
use Rattle.mosaic_laws.proofs.MateLemmas.{level-big, mate-first, mate-in, mate-out}

-- points

-- two points are one or not
pub cases_point : (t u : Point) → (t ≡ u) ⊎ (t ≢ u)
cases_point t u = ⊎_elim
    (λ (x : t.x ≡ u.x). ⊎_elim
    (λ (y : t.y ≡ u.y). inl (same_point t.x t.y u.x u.y x y))
    (λ (y : t.y ≢ u.y). inr (λ same. y (ap (λ (r : Point). r.y) same)))
    (cases_eq t.y u.y))
    (λ (x : t.x ≢ u.x). inr (λ same. x (ap (λ (r : Point). r.x) same)))
    (cases_eq t.x u.x)

-- tests

-- what is known of a member of a part
pub part-parts : (p : ℕ) (t : Point) (has : ℕ → Bool) (a : ℕ) → IsTrue (is_part p t has a) →
    (2 ≤ a) × ((a < 4) ⊎ ((4 ≤ a) × IsTrue (has (in_tile p t a))))
part-parts p t has a h =
    let q = and_parts (nat_le 2 a) (nat_lt a 4 || has (in_tile p t a)) h in (
      leb-true 2 a q.0,
      ⊎_elim (λ less. inl less) (λ big. ⊎_elim
          (λ small. inl (ltb-true a 4 small))
          (λ there. inr (big, there))
          (or_cases (nat_lt a 4) (has (in_tile p t a)) q.1)) (cases_lt a 4),
    )

-- and of one that is neither 2 nor 3
pub part-out : (p : ℕ) (t : Point) (has : ℕ → Bool) (a : ℕ) → 4 ≤ a → IsTrue (is_part p t has a) →
    IsTrue (has (in_tile p t a))
part-out p t has a big h = ⊎_elim
    (λ less. absurd (omega arith))
    (λ (r : (4 ≤ a) × IsTrue (has (in_tile p t a))). r.1)
    (part-parts p t has a h).1

-- 2 and 3 are members
pub part-first : (p : ℕ) (t : Point) (has : ℕ → Bool) (a : ℕ) → 2 ≤ a → a < 4 → IsTrue (is_part p t has a)
part-first p t has a low less =
    and_from (nat_le 2 a) (nat_lt a 4 || has (in_tile p t a)) (le-leb 2 a low)
    (or_left (nat_lt a 4) (has (in_tile p t a)) (lt-ltb a 4 less))

-- and what the large set has
pub part-from : (p : ℕ) (t : Point) (has : ℕ → Bool) (a : ℕ) → 2 ≤ a → IsTrue (has (in_tile p t a)) →
    IsTrue (is_part p t has a)
part-from p t has a low h =
    and_from (nat_le 2 a) (nat_lt a 4 || has (in_tile p t a)) (le-leb 2 a low)
    (or_right (nat_lt a 4) (has (in_tile p t a)) h)

-- what is known of a coarse triangle
pub coarse-parts : (p a : ℕ) → IsTrue (is_coarse p a) → (2 ≤ a) × (level_of a < 2 * p + 1)
coarse-parts p a h =
    let q = and_parts (nat_le 2 a) (nat_lt (level_of a) (2 * p + 1)) h in
    (leb-true 2 a q.0, ltb-true (level_of a) (2 * p + 1) q.1)

-- and back
pub coarse-from : (p a : ℕ) → 2 ≤ a → level_of a < 2 * p + 1 → IsTrue (is_coarse p a)
coarse-from p a low less =
    and_from (nat_le 2 a) (nat_lt (level_of a) (2 * p + 1)) (le-leb 2 a low) (lt-ltb (level_of a) (2 * p + 1) less)

-- a closed set with 2 has 3, and is one of a grid with n of 1 at least
pub closed-second : (n : ℕ) (has : ℕ → Bool) → IsClosed n has → IsTrue (has 2) → (a : ℕ) → 2 ≤ a → a < 4 → IsTrue
    (has a)
closed-second n has closed first a low less = ⊎_elim
    (λ (two : a ≡ 2). subst (λ z. IsTrue (has z)) (sym two) first)
    (λ (other : a ≢ 2).
    let three : 3 ≡ a = omega arith in subst (λ z. IsTrue (has z)) three (closed.mate 2 3 first (mate-first n)))
    (cases_eq a 2)

pub closed-some : (n : ℕ) (has : ℕ → Bool) → IsClosed n has → IsTrue (has 2) → 1 ≤ n
closed-some n has closed first =
    let coarse = (closed.splittable 2 first).coarse in omega arith

-- a closed set with all that is coarse is one of a large grid whose tiles have such an n
pub coarse-some : (n p : ℕ) (has : ℕ → Bool) → IsClosed (n + p) has → (x : ℕ) → 2 ≤ x → level_of x ≡ 2 * p →
    IsTrue (has x) → 1 ≤ n
coarse-some n p has closed x low level is =
    let coarse = (closed.splittable x is).coarse in omega arith

-- the part in a tile

-- it is closed
pub part-closed : (n p : ℕ) (t : Point) (has : ℕ → Bool) → IsTile (2 ^ p) (2 ^ p) t → 1 ≤ n → IsClosed (n + p) has →
    IsClosed n (is_part p t has)
part-closed n p t has tile some closed = record {
  splittable = λ a h. splittable a h;
  parent = λ a h big. ⊎_elim
      (λ (less : a < 8). part-first p t has (a / 2) (omega arith) (omega arith))
      (λ (large : 8 ≤ a).
      let e = in_tile-parent p t a large in
      let l = in_tile-big p t a big in
      part-from p t has (a / 2) (omega arith)
      (subst (λ z. IsTrue (has z)) e.0 (closed.parent (in_tile p t a) (part-out p t has a big h) l)))
      (cases_lt a 8);
  mate = λ a c h mate. ⊎_elim
      (λ (less : a < 4).
      let q = part-parts p t has a h in
      let z = level_of-root a q.0 less in
      let same = mate.level in
      part-first p t has c mate.address.low (⊎_elim
      (λ (small : c < 4). small)
      (λ (large : 4 ≤ c). let deep = level-some c large in absurd (omega arith))
      (cases_lt c 4)))
      (λ (big : 4 ≤ a). part-from p t has c mate.address.low
      (closed.mate (in_tile p t a) (in_tile p t c) (part-out p t has a big h)
      (mate-in n p t tile a c big (IsAddress-splittable n a (splittable a h)) mate)))
      (cases_lt a 4);
}
  where
    splittable : (a : ℕ) → IsTrue (is_part p t has a) → IsSplittable n a
    splittable a h =
        let q = part-parts p t has a h in ⊎_elim
        (λ (less : a < 4). let z = level_of-root a q.0 less in record { low = q.0; coarse = omega arith })
        (λ (r : (4 ≤ a) × IsTrue (has (in_tile p t a))).
        let coarse = (closed.splittable (in_tile p t a) r.1).coarse in
        let level = in_tile-level p t a r.0 in
        record { low = q.0; coarse = omega arith })
        q.1

-- one set of all tiles

-- what is known of a member
pub glue-parts : (p : ℕ) (sets : Point → ℕ → Bool) (x : ℕ) → IsTrue (glue p sets x) →
    (2 ≤ x) × ((level_of x < 2 * p + 1) ⊎ ((2 * p < level_of x) × IsTrue (sets (tile_of p x) (local_of p x))))
glue-parts p sets x h =
    let q = and_parts (nat_le 2 x) (nat_lt (level_of x) (2 * p + 1) || sets (tile_of p x) (local_of p x)) h in (
      leb-true 2 x q.0,
      ⊎_elim (λ less. inl less) (λ (deep : 2 * p + 1 ≤ level_of x). ⊎_elim
          (λ above. inl (ltb-true (level_of x) (2 * p + 1) above))
          (λ there. inr (omega arith, there))
          (or_cases (nat_lt (level_of x) (2 * p + 1)) (sets (tile_of p x) (local_of p x)) q.1))
          (cases_lt (level_of x) (2 * p + 1)),
    )

-- what is coarse is a member
pub glue-coarse : (p : ℕ) (sets : Point → ℕ → Bool) (x : ℕ) → 2 ≤ x → level_of x < 2 * p + 1 → IsTrue (glue p sets x)
glue-coarse p sets x low less =
    and_from (nat_le 2 x) (nat_lt (level_of x) (2 * p + 1) || sets (tile_of p x) (local_of p x)) (le-leb 2 x low)
    (or_left (nat_lt (level_of x) (2 * p + 1)) (sets (tile_of p x) (local_of p x))
    (lt-ltb (level_of x) (2 * p + 1) less))

-- and what is a member of its tile's set
pub glue-tile : (p : ℕ) (sets : Point → ℕ → Bool) (x : ℕ) → 2 ≤ x → IsTrue (sets (tile_of p x) (local_of p x)) →
    IsTrue (glue p sets x)
glue-tile p sets x low there =
    and_from (nat_le 2 x) (nat_lt (level_of x) (2 * p + 1) || sets (tile_of p x) (local_of p x)) (le-leb 2 x low)
    (or_right (nat_lt (level_of x) (2 * p + 1)) (sets (tile_of p x) (local_of p x)) there)

module _ (n p : ℕ) (sets : Point → ℕ → Bool) where
  -- the triangle of a member of a tile's set
  pub glue-in : (t : Point) (a : ℕ) → IsTile (2 ^ p) (2 ^ p) t → 4 ≤ a → IsTrue (sets t a) →
      IsTrue (glue p sets (in_tile p t a))
  glue-in t a tile big is =
      let e : tile_of p (in_tile p t a) ≡ t = tile-in_tile p t a tile big in
      let f : local_of p (in_tile p t a) ≡ a = local-in_tile p t a tile big in
      let l = in_tile-big p t a big in
      glue-tile p sets (in_tile p t a) (omega arith)
      (subst (λ z. IsTrue (sets z (local_of p (in_tile p t a)))) (sym e)
      (subst (λ z. IsTrue (sets t z)) (sym f) is))

  -- and back
  pub glue-out : (t : Point) (a : ℕ) → IsTile (2 ^ p) (2 ^ p) t → 4 ≤ a → IsTrue (glue p sets (in_tile p t a)) →
      IsTrue (sets t a)
  glue-out t a tile big h =
      let e : tile_of p (in_tile p t a) ≡ t = tile-in_tile p t a tile big in
      let f : local_of p (in_tile p t a) ≡ a = local-in_tile p t a tile big in
      let level = in_tile-level p t a big in
      let some = level-some a big in
      ⊎_elim
      (λ less. absurd (omega arith))
      (λ (r : (2 * p < level_of (in_tile p t a))
      × IsTrue (sets (tile_of p (in_tile p t a)) (local_of p (in_tile p t a)))).
      subst (λ z. IsTrue (sets t z)) f
      (subst (λ z. IsTrue (sets z (local_of p (in_tile p t a)))) e r.1))
      (glue-parts p sets (in_tile p t a) h).1

  module _ (closed : (t : Point) → IsTile (2 ^ p) (2 ^ p) t → IsClosed n (sets t))
      (centres : (t : Point) → IsTile (2 ^ p) (2 ^ p) t → IsTrue (sets t 2))
      (agreed : IsAgreed (2 ^ p) (2 ^ p) n p sets) where
    some : 1 ≤ n
    some =
        let first : IsTile (2 ^ p) (2 ^ p) (record { x = 0; y = 0 }) = (let e : 0 < 2 ^ p = pow_pos p in
        record { column = e; row = e }) in
        closed-some n (sets (record { x = 0; y = 0 })) (closed (record { x = 0; y = 0 }) first)
        (centres (record { x = 0; y = 0 }) first)

    glue-splittable : (x : ℕ) → IsTrue (glue p sets x) → IsSplittable (n + p) x
    glue-splittable x h =
        let q = glue-parts p sets x h in
        let one = some in
        ⊎_elim
        (λ less. record { low = q.0; coarse = omega arith })
        (λ (r : (2 * p < level_of x) × IsTrue (sets (tile_of p x) (local_of p x))).
        let s = (closed (tile_of p x) (tile-is p x q.0 r.0)).splittable (local_of p x) r.1 in
        let level = local-level p x q.0 r.0 in
        let deep = r.0 in
        let coarse = s.coarse in
        record { low = q.0; coarse = omega arith })
        q.1

    glue-parent : (x : ℕ) → IsTrue (glue p sets x) → 4 ≤ x → IsTrue (glue p sets (x / 2))
    glue-parent x h large =
        let q = glue-parts p sets x h in
        let e = level_of-parent x large in
        ⊎_elim
        (λ above. glue-coarse p sets (x / 2) (omega arith) above)
        (λ (deep : 2 * p + 1 ≤ level_of (x / 2)). ⊎_elim
        (λ less. absurd (omega arith))
        (λ (r : (2 * p < level_of x) × IsTrue (sets (tile_of p x) (local_of p x))).
        let t : Point = tile_of p x in
        let a : ℕ = local_of p x in
        let tile : IsTile (2 ^ p) (2 ^ p) t = tile-is p x q.0 r.0 in
        let level = local-level p x q.0 r.0 in
        let big : 4 ≤ a = local-big p x q.0 r.0 in
        let up' = level_of-parent a big in
        let half : 4 ≤ a / 2 = level-big (a / 2) (omega arith) (omega arith) in
        let up = in_tile-parent p t a (omega arith) in
        subst (λ z. IsTrue (glue p sets z)) (sym up.0 ∙ ap (λ z. z / 2) (in_tile-local p x q.0 r.0))
        (glue-in t (a / 2) tile half ((closed t tile).parent a r.1 big)))
        q.1)
        (cases_lt (level_of (x / 2)) (2 * p + 1))

    glue-mate : (x y : ℕ) → IsTrue (glue p sets x) → IsMate (n + p) x y → IsTrue (glue p sets y)
    glue-mate x y h mate =
        let q = glue-parts p sets x h in
        let same : level_of y ≡ level_of x = mate.level in
        let low : 2 ≤ y = mate.address.low in
        ⊎_elim
        (λ less. glue-coarse p sets y low (omega arith))
        (λ (r : (2 * p < level_of x) × IsTrue (sets (tile_of p x) (local_of p x))).
        let deep : 2 * p < level_of y = (let l = r.0 in omega arith) in
        let t : Point = tile_of p x in
        let a : ℕ = local_of p x in
        let u : Point = tile_of p y in
        let c : ℕ = local_of p y in
        let tile : IsTile (2 ^ p) (2 ^ p) t = tile-is p x q.0 r.0 in
        let tile' : IsTile (2 ^ p) (2 ^ p) u = tile-is p y low deep in
        let address : IsAddress n a =
        local-address p x q.0 r.0 n (IsAddress-splittable (n + p) x (glue-splittable x h)) in
        let address' : IsAddress n c = local-address p y low deep n mate.address in
        let big : 4 ≤ a = local-big p x q.0 r.0 in
        let large : 4 ≤ c = local-big p y low deep in
        let is : in_tile p t a ≡ x = in_tile-local p x q.0 r.0 in
        let is' : in_tile p u c ≡ y = in_tile-local p y low deep in
        let mates : IsMate (n + p) (in_tile p t a) (in_tile p u c) =
        subst (λ z. IsMate (n + p) z (in_tile p u c)) (sym is)
        (subst (λ z. IsMate (n + p) x z) (sym is') mate) in
        glue-tile p sets y low (⊎_elim
        (λ (one : t ≡ u).
        let inside : IsMate (n + p) (in_tile p t a) (in_tile p t c) =
        subst (λ z. IsMate (n + p) (in_tile p t a) (in_tile p z c)) (sym one) mates in
        subst (λ z. IsTrue (sets z c)) one ((closed t tile).mate a c r.1
        (mate-out n p t tile a c big large address inside)))
        (λ (two : t ≢ u). agreed t u a c tile tile' two address address' big large mates r.1)
        (cases_point t u)))
        q.1

    -- it is closed
    pub glue-closed : IsClosed (n + p) (glue p sets)
    glue-closed = record { splittable = glue-splittable; parent = glue-parent; mate = glue-mate }

  -- the part of it in a tile is the tile's set
  pub part-glue : (t : Point) → IsTile (2 ^ p) (2 ^ p) t → IsClosed n (sets t) → IsTrue (sets t 2) → (a : ℕ) →
      is_part p t (glue p sets) a ≡ sets t a
  part-glue t tile closed centre a = same_tests (is_part p t (glue p sets) a) (sets t a)
      (λ h. let q = part-parts p t (glue p sets) a h in ⊎_elim
      (λ (less : a < 4). closed-second n (sets t) closed centre a q.0 less)
      (λ (r : (4 ≤ a) × IsTrue (glue p sets (in_tile p t a))). glue-out t a tile r.0 r.1)
      q.1)
      (λ h.
      let low = (closed.splittable a h).low in ⊎_elim
      (λ (less : a < 4). part-first p t (glue p sets) a low less)
      (λ (big : 4 ≤ a). part-from p t (glue p sets) a low (glue-in t a tile big h))
      (cases_lt a 4))

-- and a set with all that is coarse is made of its parts
pub glue-part : (n p : ℕ) (has : ℕ → Bool) → IsClosed (n + p) has → IsSubset (is_coarse p) has → (x : ℕ) →
    glue p (λ t. is_part p t has) x ≡ has x
glue-part n p has closed coarse x = same_tests (glue p (λ t. is_part p t has) x) (has x)
    (λ h.
    let q = glue-parts p (λ t. is_part p t has) x h in
    ⊎_elim
    (λ less. coarse x (coarse-from p x q.0 less))
    (λ (r : (2 * p < level_of x) × IsTrue (is_part p (tile_of p x) has (local_of p x))).
    subst (λ z. IsTrue (has z)) (in_tile-local p x q.0 r.0)
    (part-out p (tile_of p x) has (local_of p x) (local-big p x q.0 r.0) r.1))
    q.1)
    (λ h.
    let low = (closed.splittable x h).low in
    ⊎_elim
    (λ less. glue-coarse p (λ t. is_part p t has) x low less)
    (λ (at : 2 * p + 1 ≤ level_of x).
    let deep : 2 * p < level_of x = omega arith in
    let big = local-big p x low deep in
    glue-tile p (λ t. is_part p t has) x low
    (part-from p (tile_of p x) has (local_of p x) (omega arith)
    (subst (λ z. IsTrue (has z)) (sym (in_tile-local p x low deep)) h)))
    (cases_lt (level_of x) (2 * p + 1)))

-- the parts of a closed set agree on the borders
pub part-agreed : (columns rows n p : ℕ) (has : ℕ → Bool) → IsClosed (n + p) has →
    IsAgreed columns rows n p (λ t. is_part p t has)
part-agreed columns rows n p has closed t u a c tile tile' other address address' big large mate h =
    part-from p u has c address'.low
    (closed.mate (in_tile p t a) (in_tile p u c) (part-out p t has a big h) mate)

-- such a set is one of a large grid whose tiles are larger than a grid step
pub coarse-n : (n p : ℕ) (has : ℕ → Bool) → IsClosed (n + p) has → IsSubset (is_coarse p) has → 1 ≤ n
coarse-n n p has closed coarse =
    let next : 2 ^ (2 * p + 2) ≡ 2 * 2 ^ (2 * p + 1) = pow_after (2 * p) in
    let some : 0 < 2 ^ (2 * p + 1) = pow_pos (2 * p + 1) in
    let at : IsAtLevel (2 * p) (2 ^ (2 * p + 1)) = record { low = omega arith; high = omega arith } in
    let level : level_of (2 ^ (2 * p + 1)) ≡ 2 * p = level_of-at (2 * p) (2 ^ (2 * p + 1)) at in
    let low : 2 ≤ 2 ^ (2 * p + 1) = at-low (2 * p) (2 ^ (2 * p + 1)) at in
    coarse-some n p has closed (2 ^ (2 * p + 1)) low level (coarse (2 ^ (2 * p + 1))
    (coarse-from p (2 ^ (2 * p + 1)) low (omega arith)))
