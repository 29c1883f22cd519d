-- Triangles by the way from the apex to v0: their edges, their children, and the samples strictly inside them.
use Rattle.std.proofs.Common.{◌≡◌, ◌≢◌, ℕ, zero, suc, ◌+◌, ◌-◌, ◌*◌, ◌/◌, ◌%◌, ◌^◌, ◌<◌, ◌≤◌, ◌⊎◌, inl, inr, Bool, true}
use Rattle.std.proofs.Common.{false, refl, subst, arith, ⊎_elim, pow_pos}
use Rattle.std.proofs.lemmas.Bool.{cases_lt, false≢true}
use Rattle.mesh_defs.specs.declared.point.Point.{Point}
use Rattle.mesh_defs.specs.declared.point.Corners.{Corners}
use Rattle.mesh_defs.specs.Triangle.{base_triangle, child, corners_at}
use Rattle.mesh_defs.specs.Tiling.{IsSample, is_within}
use Rattle.bintree_laws.specs.Corners.{IsWithin}
use Rattle.std.proofs.Math.Nat.{pow-succ'}
use Rattle.mesh_defs.proofs.ListLemmas.{one_if}
use Rattle.mesh_laws.proofs.WayLemmas.{Way, east, north_east, north, north_west, west, south_west, south, south_east}
use Rattle.mesh_laws.proofs.WayLemmas.{IsRun, sides, IsBeside, IsBeside-left, IsLeft-beside, IsBounded-from}
use Rattle.mesh_laws.proofs.WayLemmas.{IsBounded-to}

-- an eighth of a turn to the left
abbrev pub eighth : Way → Way
eighth east = north_east
eighth north_east = north
eighth north = north_west
eighth north_west = west
eighth west = south_west
eighth south_west = south
eighth south = south_east
eighth south_east = east

-- a quarter turn to the left
abbrev pub quarter : Way → Way
quarter w = eighth (eighth w)

-- three eighths of a turn to the left
abbrev pub three : Way → Way
three w = eighth (quarter w)

-- five eighths of a turn to the left
abbrev pub five : Way → Way
five w = three (quarter w)

-- three quarters of a turn to the left
abbrev pub six : Way → Way
six w = three (three w)

-- the way from the apex to v0 is w, both legs have k steps, and v1 lies a quarter turn to the left
abbrev pub IsTurned : Way → ℕ → Corners → Type 0
IsTurned w k c = IsRun w k c.apex c.v0 × IsRun (quarter w) k c.apex c.v1

-- the steps of a leg whose base has 2 k steps
abbrev pub leg : Way → ℕ → ℕ
leg east k = 2 * k
leg north k = 2 * k
leg west k = 2 * k
leg south k = 2 * k
leg _ k = k

-- Below, a clause with `_` in the place of the way stands for all ways that no clause above it names, and is
-- checked for each.

-- edges

-- the base of a triangle that can be halved
pub IsRun-base : (w : Way) (k : ℕ) (c : Corners) → IsTurned w (leg w k) c → IsRun (three w) (2 * k) c.v0 c.v1
IsRun-base east k c t = (omega arith, omega arith)
IsRun-base _ k c t = (omega arith, omega arith)

-- the base of a triangle with legs along the axes
abbrev pub IsAxis : Way → Type 0
IsAxis east = Unit {0}
IsAxis north = Unit {0}
IsAxis west = Unit {0}
IsAxis south = Unit {0}
IsAxis _ = ⊥

-- its base has as many diagonal steps as a leg has
pub IsRun-short_base : (w : Way) (k : ℕ) (c : Corners) → IsAxis w → IsTurned w k c → IsRun (three w) k c.v0 c.v1
IsRun-short_base east k c a t = (omega arith, omega arith)
IsRun-short_base north k c a t = (omega arith, omega arith)
IsRun-short_base west k c a t = (omega arith, omega arith)
IsRun-short_base south k c a t = (omega arith, omega arith)
IsRun-short_base _ k c a t = absurd a

-- some run is the base
IsRun-some_base : (w : Way) (k : ℕ) (c : Corners) → 0 < k → IsTurned w k c →
    (j : ℕ) × (0 < j) × IsRun (three w) j c.v0 c.v1
IsRun-some_base east k c some t = (k, some, IsRun-short_base east k c tt t)
IsRun-some_base north k c some t = (k, some, IsRun-short_base north k c tt t)
IsRun-some_base west k c some t = (k, some, IsRun-short_base west k c tt t)
IsRun-some_base south k c some t = (k, some, IsRun-short_base south k c tt t)
IsRun-some_base w k c some t = (2 * k, omega arith, IsRun-base w k c t)

-- the right leg, from v1 back to the apex
pub IsRun-right_leg : (w : Way) (k : ℕ) (c : Corners) → IsTurned w k c → IsRun (six w) k c.v1 c.apex
IsRun-right_leg east k c t = (omega arith, omega arith)
IsRun-right_leg _ k c t = (omega arith, omega arith)

-- children

-- the left child is turned by five eighths
pub IsTurned-left : (w : Way) (k : ℕ) (c : Corners) → IsTurned w (leg w k) c → IsTurned (five w) k (child 0 c)
IsTurned-left east k c t = ((omega arith, omega arith), (omega arith, omega arith))
IsTurned-left _ k c t = ((omega arith, omega arith), (omega arith, omega arith))

-- the right child is turned by three eighths
pub IsTurned-right : (w : Way) (k s : ℕ) (c : Corners) → IsTurned w (leg w k) c → IsTurned (three w) k (child (suc s) c)
IsTurned-right east k s c t = ((omega arith, omega arith), (omega arith, omega arith))
IsTurned-right _ k s c t = ((omega arith, omega arith), (omega arith, omega arith))

-- points strictly inside, by the sides of the three runs

-- strictly inside: beside the left leg, the base and the right leg
abbrev pub IsIn : Way → ℕ → ℕ → Corners → Type 0
IsIn w x y c = IsBeside w c.apex x y × IsBeside (three w) c.v0 x y × IsBeside (six w) c.v1 x y

-- from the test
pub IsIn-test : (w : Way) (k x y : ℕ) (c : Corners) → 0 < k → IsTurned w k c → is_within x y c ≡ true → IsIn w x y c
IsIn-test w k x y c some t h =
    let test = IsBounded-from x y c h in
    let base = IsRun-some_base w k c some t in (
      IsBeside-left w k x y c.apex c.v0 t.0 test.leg,
      IsBeside-left (three w) base.0 x y c.v0 c.v1 base.2 test.base,
      IsBeside-left (six w) k x y c.v1 c.apex (IsRun-right_leg w k c t) test.other,
    )

-- to the test
pub test-IsIn : (w : Way) (k x y : ℕ) (c : Corners) → 0 < k → IsTurned w k c → IsIn w x y c → is_within x y c ≡ true
test-IsIn w k x y c some t h =
    let base = IsRun-some_base w k c some t in
    IsBounded-to x y c (record {
      leg = IsLeft-beside w k x y c.apex c.v0 some t.0 h.0;
      base = IsLeft-beside (three w) base.0 x y c.v0 c.v1 base.1 base.2 h.1;
      other = IsLeft-beside (six w) k x y c.v1 c.apex some (IsRun-right_leg w k c t) h.2;
    })

-- in the left child is in the triangle
IsIn-left : (w : Way) (k x y : ℕ) (c : Corners) → IsTurned w (leg w k) c → IsIn (five w) x y (child 0 c) → IsIn w x y c
IsIn-left east k x y c t h = (omega arith, omega arith, omega arith)
IsIn-left _ k x y c t h = (omega arith, omega arith, omega arith)

-- and so is in the right child
IsIn-right : (w : Way) (k x y : ℕ) (c : Corners) → IsTurned w (leg w k) c →
    IsIn (three w) x y (child 1 c) → IsIn w x y c
IsIn-right east k x y c t h = (omega arith, omega arith, omega arith)
IsIn-right _ k x y c t h = (omega arith, omega arith, omega arith)

-- in no triangle's both children
not_both : (w : Way) (k x y : ℕ) (c : Corners) → IsTurned w (leg w k) c → IsIn (five w) x y (child 0 c) →
    IsIn (three w) x y (child 1 c) → ⊥
not_both east k x y c t h i = omega arith
not_both _ k x y c t h i = omega arith

-- off the rows, columns and diagonals through grid points
pub record IsOff (x y : ℕ) : Type 0 where
  pub row : y % 4 ≢ 0
  pub column : x % 4 ≢ 0
  pub diagonal : (x + y) % 2 ≡ 1

-- each sample is off the lines
pub IsOff-sample : (n x y : ℕ) → IsSample n x y → IsOff x y
IsOff-sample n x y s = elim s.placed [
  | inl e ↦ record { row = λ z. omega arith; column = λ z. omega arith; diagonal = omega arith }
  | inr e ↦ record { row = λ z. omega arith; column = λ z. omega arith; diagonal = omega arith }
]

-- no sample is on a line through grid points
sides-apart : (w : Way) (p : Point) (x y : ℕ) → IsOff x y → (sides w p x y).0 ≢ (sides w p x y).1
sides-apart east p x y off e = let r = off.row in let l = off.column in let d = off.diagonal in omega arith
sides-apart _ p x y off e = let r = off.row in let l = off.column in let d = off.diagonal in omega arith

-- the split line goes from the apex: in a triangle and right of it is in the left child
in-left : (w : Way) (k x y : ℕ) (c : Corners) → IsTurned w (leg w k) c → IsIn w x y c →
    (sides (eighth w) c.apex x y).1 < (sides (eighth w) c.apex x y).0 → IsIn (five w) x y (child 0 c)
in-left east k x y c t h right = (omega arith, omega arith, omega arith)
in-left _ k x y c t h right = (omega arith, omega arith, omega arith)

-- and left of it is in the right child
in-right : (w : Way) (k x y : ℕ) (c : Corners) → IsTurned w (leg w k) c → IsIn w x y c →
    IsBeside (eighth w) c.apex x y → IsIn (three w) x y (child 1 c)
in-right east k x y c t h left = (omega arith, omega arith, omega arith)
in-right _ k x y c t h left = (omega arith, omega arith, omega arith)

-- what is in a triangle and off the lines is in one of its children
IsIn-child : (w : Way) (k x y : ℕ) (c : Corners) → IsOff x y → IsTurned w (leg w k) c → IsIn w x y c →
    IsIn (five w) x y (child 0 c) ⊎ IsIn (three w) x y (child 1 c)
IsIn-child w k x y c off t h =
    let apart = sides-apart (eighth w) c.apex x y off in
    ⊎_elim
    (λ left. inr (in-right w k x y c t h left))
    (λ upto. inl (in-left w k x y c t h (omega arith)))
    (cases_lt (sides (eighth w) c.apex x y).0 (sides (eighth w) c.apex x y).1)

-- levels

-- how many levels lie below a triangle with legs of 2 ^ half steps
abbrev pub levels_below : Way → ℕ → ℕ
levels_below east half = 2 * half
levels_below north half = 2 * half
levels_below west half = 2 * half
levels_below south half = 2 * half
levels_below _ half = 2 * half + 1

-- a triangle of this level: its way, and how often its legs can be halved
abbrev pub IsPlaced : ℕ → ℕ → Corners → Type 0
IsPlaced n level c = (w : Way) × (half : ℕ) × (level + levels_below w half ≡ 2 * n) × IsTurned w (2 ^ half) c

-- a triangle above the finest level, by the steps of half its base
abbrev pub IsForked : Way → ℕ → Corners → Type 0
IsForked w half c = IsTurned w (leg w (2 ^ half)) c

-- above the finest level
forked : (w : Way) (half n level : ℕ) (c : Corners) → level < 2 * n → level + levels_below w half ≡ 2 * n →
    IsTurned w (2 ^ half) c →
    (less : ℕ) × IsForked w less c × (suc level + levels_below (five w) less ≡ 2 * n)
    × (suc level + levels_below (three w) less ≡ 2 * n)
forked north_east half n level c h e t = (half, t, omega arith, omega arith)
forked north_west half n level c h e t = (half, t, omega arith, omega arith)
forked south_west half n level c h e t = (half, t, omega arith, omega arith)
forked south_east half n level c h e t = (half, t, omega arith, omega arith)
forked w zero n level c h e t = absurd (omega arith)
forked w (suc half) n level c h e t = (half, subst (λ k. IsTurned w k c) (pow-succ' 2 half) t, omega arith, omega arith)

-- at the finest level
finest : (w : Way) (half n level : ℕ) (c : Corners) → level ≡ 2 * n → level + levels_below w half ≡ 2 * n →
    IsTurned w (2 ^ half) c →
    IsAxis w × IsTurned w 1 c
finest north_east half n level c h e t = absurd (omega arith)
finest north_west half n level c h e t = absurd (omega arith)
finest south_west half n level c h e t = absurd (omega arith)
finest south_east half n level c h e t = absurd (omega arith)
finest _ zero n level c h e t = (tt, t)
finest _ (suc half) n level c h e t = absurd (omega arith)

-- the base triangles
IsPlaced-base : (n side : ℕ) → IsPlaced n 0 (base_triangle (2 ^ n) side)
IsPlaced-base n zero = (east, n, omega arith, ((omega arith, refl), (refl, omega arith)))
IsPlaced-base n (suc _) = (west, n, omega arith, ((omega arith, refl), (refl, omega arith)))

-- a child has the next level
IsPlaced-child : (n level side : ℕ) (c : Corners) → level < 2 * n → IsPlaced n level c →
    IsPlaced n (suc level) (child side c)
IsPlaced-child n level zero c h p =
    let f = forked p.0 p.1 n level c h p.2 p.3 in
    (five p.0, f.0, f.2, IsTurned-left p.0 (2 ^ f.0) c f.1)
IsPlaced-child n level (suc s) c h p =
    let f = forked p.0 p.1 n level c h p.2 p.3 in
    (three p.0, f.0, f.3, IsTurned-right p.0 (2 ^ f.0) s c f.1)

-- each triangle down to the finest level
pub IsPlaced-at : (level n a : ℕ) → level ≤ 2 * n → IsPlaced n level (corners_at level (2 ^ n) a)
IsPlaced-at zero n a h = IsPlaced-base n (a % 2)
IsPlaced-at (suc level) n a h =
    IsPlaced-child n level (a % 2) (corners_at level (2 ^ n) (a / 2)) h (IsPlaced-at level n (a / 2) (omega arith))

-- a triangle above the finest level can be halved
pub forked-placed : (n level : ℕ) (c : Corners) → level < 2 * n → IsPlaced n level c →
    (w : Way) × (k : ℕ) × (0 < k) × IsTurned w (leg w k) c
forked-placed n level c h p =
    let f = forked p.0 p.1 n level c h p.2 p.3 in (p.0, 2 ^ f.0, pow_pos f.0, f.1)

-- a finest triangle is half of a grid square
pub finest-placed : (n level : ℕ) (c : Corners) → level ≡ 2 * n → IsPlaced n level c →
    (w : Way) × IsAxis w × IsTurned w 1 c
finest-placed n level c h p =
    let f = finest p.0 p.1 n level c h p.2 p.3 in (p.0, f.0, f.1)

-- a leg has a step
leg_some : (w : Way) (k : ℕ) → 0 < k → 0 < leg w k
leg_some east k h = omega arith
leg_some _ k h = omega arith

-- samples

-- what three tests count
count_of : (whole left right : Bool) → (left ≡ true → whole ≡ true) → (right ≡ true → whole ≡ true) →
    (left ≡ true → right ≡ true → ⊥) → (whole ≡ true → (left ≡ true) ⊎ (right ≡ true)) →
    one_if left + one_if right ≡ one_if whole
count_of true true true l r both some = absurd (both refl refl)
count_of true true false l r both some = refl
count_of true false true l r both some = refl
count_of true false false l r both some = absurd (⊎_elim false≢true false≢true (some refl))
count_of false true right l r both some = absurd (false≢true (l refl))
count_of false false true l r both some = absurd (false≢true (r refl))
count_of false false false l r both some = refl

-- a sample is strictly inside a triangle exactly as often as inside its two children
pub one_child : (w : Way) (k x y : ℕ) (c : Corners) → 0 < k → IsOff x y → IsTurned w (leg w k) c →
    one_if (is_within x y (child 0 c)) + one_if (is_within x y (child 1 c)) ≡ one_if (is_within x y c)
one_child w k x y c some off t =
    let l = IsTurned-left w k c t in
    let r = IsTurned-right w k 0 c t in
    let more : 0 < leg w k = leg_some w k some in
    count_of (is_within x y c) (is_within x y (child 0 c)) (is_within x y (child 1 c))
    (λ h. test-IsIn w (leg w k) x y c more t (IsIn-left w k x y c t (IsIn-test (five w) k x y (child 0 c) some l h)))
    (λ h. test-IsIn w (leg w k) x y c more t (IsIn-right w k x y c t (IsIn-test (three w) k x y (child 1 c) some r h)))
    (λ h i. not_both w k x y c t (IsIn-test (five w) k x y (child 0 c) some l h)
    (IsIn-test (three w) k x y (child 1 c) some r i))
    (λ h. ⊎_elim
    (λ i. inl (test-IsIn (five w) k x y (child 0 c) some l i))
    (λ i. inr (test-IsIn (three w) k x y (child 1 c) some r i))
    (IsIn-child w k x y c off t (IsIn-test w (leg w k) x y c more t h)))

-- each finest triangle has a sample strictly inside
pub some_sample : (w : Way) (n : ℕ) (c : Corners) → IsAxis w → IsTurned w 1 c → IsWithin (2 ^ n) c →
    (x : ℕ) × (y : ℕ) × IsSample n x y × (is_within x y c ≡ true)
some_sample east n c a t within = (
  4 * c.apex.x + 1,
  4 * c.apex.y + 2,
  (let b0 = within.apex_x in let b1 = within.apex_y in let b2 = within.v0_x in let b3 = within.v0_y in
      let b4 = within.v1_x in let b5 = within.v1_y in
      record { x_within = omega arith; y_within = omega arith; placed = inr (omega arith, omega arith) }),
  test-IsIn east 1 (4 * c.apex.x + 1) (4 * c.apex.y + 2) c (omega arith) t (omega arith, omega arith, omega arith),
)
some_sample north n c a t within = (
  4 * c.apex.x - 1,
  4 * c.apex.y + 2,
  (let b0 = within.apex_x in let b1 = within.apex_y in let b2 = within.v0_x in let b3 = within.v0_y in
      let b4 = within.v1_x in let b5 = within.v1_y in
      record { x_within = omega arith; y_within = omega arith; placed = inr (omega arith, omega arith) }),
  test-IsIn north 1 (4 * c.apex.x - 1) (4 * c.apex.y + 2) c (omega arith) t (omega arith, omega arith, omega arith),
)
some_sample west n c a t within = (
  4 * c.apex.x - 1,
  4 * c.apex.y - 2,
  (let b0 = within.apex_x in let b1 = within.apex_y in let b2 = within.v0_x in let b3 = within.v0_y in
      let b4 = within.v1_x in let b5 = within.v1_y in
      record { x_within = omega arith; y_within = omega arith; placed = inr (omega arith, omega arith) }),
  test-IsIn west 1 (4 * c.apex.x - 1) (4 * c.apex.y - 2) c (omega arith) t (omega arith, omega arith, omega arith),
)
some_sample south n c a t within = (
  4 * c.apex.x + 1,
  4 * c.apex.y - 2,
  (let b0 = within.apex_x in let b1 = within.apex_y in let b2 = within.v0_x in let b3 = within.v0_y in
      let b4 = within.v1_x in let b5 = within.v1_y in
      record { x_within = omega arith; y_within = omega arith; placed = inr (omega arith, omega arith) }),
  test-IsIn south 1 (4 * c.apex.x + 1) (4 * c.apex.y - 2) c (omega arith) t (omega arith, omega arith, omega arith),
)
some_sample _ n c a t within = absurd a
