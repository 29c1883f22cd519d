-- The squares that triangles lie in, of one resolution and the next, and the halves of a square.
use Rattle.std.proofs.Common.{◌≡◌, ℕ, zero, suc, ◌+◌, ◌-◌, ◌*◌, ◌/◌, ◌%◌, ◌^◌, ◌<◌, ◌≤◌, refl, sym}
use Rattle.std.proofs.Common.{◌∙◌, ap, arith, ⊎_elim}
use Rattle.std.proofs.lemmas.Bool.{cases_lt}
use Rattle.mesh_defs.specs.declared.point.Point.{Point}
use Rattle.mesh_defs.specs.Triangle.{level_of}
use Rattle.mesh_laws.proofs.ConformityLemmas.{IsUnder, self, below}
use Rattle.mesh_laws.proofs.ConverseLemmas.{level-under}
use Rattle.bintree_laws.proofs.LevelLemmas.{level_of-left, level_of-right, level_of-parent, left-or-right}
use Rattle.bintree_laws.proofs.LatticeLemmas.{same_point}
use Rattle.mosaic_laws.specs.Tile.{IsTile, in_tile}
use Rattle.mosaic_laws.specs.Glue.{square_in, quarter_of, square_of, prefix_at, prefix_of, tile_of, local_of}
use Rattle.mosaic_laws.proofs.AddressLemmas.{in_tile-left, in_tile-right, tile-is, local-big, in_tile-local}
use Rattle.mosaic_laws.proofs.AddressLemmas.{tile-in_tile}
use Rattle.page_laws.specs.Pages.{square_above}

-- children

-- at and below the quarters a child lies in the square of its parent
tile-left : (p x : ℕ) → 2 ≤ x → 2 * p < level_of x → tile_of p (2 * x) ≡ tile_of p x
tile-left p x low deep =
    let there : in_tile p (tile_of p x) (local_of p x) ≡ x = in_tile-local p x low deep in
    let big = local-big p x low deep in
    ap (λ z. tile_of p (2 * z)) (sym there)
    ∙ ap (tile_of p) (sym (in_tile-left p (tile_of p x) (local_of p x) big))
    ∙ tile-in_tile p (tile_of p x) (2 * local_of p x) (tile-is p x low deep) (omega arith)

tile-right : (p x : ℕ) → 2 ≤ x → 2 * p < level_of x → tile_of p (2 * x + 1) ≡ tile_of p x
tile-right p x low deep =
    let there : in_tile p (tile_of p x) (local_of p x) ≡ x = in_tile-local p x low deep in
    let big = local-big p x low deep in
    ap (λ z. tile_of p (2 * z + 1)) (sym there)
    ∙ ap (tile_of p) (sym (in_tile-right p (tile_of p x) (local_of p x) big))
    ∙ tile-in_tile p (tile_of p x) (2 * local_of p x + 1) (tile-is p x low deep) (omega arith)

-- two quarters with one parent are of one square
square_of-both : (p x : ℕ) → square_of p (2 * x + 1) ≡ square_of p (2 * x)
square_of-both zero x = refl
square_of-both (suc p) x =
    let up : (2 * x + 1) / 4 ≡ 2 * x / 4 = omega arith in
    let which : (2 * x + 1) % 4 / 2 ≡ 2 * x % 4 / 2 = omega arith in
    rw (up, which) refl

-- so the two children of a half are
tile-both : (p x : ℕ) → 2 ≤ x → level_of x ≡ 2 * p → tile_of p (2 * x + 1) ≡ tile_of p (2 * x)
tile-both p x low level =
    let l = level_of-left x low in
    let r = level_of-right x low in
    let here : level_of (2 * x) - (2 * p + 1) ≡ zero = omega arith in
    let there : level_of (2 * x + 1) - (2 * p + 1) ≡ zero = omega arith in
    rw (here, there) (square_of-both p x)

-- both children of what is no coarser than the halves lie in one square
pub tile-children : (p x : ℕ) → 2 ≤ x → 2 * p ≤ level_of x → tile_of p (2 * x + 1) ≡ tile_of p (2 * x)
tile-children p x low deep = ⊎_elim
    (λ (more : 2 * p < level_of x). tile-right p x low more ∙ sym (tile-left p x low more))
    (λ (less : level_of x ≤ 2 * p). tile-both p x low (omega arith))
    (cases_lt (2 * p) (level_of x))

-- the square of what is below the halves, by its own address
pub tile-self : (p x : ℕ) → 2 ≤ x → 2 * p < level_of x → tile_of p (2 * x) ≡ tile_of p x
tile-self p x low deep = tile-left p x low deep

-- and the parent's
pub tile-parent : (p x : ℕ) → 4 ≤ x → 2 * p < level_of x → tile_of p (2 * (x / 2)) ≡ tile_of p (2 * x)
tile-parent p x big deep =
    let up = level_of-parent x big in
    let both = tile-children p (x / 2) (omega arith) (omega arith) in
    ⊎_elim
    (λ (left : x ≡ 2 * (x / 2)). ap (tile_of p) (sym left) ∙ sym (tile-self p x (omega arith) deep))
    (λ (right : x ≡ 2 * (x / 2) + 1). sym both ∙ ap (tile_of p) (sym right) ∙ sym (tile-self p x (omega arith) deep))
    (left-or-right x)

-- and of all that lies at and under a triangle
pub tile-under : (p x b : ℕ) → 2 * p ≤ level_of x → IsUnder x b → tile_of p (2 * b) ≡ tile_of p (2 * x)
tile-under p x _ deep self = refl
tile-under p x _ deep (below b big u) =
    let up = level_of-parent b big in
    let less = level-under x (b / 2) u in
    sym (tile-parent p b big (omega arith)) ∙ tile-under p x (b / 2) deep u

-- a square's triangles lie in it
pub in_tile-square : (p : ℕ) (t : Point) (b : ℕ) → IsTile (2 ^ p) (2 ^ p) t → 4 ≤ b →
    tile_of p (2 * in_tile p t b) ≡ t
in_tile-square p t b tile big =
    ap (tile_of p) (sym (in_tile-left p t b big)) ∙ tile-in_tile p t (2 * b) tile (omega arith)

-- the next resolution

prefix_at-two : (levels x : ℕ) → prefix_at (suc (suc levels)) x ≡ prefix_at levels x / 4
prefix_at-two zero x = let e : x / 2 / 2 ≡ x / 4 = omega arith in e
prefix_at-two (suc levels) x = prefix_at-two levels (x / 2)

square_in-small : (k h : ℕ) → ((square_in k h).x < 2) × ((square_in k h).y < 2)
square_in-small zero zero = (omega arith, omega arith)
square_in-small zero (suc _) = (omega arith, omega arith)
square_in-small (suc zero) zero = (omega arith, omega arith)
square_in-small (suc zero) (suc _) = (omega arith, omega arith)
square_in-small (suc (suc zero)) zero = (omega arith, omega arith)
square_in-small (suc (suc zero)) (suc _) = (omega arith, omega arith)
square_in-small (suc (suc (suc _))) zero = (omega arith, omega arith)
square_in-small (suc (suc (suc _))) (suc _) = (omega arith, omega arith)

square_of-above : (p x : ℕ) → square_of p (x / 4) ≡ square_above (square_of (suc p) x)
square_of-above p x =
    let s = square_in-small (quarter_of p (x / 4)) (x % 4 / 2) in
    let a = s.0 in let b = s.1 in
    same_point (square_of p (x / 4)).x (square_of p (x / 4)).y ((square_of (suc p) x).x / 2)
    ((square_of (suc p) x).y / 2)
    (omega arith) (omega arith)

-- the square of the next resolution is the one above
pub tile-above : (p x : ℕ) → 2 ≤ x → 2 * suc p < level_of x → tile_of p x ≡ square_above (tile_of (suc p) x)
tile-above p x low deep =
    let e : level_of x - (2 * p + 1) ≡ suc (suc (level_of x - (2 * suc p + 1))) = omega arith in
    ap (λ k. square_of p (prefix_at k x)) e
    ∙ ap (square_of p) (prefix_at-two (level_of x - (2 * suc p + 1)) x)
    ∙ square_of-above p (prefix_of (suc p) x)
