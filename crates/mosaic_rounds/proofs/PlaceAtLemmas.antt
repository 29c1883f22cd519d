-- Places in file order, and centres of triangles with their base on the border.
use Rattle.std.proofs.Common.{◌≡◌, ℕ, ◌+◌, ◌-◌, ◌*◌, ◌/◌, ◌%◌, ◌^◌, ◌<◌, sym, ◌∙◌, ap, subst, arith, ⊎_elim}
use Rattle.std.proofs.lemmas.Nat.{div-mul-add, mod-mul-add, div-add-mod'}
use Rattle.mesh_defs.specs.declared.point.Point.{Point}
use Rattle.mesh_defs.specs.HeightField.{place_of}
use Rattle.mesh_defs.specs.Triangle.{IsSplittable, IsMate}
use Rattle.bintree_laws.specs.Corners.{IsInSquare}
use Rattle.bintree_laws.proofs.CornerLemmas.{IsWithin-corners_of}
use Rattle.bintree_laws.proofs.LatticeLemmas.{same_point}
use Rattle.bintree_laws.proofs.CentreLemmas.{same_centre, not_border_and_mate}
use Rattle.mesh_laws.proofs.DescentLemmas.{IsAddress-splittable}
use Rattle.mesh_laws.specs.Vertex.{centre_of}
use Rattle.mosaic_rounds.specs.Place.{IsBorderTriangle}

-- a place tells its row and its column
pub record IsPlaced (n : ℕ) (q : Point) (place : ℕ) : Type 0 where
  pub row : place / (2 ^ n + 1) ≡ 2 ^ n - q.y
  pub column : place % (2 ^ n + 1) ≡ q.x

pub place-parts : (n : ℕ) (q : Point) (place : ℕ) → IsInSquare (2 ^ n) q → place_of n q.x q.y ≡ place → IsPlaced n q place
place-parts n q place inside same =
    let column = inside.x in record {
      row = ap (λ k. k / (2 ^ n + 1)) (sym same) ∙ div-mul-add (2 ^ n - q.y) (2 ^ n + 1) q.x (omega arith);
      column = ap (λ k. k % (2 ^ n + 1)) (sym same) ∙ mod-mul-add (2 ^ n - q.y) (2 ^ n + 1) q.x (omega arith);
    }

-- so it has a row
pub place-row : (n : ℕ) (q : Point) (place : ℕ) → IsInSquare (2 ^ n) q → place_of n q.x q.y ≡ place →
    place / (2 ^ n + 1) < 2 ^ n + 1
place-row n q place inside same =
    let row = (place-parts n q place inside same).row in let most = inside.y in omega arith

-- and is that of one point
pub place-only : (n : ℕ) (q : Point) (place : ℕ) → IsInSquare (2 ^ n) q → place_of n q.x q.y ≡ place →
    q ≡ record { x = place % (2 ^ n + 1); y = 2 ^ n - place / (2 ^ n + 1) }
place-only n q place inside same =
    let parts = place-parts n q place inside same in
    let row = parts.row in
    let most = inside.y in
    same_point q.x q.y (place % (2 ^ n + 1)) (2 ^ n - place / (2 ^ n + 1)) (sym parts.column) (omega arith)

-- the point with this row and column is there
pub place-there : (n place : ℕ) → place / (2 ^ n + 1) < 2 ^ n + 1 →
    place_of n (place % (2 ^ n + 1)) (2 ^ n - place / (2 ^ n + 1)) ≡ place
place-there n place less =
    let row : 2 ^ n - (2 ^ n - place / (2 ^ n + 1)) ≡ place / (2 ^ n + 1) = omega arith in
    ap (λ k. k * (2 ^ n + 1) + place % (2 ^ n + 1)) row ∙ div-add-mod' place (2 ^ n + 1)

-- a centre is in the square
pub centre-in : (n a : ℕ) → IsInSquare (2 ^ n) (centre_of n a)
centre-in n a =
    let within = IsWithin-corners_of n a in
    let x0 = within.v0_x in let x1 = within.v1_x in let y0 = within.v0_y in let y1 = within.v1_y in
    record { x = omega arith; y = omega arith }

-- A splittable triangle with the centre of one on the border is that one, and has no mate.
pub centre-one : (n a t : ℕ) → IsBorderTriangle n a → IsSplittable n t → centre_of n a ≡ centre_of n t → a ≡ t
centre-one n a t border s same = ⊎_elim
    (λ (equal : t ≡ a). sym equal)
    (λ (mate : IsMate n a t).
    absurd (not_border_and_mate n a t (IsAddress-splittable n a border.splittable) border.border mate))
    (same_centre n a t border.splittable s same)

pub centre-mateless : (n a t c : ℕ) → IsBorderTriangle n a → IsSplittable n t → centre_of n a ≡ centre_of n t →
    IsMate n t c → ⊥
centre-mateless n a t c border s same mate =
    not_border_and_mate n a c (IsAddress-splittable n a border.splittable) border.border
    (subst (λ k. IsMate n k c) (sym (centre-one n a t border s same)) mate)
