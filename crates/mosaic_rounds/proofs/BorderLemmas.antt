-- Triangles with their base on a side: two levels down, and that side and place tell the triangle.
use Rattle.std.proofs.Common.{◌≡◌, ◌⊎◌, ℕ, zero, suc, ◌+◌, ◌*◌, ◌/◌, ◌%◌, ◌^◌, ◌<◌, ◌≤◌, true, ◌&&◌, ◌||◌, IsTrue, eqb}
use Rattle.std.proofs.Common.{pow_mono}
use Rattle.std.proofs.Common.{refl, sym, ◌∙◌, ap, subst, arith, ⊎_elim, eq-eqb, inl, inr, pow_pos}
use Rattle.std.proofs.lemmas.Bool.{cases_lt, cases_eq, and_parts, and_from, or_cases, or_left, or_right, eqb-true}
use Rattle.mesh_defs.specs.Triangle.{level_of}
use Rattle.bintree_laws.proofs.LevelLemmas.{level_of-first, level_of-deep, level_of-root, pow_next, pow_after}
use Rattle.mosaic_rounds.specs.Border.{backward, is_border_at, is_border, side_of, place_of}

-- a quarter

pub border-first : (a : ℕ) → 4 ≤ a → a < 8 → is_border a ≡ true
border-first a big small = rw (level_of-first a big small) (eq-eqb (a / 4) 1 (omega arith))

pub side-first : (a : ℕ) → 4 ≤ a → a < 8 → side_of a ≡ a % 4
side-first a big small = rw (level_of-first a big small) refl

pub place-first : (a : ℕ) → 4 ≤ a → a < 8 → place_of a ≡ 1
place-first a big small = rw (level_of-first a big small) refl

-- and further down

half-deep : (a : ℕ) → 8 ≤ a → level_of a / 2 ≡ suc (level_of (a / 4) / 2)
half-deep a big = let e = level_of-deep a big in omega arith

pub border-deep : (a : ℕ) → 8 ≤ a → is_border a ≡ ((eqb (a % 4) 1 || eqb (a % 4) 2) && is_border (a / 4))
border-deep a big = rw (half-deep a big) refl

pub side-deep : (a : ℕ) → 8 ≤ a → side_of a ≡ side_of (a / 4)
side-deep a big = rw (half-deep a big) refl

pub place-deep : (a : ℕ) → 8 ≤ a → place_of a ≡ 2 * place_of (a / 4) + (a % 4 + 1 + backward (side_of (a / 4))) % 2
place-deep a big = rw (half-deep a big) refl

-- a triangle on a side is a quarter, or the second or third grandchild of one
pub border-parts : (a : ℕ) → 8 ≤ a → IsTrue (is_border a) → ((a % 4 ≡ 1) ⊎ (a % 4 ≡ 2)) × IsTrue (is_border (a / 4))
border-parts a big is =
    let parts = and_parts (eqb (a % 4) 1 || eqb (a % 4) 2) (is_border (a / 4)) (sym (border-deep a big) ∙ is) in (
      ⊎_elim (λ h. inl (eqb-true (a % 4) 1 h)) (λ h. inr (eqb-true (a % 4) 2 h))
          (or_cases (eqb (a % 4) 1) (eqb (a % 4) 2) parts.0),
      parts.1,
    )

pub border-from : (a : ℕ) → 8 ≤ a → (a % 4 ≡ 1) ⊎ (a % 4 ≡ 2) → IsTrue (is_border (a / 4)) → IsTrue (is_border a)
border-from a big last up =
    border-deep a big ∙ and_from (eqb (a % 4) 1 || eqb (a % 4) 2) (is_border (a / 4))
    (⊎_elim (λ h. or_left (eqb (a % 4) 1) (eqb (a % 4) 2) (eq-eqb (a % 4) 1 h))
    (λ h. or_right (eqb (a % 4) 1) (eqb (a % 4) 2) (eq-eqb (a % 4) 2 h)) last) up

-- it is no half of the square
pub border-big : (a : ℕ) → 2 ≤ a → IsTrue (is_border a) → 4 ≤ a
border-big a low is = ⊎_elim
    (λ (small : a < 4).
    let zero_at : is_border_at (level_of a / 2) a ≡ eqb (a / 4) 1 = rw (level_of-root a low small) refl in
    let one = eqb-true (a / 4) 1 (sym zero_at ∙ is) in absurd (omega arith))
    (λ big. big)
    (cases_lt a 4)

-- its level is odd, and its place lies between two powers of 2
pub record IsPlaced (a : ℕ) : Type 0 where
  pub odd : level_of a ≡ 2 * (level_of a / 2) + 1
  pub low : 2 ^ (level_of a / 2) ≤ place_of a
  pub high : place_of a < 2 ^ (level_of a / 2 + 1)
  pub side : side_of a < 4

backward-small : (side : ℕ) → backward side ≤ 1
backward-small zero = omega arith
backward-small (suc zero) = omega arith
backward-small (suc (suc zero)) = omega arith
backward-small (suc (suc (suc _))) = omega arith

pub border-placed : (a : ℕ) → 2 ≤ a → IsTrue (is_border a) → IsPlaced a
border-placed a low is = at (suc a) a (omega arith) low is
  where
    at : (fuel a : ℕ) → a < fuel → 2 ≤ a → IsTrue (is_border a) → IsPlaced a
    at zero a enough low is = absurd (omega arith)
    at (suc fuel) a enough low is =
        let big = border-big a low is in ⊎_elim
        (λ (small : a < 8).
        let level = level_of-first a big small in
        let half : level_of a / 2 ≡ 0 = omega arith in
        let place = place-first a big small in
        let side = side-first a big small in
        record {
          odd = omega arith;
          low = rw half (omega arith);
          high = rw half (omega arith);
          side = omega arith;
        })
        (λ (deep : 8 ≤ a).
        let parts = border-parts a deep is in
        let above = at fuel (a / 4) (omega arith) (omega arith) parts.1 in
        let level = level_of-deep a deep in
        let half = half-deep a deep in
        let odd = above.odd in
        let down = above.low in
        let up = above.high in
        let place = place-deep a deep in
        let side = side-deep a deep in
        let small = above.side in
        let next : 2 ^ (level_of (a / 4) / 2 + 1) ≡ 2 * 2 ^ (level_of (a / 4) / 2) = pow_next (level_of (a / 4) / 2) in
        let after : 2 ^ (level_of (a / 4) / 2 + 2) ≡ 2 * 2 ^ (level_of (a / 4) / 2 + 1) =
        pow_after (level_of (a / 4) / 2) in
        let here : level_of a / 2 ≡ level_of (a / 4) / 2 + 1 = omega arith in
        let there : level_of a / 2 + 1 ≡ level_of (a / 4) / 2 + 2 = omega arith in
        record {
          odd = omega arith;
          low = subst (λ k. 2 ^ k ≤ place_of a) (sym here) (omega arith);
          high = subst (λ k. place_of a < 2 ^ k) (sym there) (omega arith);
          side = omega arith;
        })
        (cases_lt a 8)

-- side and place tell the triangle
pub border-same : (a b : ℕ) → 2 ≤ a → 2 ≤ b → IsTrue (is_border a) → IsTrue (is_border b) → side_of a ≡ side_of b →
    place_of a ≡ place_of b → a ≡ b
border-same a b low low' is is' side place = at (suc a) a b (omega arith) low low' is is' side place
  where
    last_of : (x y f : ℕ) → f ≤ 1 → (x ≡ 1) ⊎ (x ≡ 2) → (y ≡ 1) ⊎ (y ≡ 2) → (x + 1 + f) % 2 ≡ (y + 1 + f) % 2 → x ≡ y
    last_of x y f small (inl p) (inl q) e = omega arith
    last_of x y f small (inl p) (inr q) e = omega arith
    last_of x y f small (inr p) (inl q) e = omega arith
    last_of x y f small (inr p) (inr q) e = omega arith

    at : (fuel a b : ℕ) → a < fuel → 2 ≤ a → 2 ≤ b → IsTrue (is_border a) → IsTrue (is_border b) →
        side_of a ≡ side_of b → place_of a ≡ place_of b → a ≡ b
    at zero a b enough low low' is is' side place = absurd (omega arith)
    at (suc fuel) a b enough low low' is is' side place =
        let big = border-big a low is in
        let big' = border-big b low' is' in ⊎_elim
        (λ (small : a < 8).
        let one = place-first a big small in
        let first = side-first a big small in ⊎_elim
        (λ (small' : b < 8). let first' = side-first b big' small' in omega arith)
        (λ (deep' : 8 ≤ b).
        let down = (border-placed (b / 4) (omega arith) (border-parts b deep' is').1).low in
        let some : 1 ≤ 2 ^ (level_of (b / 4) / 2) = pow_pos (level_of (b / 4) / 2) in
        let more = place-deep b deep' in absurd (omega arith))
        (cases_lt b 8))
        (λ (deep : 8 ≤ a).
        let down = (border-placed (a / 4) (omega arith) (border-parts a deep is).1).low in
        let some : 1 ≤ 2 ^ (level_of (a / 4) / 2) = pow_pos (level_of (a / 4) / 2) in
        let more = place-deep a deep in ⊎_elim
        (λ (small' : b < 8). let one = place-first b big' small' in absurd (omega arith))
        (λ (deep' : 8 ≤ b).
        let p = border-parts a deep is in
        let q = border-parts b deep' is' in
        let more' = place-deep b deep' in
        let s = side-deep a deep in
        let s' = side-deep b deep' in
        let sides : side_of (a / 4) ≡ side_of (b / 4) = sym s ∙ side ∙ s' in
        let back : backward (side_of (a / 4)) ≡ backward (side_of (b / 4)) = ap backward sides in
        let small = backward-small (side_of (b / 4)) in
        let places : place_of (a / 4) ≡ place_of (b / 4) = omega arith in
        let up : a / 4 ≡ b / 4 = at fuel (a / 4) (b / 4) (omega arith) (omega arith)
        (omega arith) p.1 q.1 sides places in
        let last : a % 4 ≡ b % 4 =
        last_of (a % 4) (b % 4) (backward (side_of (b / 4))) small p.0 q.0 (omega arith) in
        omega arith)
        (cases_lt b 8))
        (cases_lt a 8)

-- a place below 2 ^ m is that of a triangle which may be split in a grid of m
pub border-coarse : (m a : ℕ) → 2 ≤ a → IsTrue (is_border a) → place_of a < 2 ^ m → level_of a < 2 * m
border-coarse m a low is small =
    let p = border-placed a low is in
    let down = p.low in
    let odd = p.odd in ⊎_elim
    (λ (less : level_of a / 2 < m). omega arith)
    (λ (more : m ≤ level_of a / 2).
    let most : 2 ^ m ≤ 2 ^ (level_of a / 2) = pow_mono more in absurd (omega arith))
    (cases_lt (level_of a / 2) m)

-- and the other way round
pub border-small : (m a : ℕ) → 2 ≤ a → IsTrue (is_border a) → level_of a < 2 * m → place_of a < 2 ^ m
border-small m a low is coarse =
    let p = border-placed a low is in
    let up = p.high in
    let odd = p.odd in
    let next : level_of a / 2 + 1 ≤ m = omega arith in
    let most : 2 ^ (level_of a / 2 + 1) ≤ 2 ^ m = pow_mono next in omega arith

-- every place from 1 on is that of a triangle
pub border-some : (a : ℕ) → 2 ≤ a → IsTrue (is_border a) → 1 ≤ place_of a
border-some a low is =
    let down = (border-placed a low is).low in
    let some : 1 ≤ 2 ^ (level_of a / 2) = pow_pos (level_of a / 2) in omega arith

-- the second and the third grandchild
pub record IsHalf (a b last : ℕ) : Type 0 where
  pub border : IsTrue (is_border a)
  pub side : side_of a ≡ side_of b
  pub place : place_of a ≡ 2 * place_of b + (last + 1 + backward (side_of b)) % 2

pub border-half : (a b last : ℕ) → 4 ≤ b → a / 4 ≡ b → a % 4 ≡ last → (last ≡ 1) ⊎ (last ≡ 2) → IsTrue (is_border b) →
    IsHalf a b last
border-half a b last big up end which is =
    let deep : 8 ≤ a = omega arith in record {
      border = border-from a deep (subst (λ k. (k ≡ 1) ⊎ (k ≡ 2)) (sym end) which)
          (subst (λ k. IsTrue (is_border k)) (sym up) is);
      side = side-deep a deep ∙ ap side_of up;
      place =
          let e = place-deep a deep in
          let p : place_of (a / 4) ≡ place_of b = ap place_of up in
          let q : backward (side_of (a / 4)) ≡ backward (side_of b) = ap (λ k. backward (side_of k)) up in omega arith;
    }

pub border-second : (b : ℕ) → 4 ≤ b → IsTrue (is_border b) → IsHalf (2 * (2 * b) + 1) b 1
border-second b big is =
    border-half (2 * (2 * b) + 1) b 1 big (omega arith) (omega arith) (inl refl) is

pub border-third : (b : ℕ) → 4 ≤ b → IsTrue (is_border b) → IsHalf (2 * (2 * b + 1)) b 2
border-third b big is =
    border-half (2 * (2 * b + 1)) b 2 big (omega arith) (omega arith) (inr refl) is

-- the triangle at a place
pub border-found : (side place : ℕ) → side < 4 → 1 ≤ place →
    (a : ℕ) × (4 ≤ a) × IsTrue (is_border a) × (side_of a ≡ side) × (place_of a ≡ place)
border-found side place small some = at (suc place) place (omega arith) some
  where
    at : (fuel place : ℕ) → place < fuel → 1 ≤ place →
        (a : ℕ) × (4 ≤ a) × IsTrue (is_border a) × (side_of a ≡ side) × (place_of a ≡ place)
    at zero place enough some = absurd (omega arith)
    at (suc fuel) place enough some = ⊎_elim
        (λ (one : place < 2).
        let first : side_of (4 + side) ≡ (4 + side) % 4 = side-first (4 + side) (omega arith) (omega arith) in
        let place_one : place_of (4 + side) ≡ 1 = place-first (4 + side) (omega arith) (omega arith) in (
          4 + side,
          omega arith,
          border-first (4 + side) (omega arith) (omega arith),
          omega arith,
          omega arith,
        ))
        (λ (more : 2 ≤ place).
        let b = at fuel (place / 2) (omega arith) (omega arith) in
        let side_b : side_of b.0 ≡ side = b.3 in
        let place_b : place_of b.0 ≡ place / 2 = b.4 in
        let low = backward-small (side_of b.0) in ⊎_elim
        (λ (even : (place + backward (side_of b.0)) % 2 ≡ 0).
        let h = border-second b.0 b.1 b.2 in
        let place_h = h.place in
        let side_h = h.side in (
          2 * (2 * b.0) + 1,
          (let big = b.1 in omega arith),
          h.border,
          omega arith,
          omega arith,
        ))
        (λ (odd : (place + backward (side_of b.0)) % 2 ≡ 0 → ⊥).
        let h = border-third b.0 b.1 b.2 in
        let place_h = h.place in
        let side_h = h.side in (
          2 * (2 * b.0 + 1),
          (let big = b.1 in omega arith),
          h.border,
          omega arith,
          omega arith,
        ))
        (cases_eq ((place + backward (side_of b.0)) % 2) 0))
        (cases_lt place 2)
