-- Addresses in tiles by their bits: a quarter's address, followed by the bits below the quarter.
use Rattle.std.proofs.Common.{◌≡◌, ℕ, zero, suc, ◌+◌, ◌-◌, ◌*◌, ◌/◌, ◌%◌, ◌^◌, ◌<◌, sym, ◌∙◌, ap, arith, pow_pos}
use Rattle.std.proofs.Math.Nat.{pow-succ', div-div-eq-div-mul, mod-lt}
use Rattle.std.proofs.Math.Arith.{mod-mul}
use Rattle.mesh_defs.specs.declared.point.Point.{Point}
use Rattle.mesh_defs.specs.Triangle.{level_of}
use Rattle.mosaic_laws.specs.Tile.{quarter, named_at, in_tile}
use Rattle.mosaic_laws.specs.Mirror.{mirror_quarter, mirror_at, mirrored}

-- the two parts of a, so many bits and one more from below
shifted : (levels a : ℕ) → a / 2 ^ suc levels ≡ a / 2 / 2 ^ levels
shifted levels a = ap (λ k. a / k) (pow-succ' 2 levels) ∙ sym (div-div-eq-div-mul a 2 (2 ^ levels))

masked : (levels a : ℕ) → a % 2 ^ suc levels ≡ 2 * (a / 2 % 2 ^ levels) + a % 2
masked levels a =
    let some : 0 < 2 ^ levels = pow_pos levels in
    let e : 2 ^ suc levels ≡ 2 ^ levels * 2 = pow-succ' 2 levels ∙ omega arith in
    ap (λ k. a % k) e ∙ mod-mul a {m = 2 ^ levels} {c = 2} some (omega arith) ∙ omega arith

named-bits : (levels p : ℕ) (t : Point) (a : ℕ) →
    named_at levels p t a ≡ quarter p t.x t.y (a / 2 ^ levels % 4) * 2 ^ levels + a % 2 ^ levels
named-bits zero p t a =
    let whole : a / 2 ^ 0 ≡ a = omega arith in
    let none : a % 2 ^ 0 ≡ 0 = omega arith in
    rw (whole, none) (omega arith)
named-bits (suc levels) p t a =
    let above = named-bits levels p t (a / 2) in
    let e : 2 ^ suc levels ≡ 2 * 2 ^ levels = pow-succ' 2 levels in
    rw (shifted levels a, masked levels a, e)
    (doubled (named_at levels p t (a / 2)) (quarter p t.x t.y (a / 2 / 2 ^ levels % 4)) (2 ^ levels)
    (a / 2 % 2 ^ levels) (a % 2) above)
  where
    doubled : (n q m r b : ℕ) → n ≡ q * m + r → 2 * n + b ≡ q * (2 * m) + (2 * r + b)
    doubled n q m r b e = omega (arith, ap (λ k. 2 * k) e)

-- the quarter's address, shifted, and the bits of a below its quarter
pub in_tile-bits : (p : ℕ) (t : Point) (a : ℕ) → in_tile p t a
    ≡ quarter p t.x t.y (a / 2 ^ (level_of a - 1) % 4) * 2 ^ (level_of a - 1) + a % 2 ^ (level_of a - 1)
unfolding in_tile
in_tile-bits p t a = named-bits (level_of a - 1) p t a

mirror-bits : (levels which a : ℕ) → mirror_at levels which a
    ≡ (4 + mirror_quarter which (a / 2 ^ levels % 4)) * 2 ^ levels + (2 ^ levels - 1 - a % 2 ^ levels)
mirror-bits zero which a =
    let whole : a / 2 ^ 0 ≡ a = omega arith in
    let none : a % 2 ^ 0 ≡ 0 = omega arith in
    rw (whole, none) (omega arith)
mirror-bits (suc levels) which a =
    let above = mirror-bits levels which (a / 2) in
    let e : 2 ^ suc levels ≡ 2 * 2 ^ levels = pow-succ' 2 levels in
    let small : a / 2 % 2 ^ levels < 2 ^ levels = mod-lt (a / 2) (pow_pos levels) in
    rw (shifted levels a, masked levels a, e)
    (doubled (mirror_at levels which (a / 2)) (4 + mirror_quarter which (a / 2 / 2 ^ levels % 4)) (2 ^ levels)
    (a / 2 % 2 ^ levels) (a % 2) small (omega arith) above)
  where
    doubled : (n q m r b : ℕ) → r < m → b < 2 → n ≡ q * m + (m - 1 - r) →
        2 * n + (1 - b) ≡ q * (2 * m) + (2 * m - 1 - (2 * r + b))
    doubled n q m r b small bit e = omega (arith, ap (λ k. 2 * k) e)

-- the mirrored quarter, shifted, and the bits of a below its quarter exchanged
pub mirrored-bits : (which a : ℕ) → mirrored which a
    ≡ (4 + mirror_quarter which (a / 2 ^ (level_of a - 1) % 4)) * 2 ^ (level_of a - 1)
    + (2 ^ (level_of a - 1) - 1 - a % 2 ^ (level_of a - 1))
unfolding mirrored
mirrored-bits which a = mirror-bits (level_of a - 1) which a
