-- Places in the table: each square of each resolution has one of its own.
use Rattle.std.proofs.Common.{◌≡◌, ℕ, zero, suc, ◌+◌, ◌*◌, ◌/◌, ◌%◌, ◌^◌, ◌<◌, ◌≤◌, sym, ◌∙◌, ap, arith, ⊎_elim, refl}
use Rattle.std.proofs.Common.{subst}
use Rattle.std.proofs.Math.Pow.{pow_mono}
use Rattle.std.proofs.Math.Nat.{pow-succ'}
use Rattle.std.proofs.lemmas.Nat.{mul-add-lt, div-mul-add, mod-mul-add, pow-add}
use Rattle.std.proofs.lemmas.Bool.{cases_lt}
use Rattle.mesh_defs.specs.declared.point.Point.{Point}
use Rattle.bintree_laws.proofs.LatticeLemmas.{same_point}
use Rattle.mosaic_laws.specs.Tile.{IsTile}
use Rattle.page_store.specs.Store.{place, numbered}

-- squares of a resolution

-- a power of 4
four-next : (p : ℕ) → 2 ^ (2 * suc p) ≡ 4 * 2 ^ (2 * p)
four-next p =
    let e : 2 * suc p ≡ suc (suc (2 * p)) = omega arith in
    let f = pow-succ' 2 (suc (2 * p)) in
    let g = pow-succ' 2 (2 * p) in
    ap (λ k. 2 ^ k) e ∙ omega arith

-- as many squares as columns and rows make
pub square-count : (p : ℕ) → 2 ^ (2 * p) ≡ 2 ^ p * 2 ^ p
square-count p = let e : 2 * p ≡ p + p = omega arith in ap (λ k. 2 ^ k) e ∙ pow-add 2 p p

pub third : (p : ℕ) → 2 ^ (2 * p) ≡ 3 * (2 ^ (2 * p) / 3) + 1
third zero = omega arith
third (suc p) = let e = four-next p in let h = third p in omega arith

-- the squares of one resolution come after the coarser ones
pub third-next : (p : ℕ) → 2 ^ (2 * suc p) / 3 ≡ 2 ^ (2 * p) / 3 + 2 ^ (2 * p)
third-next p = let e = four-next p in let h = third p in let g = third (suc p) in omega arith

pub third-mono : (p r : ℕ) → p ≤ r → 2 ^ (2 * p) / 3 ≤ 2 ^ (2 * r) / 3
third-mono p r le =
    let twice : 2 * p ≤ 2 * r = omega arith in
    let mono : 2 ^ (2 * p) ≤ 2 ^ (2 * r) = pow_mono twice in
    let e = third p in let f = third r in omega arith

-- the number of a square in its resolution

pub number-less : (p : ℕ) (t : Point) → IsTile (2 ^ p) (2 ^ p) t → 2 ^ p * t.y + t.x < 2 ^ (2 * p)
number-less p t tile =
    let e = square-count p in
    let f : 2 ^ p * t.y ≡ t.y * 2 ^ p = omega arith in
    let less = mul-add-lt t.y (2 ^ p) t.x (2 ^ p) tile.row tile.column in
    omega arith

-- and back
pub numbered-is : (p : ℕ) (t : Point) → IsTile (2 ^ p) (2 ^ p) t → numbered p (2 ^ p * t.y + t.x) ≡ t
numbered-is p t tile =
    let f : 2 ^ p * t.y ≡ t.y * 2 ^ p = omega arith in
    let column : (t.y * 2 ^ p + t.x) % 2 ^ p ≡ t.x = mod-mul-add t.y (2 ^ p) t.x tile.column in
    let row : (t.y * 2 ^ p + t.x) / 2 ^ p ≡ t.y = div-mul-add t.y (2 ^ p) t.x tile.column in
    ap (λ k. numbered p (k + t.x)) f
    ∙ same_point ((t.y * 2 ^ p + t.x) % 2 ^ p) ((t.y * 2 ^ p + t.x) / 2 ^ p) t.x t.y column row

-- places

pub place-is : (p : ℕ) (t : Point) → place p t ≡ 2 ^ (2 * p) / 3 + 2 ^ p * t.y + t.x
unfolding place
place-is p t = refl

pub place-less : (p r : ℕ) (t : Point) → IsTile (2 ^ p) (2 ^ p) t → p < r → place p t < 2 ^ (2 * r) / 3
place-less p r t tile less =
    let is = place-is p t in
    let number = number-less p t tile in
    let next = third-next p in
    let mono = third-mono (suc p) r less in
    omega arith

-- two squares of one resolution with one place
same-square : (p : ℕ) (t u : Point) → IsTile (2 ^ p) (2 ^ p) t → IsTile (2 ^ p) (2 ^ p) u → place p t ≡ place p u →
    t ≡ u
same-square p t u tile tile' same =
    let is = place-is p t in
    let is' = place-is p u in
    let e : 2 ^ p * t.y + t.x ≡ 2 ^ p * u.y + u.x = omega arith in
    sym (numbered-is p t tile) ∙ ap (numbered p) e ∙ numbered-is p u tile'

-- no two squares have one place
pub place-apart : (p r : ℕ) (t u : Point) → IsTile (2 ^ p) (2 ^ p) t → IsTile (2 ^ r) (2 ^ r) u →
    place p t ≡ place r u → (p ≡ r) × (t ≡ u)
place-apart p r t u tile tile' same = ⊎_elim
    (λ (less : p < r).
    let a = place-less p r t tile less in
    let is = place-is r u in
    absurd (omega arith))
    (λ (more : r ≤ p). ⊎_elim
    (λ (less : r < p).
    let a = place-less r p u tile' less in
    let is = place-is p t in
    absurd (omega arith))
    (λ (most : p ≤ r).
    let e : r ≡ p = omega arith in
    let tile'' : IsTile (2 ^ p) (2 ^ p) u = subst (λ k. IsTile (2 ^ k) (2 ^ k) u) e tile' in
    (sym e, same-square p t u tile tile'' (same ∙ ap (λ k. place k u) e)))
    (cases_lt r p))
    (cases_lt p r)

-- the first place is that of the one square of the coarsest resolution
pub place-first : (p : ℕ) (t : Point) → IsTile (2 ^ p) (2 ^ p) t → place p t ≡ 0 →
    (p ≡ 0) × (t ≡ record { x = 0; y = 0 })
place-first p t tile first =
    let origin : Point = record { x = 0; y = 0 } in
    let is = place-is 0 origin in
    place-apart p 0 t origin tile record { column = omega arith; row = omega arith } (omega arith)
