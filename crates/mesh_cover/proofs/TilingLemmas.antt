-- A mesh that passes the tests tiles the rectangle.
use Rattle.std.proofs.Common.{◌≡◌, ℕ, zero, suc, ◌+◌, ◌*◌, ◌<◌, ◌≤◌, ◌⊎◌, refl, ap, arith, inl, inr, ⊎_elim}
use Rattle.std.proofs.lemmas.Bool.{cases_lt}
use Rattle.mesh_defs.specs.declared.point.Point.{Point}
use Rattle.mesh_cover.specs.Cover.{passes, ups_at, downs_at, IsHeld}
use Rattle.mesh_cover.specs.Sums.{sum_below}
use Rattle.mesh_cover.specs.Mesh.{IsPartnered, IsInside}
use Rattle.mesh_cover.proofs.PassLemmas.{once-at-most}
use Rattle.mesh_cover.proofs.InsideLemmas.{inside-once}
use Rattle.mesh_cover.proofs.SumLemmas.{sum-same}
use Rattle.mesh_cover.proofs.MeshLemmas.{up_at, down_at, next-first, next-second, next-third, sum-threes, once-more}

-- ---- one of the triangles has one more

abbrev IsMoreOnce : (ℕ → ℕ) → (ℕ → ℕ) → (ℕ → Type 0) → ℕ → Type 0
IsMoreOnce u d P t = (u t ≡ d t) ⊎ ((u t ≡ d t + 1) × P t)

some-one : (n : ℕ) (u d : ℕ → ℕ) (P : ℕ → Type 0) → ((t : ℕ) → t < n → IsMoreOnce u d P t) →
    (sum_below n u ≡ sum_below n d) ⊎ ((t : ℕ) × (t < n) × P t)
some-one zero u d P each = inl refl
some-one (suc n) u d P each = ⊎_elim
    (λ (same : sum_below n u ≡ sum_below n d). ⊎_elim
    (λ (last : u n ≡ d n). inl (omega arith))
    (λ (last : (u n ≡ d n + 1) × P n). inr (n, omega arith, last.1))
    (each n (omega arith)))
    (λ (there : (t : ℕ) × (t < n) × P t). inr (there.0, omega (arith, there.1), there.2))
    (some-one n u d P (λ t h. each t (omega arith)))

-- none has fewer; two have one more
more-none : (n : ℕ) (u d : ℕ → ℕ) → ((t : ℕ) → t < n → d t ≤ u t) → sum_below n d ≤ sum_below n u
more-none zero u d each = omega arith
more-none (suc n) u d each =
    let before = more-none n u d (λ t h. each t (omega arith)) in
    let last : d n ≤ u n = each n (omega arith) in
    omega arith

more-one : (n : ℕ) (u d : ℕ → ℕ) → ((t : ℕ) → t < n → d t ≤ u t) → (s : ℕ) → s < n → d s + 1 ≤ u s →
    sum_below n d + 1 ≤ sum_below n u
more-one zero u d each s less more = absurd (omega arith)
more-one (suc n) u d each s less more =
    let last : d n ≤ u n = each n (omega arith) in
    ⊎_elim
    (λ (lower : s < n).
    let before = more-one n u d (λ t h. each t (omega arith)) s lower more in
    omega arith)
    (λ (le : n ≤ s).
    let before = more-none n u d (λ t h. each t (omega arith)) in
    let e : s ≡ n = omega arith in
    let ue : u s ≡ u n = ap u e in
    let de : d s ≡ d n = ap d e in
    omega arith)
    (cases_lt s n)

more-two : (n : ℕ) (u d : ℕ → ℕ) → ((t : ℕ) → t < n → d t ≤ u t) → (s t : ℕ) → s < t → t < n →
    d s + 1 ≤ u s → d t + 1 ≤ u t → sum_below n d + 2 ≤ sum_below n u
more-two zero u d each s t order less first second = absurd (omega arith)
more-two (suc n) u d each s t order less first second =
    let last : d n ≤ u n = each n (omega arith) in
    ⊎_elim
    (λ (lower : t < n).
    let before = more-two n u d (λ t h. each t (omega arith)) s t order lower first second in
    omega arith)
    (λ (le : n ≤ t).
    let before = more-one n u d (λ t h. each t (omega arith)) s (omega arith) first in
    let e : t ≡ n = omega arith in
    let ue : u t ≡ u n = ap u e in
    let de : d t ≡ d n = ap d e in
    omega arith)
    (cases_lt t n)

only-one : (n : ℕ) (u d : ℕ → ℕ) → ((t : ℕ) → t < n → d t ≤ u t) → sum_below n u ≡ sum_below n d + 1 →
    (s t : ℕ) → s < n → t < n → d s + 1 ≤ u s → d t + 1 ≤ u t → s ≡ t
only-one n u d each sum s t hs ht first second = ⊎_elim
    (λ (less : s < t). absurd (let two = more-two n u d each s t less ht first second in omega arith))
    (λ (le : t ≤ s). ⊎_elim
    (λ (more : t < s). absurd (let two = more-two n u d each t s more hs second first in omega arith))
    (λ (ge : s ≤ t). omega arith)
    (cases_lt t s))
    (cases_lt s t)

-- ---- the edges of triangle t are its three

abbrev ups_of : (ℕ → Point) → Point → ℕ → ℕ
ups_of corner o t = ups_at (corner (t * 3)) (corner (t * 3 + 1)) (corner (t * 3 + 2)) o

abbrev downs_of : (ℕ → Point) → Point → ℕ → ℕ
downs_of corner o t = downs_at (corner (t * 3)) (corner (t * 3 + 1)) (corner (t * 3 + 2)) o

ups-threes : (corner : ℕ → Point) (o : Point) (t : ℕ) →
    up_at corner o (t * 3) + up_at corner o (t * 3 + 1) + up_at corner o (t * 3 + 2) ≡ ups_of corner o t
ups-threes corner o t =
    let first : up_at corner o (t * 3) ≡ passes (corner (t * 3)) (corner (t * 3 + 1)) o = ap (λ k. passes (corner (t * 3)) (corner k) o) (next-first t) in
    let second : up_at corner o (t * 3 + 1) ≡ passes (corner (t * 3 + 1)) (corner (t * 3 + 2)) o = ap (λ k. passes (corner (t * 3 + 1)) (corner k) o) (next-second t) in
    let third : up_at corner o (t * 3 + 2) ≡ passes (corner (t * 3 + 2)) (corner (t * 3)) o = ap (λ k. passes (corner (t * 3 + 2)) (corner k) o) (next-third t) in
    omega arith

downs-threes : (corner : ℕ → Point) (o : Point) (t : ℕ) →
    down_at corner o (t * 3) + down_at corner o (t * 3 + 1) + down_at corner o (t * 3 + 2) ≡ downs_of corner o t
downs-threes corner o t =
    let first : down_at corner o (t * 3) ≡ passes (corner (t * 3 + 1)) (corner (t * 3)) o = ap (λ k. passes (corner k) (corner (t * 3)) o) (next-first t) in
    let second : down_at corner o (t * 3 + 1) ≡ passes (corner (t * 3 + 2)) (corner (t * 3 + 1)) o = ap (λ k. passes (corner k) (corner (t * 3 + 1)) o) (next-second t) in
    let third : down_at corner o (t * 3 + 2) ≡ passes (corner (t * 3)) (corner (t * 3 + 2)) o = ap (λ k. passes (corner k) (corner (t * 3 + 2)) o) (next-third t) in
    omega arith

sum-ups : (right top count : ℕ) (corner : ℕ → Point) (across : ℕ → ℕ) (o : Point) → IsPartnered right top count corner across → o.x < right → o.y < top →
    sum_below count (ups_of corner o) ≡ sum_below count (downs_of corner o) + 1
sum-ups right top count corner across o mesh within under =
    let all = once-more right top count corner across o mesh within under in
    let ups = sum-threes count (up_at corner o) in
    let downs = sum-threes count (down_at corner o) in
    let ue : sum_below count (λ t. up_at corner o (t * 3) + up_at corner o (t * 3 + 1) + up_at corner o (t * 3 + 2)) ≡ sum_below count (ups_of corner o) =
    sum-same count (λ t. up_at corner o (t * 3) + up_at corner o (t * 3 + 1) + up_at corner o (t * 3 + 2)) (ups_of corner o) (λ t h. ups-threes corner o t) in
    let de : sum_below count (λ t. down_at corner o (t * 3) + down_at corner o (t * 3 + 1) + down_at corner o (t * 3 + 2)) ≡ sum_below count (downs_of corner o) =
    sum-same count (λ t. down_at corner o (t * 3) + down_at corner o (t * 3 + 1) + down_at corner o (t * 3 + 2)) (downs_of corner o) (λ t h. downs-threes corner o t) in
    omega arith

-- ---- each point lies in a triangle, and strictly inside one at most

abbrev HeldBy : (ℕ → Point) → Point → ℕ → Type 0
HeldBy corner o t = IsHeld (corner (t * 3)) (corner (t * 3 + 1)) (corner (t * 3 + 2)) o

abbrev InsideOf : (ℕ → Point) → Point → ℕ → Type 0
InsideOf corner o t = IsInside (corner (t * 3)) (corner (t * 3 + 1)) (corner (t * 3 + 2)) o

each-once : (right top count : ℕ) (corner : ℕ → Point) (across : ℕ → ℕ) (o : Point) → IsPartnered right top count corner across →
    (t : ℕ) → t < count → IsMoreOnce (ups_of corner o) (downs_of corner o) (HeldBy corner o) t
each-once right top count corner across o mesh t less =
    once-at-most (corner (t * 3)) (corner (t * 3 + 1)) (corner (t * 3 + 2)) o (mesh.turns t less)

pub covered : (right top count : ℕ) (corner : ℕ → Point) (across : ℕ → ℕ) (o : Point) → IsPartnered right top count corner across → o.x < right → o.y < top →
    (t : ℕ) × (t < count) × HeldBy corner o t
covered right top count corner across o mesh within under = ⊎_elim
    (λ (same : sum_below count (ups_of corner o) ≡ sum_below count (downs_of corner o)).
    absurd (let sum = sum-ups right top count corner across o mesh within under in omega arith))
    (λ there. there)
    (some-one count (ups_of corner o) (downs_of corner o) (HeldBy corner o) (each-once right top count corner across o mesh))

pub apart : (right top count : ℕ) (corner : ℕ → Point) (across : ℕ → ℕ) (o : Point) → IsPartnered right top count corner across → o.x < right → o.y < top →
    (s t : ℕ) → s < count → t < count → InsideOf corner o s → InsideOf corner o t → s ≡ t
apart right top count corner across o mesh within under s t hs ht first second =
    let sum = sum-ups right top count corner across o mesh within under in
    let fs = inside-once (corner (s * 3)) (corner (s * 3 + 1)) (corner (s * 3 + 2)) o (mesh.turns s hs) first in
    let ft = inside-once (corner (t * 3)) (corner (t * 3 + 1)) (corner (t * 3 + 2)) o (mesh.turns t ht) second in
    only-one count (ups_of corner o) (downs_of corner o)
    (λ k h. ⊎_elim (λ e. omega arith) (λ (e : (ups_of corner o k ≡ downs_of corner o k + 1) × HeldBy corner o k). omega (arith, e.0)) (each-once right top count corner across o mesh k h))
    sum s t hs ht (omega arith) (omega arith)
