-- In a mesh the edges pass a point of the rectangle upwards once more than downwards.
use Rattle.std.proofs.Common.{◌-◌, ◌&&◌, nat_eq, nat_le, nat_lt, cond, ◌≡◌, ◌≢◌, ℕ, zero, suc, ◌+◌, ◌*◌, ◌<◌, ◌≤◌, ◌∙◌, refl, sym, ap, ap₂, arith, ⊎_elim, mul-le-mul_left}
use Rattle.std.proofs.lemmas.Bool.{cases_lt}
use Rattle.std.proofs.lemmas.Bool.Decides.{nat_tests}
use Rattle.mesh_defs.specs.declared.point.Point.{Point}
use Rattle.mesh_cover.specs.Cover.{passes}
use Rattle.mesh_cover.specs.Sums.{sum_below}
use Rattle.mesh_cover.specs.Mesh.{next_corner, IsOnSide, IsSeam, rise_at, IsPartnered}
use Rattle.mesh_cover.proofs.PassLemmas.{passes-below, passes-above, passes-right, passes-left}
use Rattle.mesh_cover.proofs.SumLemmas.{sum-same, sum-added, sum-paired, IsPairing}

-- how often edge h passes o upwards, and downwards
abbrev pub up_at : (ℕ → Point) → Point → ℕ → ℕ
up_at corner o h = passes (corner h) (corner (next_corner h)) o

abbrev pub down_at : (ℕ → Point) → Point → ℕ → ℕ
down_at corner o h = passes (corner (next_corner h)) (corner h) o

-- ---- three edges make a triangle

pub next-first : (t : ℕ) → next_corner (t * 3) ≡ t * 3 + 1
next-first t = omega arith

pub next-second : (t : ℕ) → next_corner (t * 3 + 1) ≡ t * 3 + 2
next-second t = omega arith

pub next-third : (t : ℕ) → next_corner (t * 3 + 2) ≡ t * 3
next-third t = omega arith

pub sum-threes : (count : ℕ) (f : ℕ → ℕ) →
    sum_below (count * 3) f ≡ sum_below count (λ t. f (t * 3) + f (t * 3 + 1) + f (t * 3 + 2))
sum-threes zero f = refl
sum-threes (suc count) f =
    let before = sum-threes count f in
    let more : suc count * 3 ≡ suc (suc (suc (count * 3))) = omega arith in
    let whole : sum_below (suc count * 3) f ≡ sum_below (suc (suc (suc (count * 3)))) f = ap (λ n. sum_below n f) more in
    let second : f (suc (count * 3)) ≡ f (count * 3 + 1) = ap f (omega arith) in
    let third : f (suc (suc (count * 3))) ≡ f (count * 3 + 2) = ap f (omega arith) in
    omega arith

-- ---- an edge on the border passes o upwards where it rises through its row, and never downwards

scaled : (more less d y : ℕ) → more ≡ less + d → more * y ≡ less * y + d * y
scaled more less d y e = let f : more * y ≡ (less + d) * y = ap (λ k. k * y) e in omega arith

flat-passes : (p q o : Point) → p.y ≡ q.y → passes p q o ≡ 0
flat-passes p q o e = ⊎_elim
    (λ (under : o.y < p.y). passes-below p q o under)
    (λ (le : p.y ≤ o.y). passes-above p q o (omega arith))
    (cases_lt o.y p.y)

-- an edge on the left side passes no point
left-passes : (p q o : Point) → p.x ≡ 0 → q.x ≡ 0 → passes p q o ≡ 0
left-passes p q o px qx = ⊎_elim
    (λ (less : o.y < q.y). ⊎_elim
    (λ (under : o.y < p.y). passes-below p q o under)
    (λ (le : p.y ≤ o.y).
    let most : o.x * p.y ≤ o.x * q.y = mul-le-mul_left o.x (omega arith) in
    let first : p.x * q.y ≡ 0 * q.y = ap (λ k. k * q.y) px in
    let second : q.x * o.y ≡ 0 * o.y = ap (λ k. k * o.y) qx in
    let third : q.x * p.y ≡ 0 * p.y = ap (λ k. k * p.y) qx in
    let fourth : p.x * o.y ≡ 0 * o.y = ap (λ k. k * o.y) px in
    passes-right p q o (omega arith))
    (cases_lt o.y p.y))
    (λ (le : q.y ≤ o.y). passes-above p q o le)
    (cases_lt o.y q.y)

-- one on the right side that goes up passes the points of its rows
right-passes : (right : ℕ) (p q o : Point) → p.x ≡ right → q.x ≡ right → o.x < right → p.y ≤ o.y → o.y < q.y → passes p q o ≡ 1
right-passes right p q o px qx within low high =
    let d : ℕ = q.y - p.y in
    let de : q.y ≡ p.y + d = omega arith in
    let dm : q.y * right ≡ p.y * right + d * right = scaled q.y p.y d right de in
    let dx : q.y * o.x ≡ p.y * o.x + d * o.x = scaled q.y p.y d o.x de in
    let more : d * (o.x + 1) ≤ d * right = mul-le-mul_left d (omega arith) in
    let first : p.x * q.y ≡ right * q.y = ap (λ k. k * q.y) px in
    let second : q.x * o.y ≡ right * o.y = ap (λ k. k * o.y) qx in
    let third : q.x * p.y ≡ right * p.y = ap (λ k. k * p.y) qx in
    let fourth : p.x * o.y ≡ right * o.y = ap (λ k. k * o.y) px in
    let some : 1 ≤ d = omega arith in
    passes-left p q o low high (omega arith)

border-down : (right top : ℕ) (p q o : Point) → IsOnSide right top p q → passes q p o ≡ 0
border-down right top p q o on = ⊎_elim
    (λ (e : (p.y ≡ 0) × (q.y ≡ 0)). flat-passes q p o (omega (arith, e.0, e.1)))
    (⊎_elim
    (λ (e : (p.y ≡ top) × (q.y ≡ top)). flat-passes q p o (omega (arith, e.0, e.1)))
    (⊎_elim
    (λ (e : (p.x ≡ 0) × (q.x ≡ 0)). left-passes q p o e.1 e.0)
    (λ (e : (p.x ≡ right) × (q.x ≡ right) × (p.y < q.y)). ⊎_elim
    (λ (under : o.y < q.y). passes-below q p o under)
    (λ (le : q.y ≤ o.y). passes-above q p o (omega (arith, e.2)))
    (cases_lt o.y q.y))))
    on

-- ---- the rows of an edge on the right side

abbrev pub rise_of : ℕ → ℕ → ℕ → ℕ → ℕ → ℕ → ℕ → ℕ → ℕ
rise_of i j px qx py qy right y =
    cond (nat_eq i j && (nat_eq px right && (nat_eq qx right && (nat_le py y && nat_lt y qy)))) 1 0

pub rise-flat : (i j px qx py qy right y : ℕ) → py ≡ qy → rise_of i j px qx py qy right y ≡ 0
rise-flat i j px qx py qy right y e = grind (arith, nat_tests)

pub rise-elsewhere : (i j px qx py qy right y : ℕ) → px ≢ right → rise_of i j px qx py qy right y ≡ 0
rise-elsewhere i j px qx py qy right y e = grind (arith, nat_tests)

pub rise-away : (i j px qx py qy right y : ℕ) → qx ≢ right → rise_of i j px qx py qy right y ≡ 0
rise-away i j px qx py qy right y e = grind (arith, nat_tests)

pub rise-inner : (i j px qx py qy right y : ℕ) → i ≢ j → rise_of i j px qx py qy right y ≡ 0
rise-inner i j px qx py qy right y e = grind (arith, nat_tests)

pub rise-below : (i j px qx py qy right y : ℕ) → y < py → rise_of i j px qx py qy right y ≡ 0
rise-below i j px qx py qy right y e = grind (arith, nat_tests)

pub rise-above : (i j px qx py qy right y : ℕ) → qy ≤ y → rise_of i j px qx py qy right y ≡ 0
rise-above i j px qx py qy right y e = grind (arith, nat_tests)

pub rise-there : (i j px qx py qy right y : ℕ) → i ≡ j → px ≡ right → qx ≡ right → py ≤ y → y < qy → rise_of i j px qx py qy right y ≡ 1
rise-there i j px qx py qy right y self pm qm low high = grind (arith, nat_tests)

border-up : (right top i j : ℕ) (p q o : Point) → IsOnSide right top p q → i ≡ j → o.x < right →
    passes p q o ≡ rise_of i j p.x q.x p.y q.y right o.y
border-up right top i j p q o on self within = ⊎_elim
    (λ (e : (p.y ≡ 0) × (q.y ≡ 0)).
    let flat : p.y ≡ q.y = omega (arith, e.0, e.1) in
    flat-passes p q o flat ∙ sym (rise-flat i j p.x q.x p.y q.y right o.y flat))
    (⊎_elim
    (λ (e : (p.y ≡ top) × (q.y ≡ top)).
    let flat : p.y ≡ q.y = omega (arith, e.0, e.1) in
    flat-passes p q o flat ∙ sym (rise-flat i j p.x q.x p.y q.y right o.y flat))
    (⊎_elim
    (λ (e : (p.x ≡ 0) × (q.x ≡ 0)).
    left-passes p q o e.0 e.1 ∙ sym (rise-elsewhere i j p.x q.x p.y q.y right o.y (omega (arith, e.0))))
    (λ (e : (p.x ≡ right) × (q.x ≡ right) × (p.y < q.y)). ⊎_elim
    (λ (under : o.y < p.y). passes-below p q o under ∙ sym (rise-below i j p.x q.x p.y q.y right o.y under))
    (λ (le : p.y ≤ o.y). ⊎_elim
    (λ (less : o.y < q.y).
    right-passes right p q o e.0 e.1 within le less
    ∙ sym (rise-there i j p.x q.x p.y q.y right o.y self e.0 e.1 le less))
    (λ (over : q.y ≤ o.y). passes-above p q o over ∙ sym (rise-above i j p.x q.x p.y q.y right o.y over))
    (cases_lt o.y q.y))
    (cases_lt o.y p.y))))
    on

-- ---- an edge and its partner

seam-passes : (right top : ℕ) (corner : ℕ → Point) (across : ℕ → ℕ) (o : Point) (h : ℕ) → IsSeam right top corner across h → o.x < right →
    up_at corner o h ≡ down_at corner o (across h) + rise_at right corner across o.y h
seam-passes right top corner across o h seam within =
    let p : Point = corner h in
    let q : Point = corner (next_corner h) in
    ⊎_elim
    (λ (s : (across h ≡ h) × IsOnSide right top (corner h) (corner (next_corner h))).
    let partner : down_at corner o (across h) ≡ down_at corner o h = ap (down_at corner o) s.0 in
    let none : down_at corner o h ≡ 0 = border-down right top p q o s.1 in
    let up : up_at corner o h ≡ rise_at right corner across o.y h = border-up right top (across h) h p q o s.1 s.0 within in
    omega arith)
    (λ (s : (across h ≢ h) × (corner h ≡ corner (next_corner (across h))) × (corner (next_corner h) ≡ corner (across h))).
    let same : up_at corner o h ≡ down_at corner o (across h) = ap₂ (λ i j. passes i j o) s.1 s.2 in
    let none : rise_at right corner across o.y h ≡ 0 =
    rise-inner (across h) h p.x q.x p.y q.y right o.y s.0 in
    omega arith)
    seam

-- ---- the whole mesh

pub once-more : (right top count : ℕ) (corner : ℕ → Point) (across : ℕ → ℕ) (o : Point) → IsPartnered right top count corner across →
    o.x < right → o.y < top →
    sum_below (count * 3) (up_at corner o) ≡ sum_below (count * 3) (down_at corner o) + 1
once-more right top count corner across o mesh within under =
    let n : ℕ = count * 3 in
    let pair : IsPairing n across = record { below = mesh.below; back = mesh.back } in
    let each : sum_below n (up_at corner o) ≡ sum_below n (λ h. down_at corner o (across h) + rise_at right corner across o.y h) =
    sum-same n (up_at corner o) (λ h. down_at corner o (across h) + rise_at right corner across o.y h)
    (λ h less. seam-passes right top corner across o h (mesh.seams h less) within) in
    let added = sum-added n (λ h. down_at corner o (across h)) (rise_at right corner across o.y) in
    let paired : sum_below n (λ h. down_at corner o (across h)) ≡ sum_below n (down_at corner o) =
    sum-paired n across (down_at corner o) pair in
    let rises : sum_below n (rise_at right corner across o.y) ≡ 1 = mesh.sides o.y under in
    omega arith
