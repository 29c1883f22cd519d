-- A mesh k times as large is a mesh.
use Rattle.std.proofs.Common.{◌≡◌, ◌≢◌, ℕ, ◌+◌, ◌*◌, ◌/◌, ◌%◌, ◌<◌, ◌≤◌, ◌∙◌, sym, ap, arith, inl, inr, ⊎_elim, mul-le-mul_left}
use Rattle.std.proofs.Math.Nat.{mod-lt}
use Rattle.std.proofs.lemmas.Bool.{cases_lt, cases_eq}
use Rattle.std.proofs.lemmas.Nat.{div-add-mod'}
use Rattle.mesh_defs.specs.declared.point.Point.{Point}
use Rattle.mesh_cover.specs.Cover.{high_across, low_across, IsCounterclockwise}
use Rattle.mesh_cover.specs.Mesh.{next_corner, times, IsOnSide, IsSeam, rise_at, IsWithin, IsPartnered}
use Rattle.mesh_cover.proofs.SumLemmas.{sum-same}
use Rattle.mesh_cover.proofs.MeshLemmas.{rise_of, rise-elsewhere, rise-away, rise-inner, rise-below, rise-above, rise-there}

-- ---- products by k

pub keeps-less : (k i j : ℕ) → 0 < k → i < j → k * i < k * j
keeps-less k i j some less =
    let more : k * (i + 1) ≤ k * j = mul-le-mul_left k (omega arith) in
    omega arith

keeps-other : (k i j : ℕ) → 0 < k → i ≢ j → k * i ≢ k * j
keeps-other k i j some ne e = ⊎_elim
    (λ (less : i < j). let h = keeps-less k i j some less in absurd (omega arith))
    (λ (le : j ≤ i). let h = keeps-less k j i some (omega arith) in absurd (omega arith))
    (cases_lt i j)

scaled-turn : (k : ℕ) (a b c : Point) → 0 < k → IsCounterclockwise a b c → IsCounterclockwise (times k a) (times k b) (times k c)
scaled-turn k a b c some left =
    let once : k * low_across a b c < k * high_across a b c = keeps-less k (low_across a b c) (high_across a b c) some left in
    let twice : k * (k * low_across a b c) < k * (k * high_across a b c) = keeps-less k (k * low_across a b c) (k * high_across a b c) some once in
    let low : low_across (times k a) (times k b) (times k c) ≡ k * (k * low_across a b c) = omega arith in
    let high : high_across (times k a) (times k b) (times k c) ≡ k * (k * high_across a b c) = omega arith in
    omega arith

scaled-border : (k right top : ℕ) (p q : Point) → 0 < k → IsOnSide right top p q → IsOnSide (k * right) (k * top) (times k p) (times k q)
scaled-border k right top p q some on =
    let nothing : k * 0 ≡ 0 = omega arith in
    ⊎_elim
    (λ (e : (p.y ≡ 0) × (q.y ≡ 0)). inl (ap (λ i. k * i) e.0 ∙ nothing, ap (λ i. k * i) e.1 ∙ nothing))
    (⊎_elim
    (λ (e : (p.y ≡ top) × (q.y ≡ top)). inr (inl (ap (λ i. k * i) e.0, ap (λ i. k * i) e.1)))
    (⊎_elim
    (λ (e : (p.x ≡ 0) × (q.x ≡ 0)). inr (inr (inl (ap (λ i. k * i) e.0 ∙ nothing, ap (λ i. k * i) e.1 ∙ nothing))))
    (λ (e : (p.x ≡ right) × (q.x ≡ right) × (p.y < q.y)).
    inr (inr (inr (ap (λ i. k * i) e.0, ap (λ i. k * i) e.1, keeps-less k p.y q.y some e.2))))))
    on

-- ---- the rows of a larger mesh

-- y lies before k times a row where its part of k does
part-less : (k y i : ℕ) → 0 < k → y / k < i → y < k * i
part-less k y i some less =
    let parts : y / k * k + y % k ≡ y = div-add-mod' y k in
    let rest : y % k < k = mod-lt y some in
    let more : k * (y / k + 1) ≤ k * i = mul-le-mul_left k (omega arith) in
    omega arith

part-le : (k y i : ℕ) → i ≤ y / k → k * i ≤ y
part-le k y i le =
    let parts : y / k * k + y % k ≡ y = div-add-mod' y k in
    let more : k * i ≤ k * (y / k) = mul-le-mul_left k le in
    omega arith

scaled-rise : (k right y i j px qx py qy : ℕ) → 0 < k →
    rise_of i j (k * px) (k * qx) (k * py) (k * qy) (k * right) y ≡ rise_of i j px qx py qy right (y / k)
scaled-rise k right y i j px qx py qy some = ⊎_elim
    (λ (self : i ≡ j). ⊎_elim
    (λ (pm : px ≡ right). ⊎_elim
    (λ (qm : qx ≡ right). ⊎_elim
    (λ (under : y / k < py).
    rise-below i j (k * px) (k * qx) (k * py) (k * qy) (k * right) y (part-less k y py some under)
    ∙ sym (rise-below i j px qx py qy right (y / k) under))
    (λ (le : py ≤ y / k). ⊎_elim
    (λ (less : y / k < qy).
    rise-there i j (k * px) (k * qx) (k * py) (k * qy) (k * right) y self (ap (λ n. k * n) pm) (ap (λ n. k * n) qm) (part-le k y py le) (part-less k y qy some less)
    ∙ sym (rise-there i j px qx py qy right (y / k) self pm qm le less))
    (λ (over : qy ≤ y / k).
    rise-above i j (k * px) (k * qx) (k * py) (k * qy) (k * right) y (part-le k y qy over)
    ∙ sym (rise-above i j px qx py qy right (y / k) over))
    (cases_lt (y / k) qy))
    (cases_lt (y / k) py))
    (λ (ne : qx ≢ right).
    rise-away i j (k * px) (k * qx) (k * py) (k * qy) (k * right) y (keeps-other k qx right some ne)
    ∙ sym (rise-away i j px qx py qy right (y / k) ne))
    (cases_eq qx right))
    (λ (ne : px ≢ right).
    rise-elsewhere i j (k * px) (k * qx) (k * py) (k * qy) (k * right) y (keeps-other k px right some ne)
    ∙ sym (rise-elsewhere i j px qx py qy right (y / k) ne))
    (cases_eq px right))
    (λ (ne : i ≢ j).
    rise-inner i j (k * px) (k * qx) (k * py) (k * qy) (k * right) y ne
    ∙ sym (rise-inner i j px qx py qy right (y / k) ne))
    (cases_eq i j)

-- ---- the mesh

scaled-within : (k right top : ℕ) (p : Point) → IsWithin right top p → IsWithin (k * right) (k * top) (times k p)
scaled-within k right top p within = record { column = mul-le-mul_left k within.column; row = mul-le-mul_left k within.row }

scaled-seam : (k right top : ℕ) (corner : ℕ → Point) (across : ℕ → ℕ) (h : ℕ) → 0 < k → IsSeam right top corner across h →
    IsSeam (k * right) (k * top) (λ i. times k (corner i)) across h
scaled-seam k right top corner across h some seam = ⊎_elim
    (λ (s : (across h ≡ h) × IsOnSide right top (corner h) (corner (next_corner h))).
    inl (s.0, scaled-border k right top (corner h) (corner (next_corner h)) some s.1))
    (λ (s : (across h ≢ h) × (corner h ≡ corner (next_corner (across h))) × (corner (next_corner h) ≡ corner (across h))).
    inr (s.0, ap (times k) s.1, ap (times k) s.2))
    seam

pub scaled-mesh : (k right top count : ℕ) (corner : ℕ → Point) (across : ℕ → ℕ) → 0 < k → IsPartnered right top count corner across →
    IsPartnered (k * right) (k * top) count (λ i. times k (corner i)) across
scaled-mesh k right top count corner across some mesh = record {
  within = λ h less. scaled-within k right top (corner h) (mesh.within h less);
  turns = λ t h. scaled-turn k (corner (t * 3)) (corner (t * 3 + 1)) (corner (t * 3 + 2)) some (mesh.turns t h);
  below = mesh.below;
  back = mesh.back;
  seams = λ h less. scaled-seam k right top corner across h some (mesh.seams h less);
  sides = λ y less.
      let within : y / k < top = ⊎_elim
      (λ (in_row : y / k < top). in_row)
      (λ (le : top ≤ y / k). let over = part-le k y top le in absurd (omega arith))
      (cases_lt (y / k) top) in
      sum-same (count * 3) (rise_at (k * right) (λ i. times k (corner i)) across y) (rise_at right corner across (y / k))
      (λ h _. scaled-rise k right y (across h) h (corner h).x (corner (next_corner h)).x (corner h).y (corner (next_corner h)).y some)
      ∙ mesh.sides (y / k) within;
}
