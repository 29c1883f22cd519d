-- The greatest deviation, triangle by triangle.
use Rattle.std.proofs.Common.{◌≡◌, ℕ, ◌+◌, ◌*◌, ◌/◌, ◌<◌, ◌≤◌, ◌⊎◌, ◌↔◌, List, length, sym, ap, subst, arith, inl, inr, ⊎_elim, mul-le-mul_left, below_more}
use Rattle.std.proofs.lemmas.Bool.{cases_lt}
use Rattle.mesh_defs.specs.declared.point.Point.{Point}
use Rattle.mesh_cover.specs.Cover.{IsCounterclockwise}
use Rattle.mesh_within.specs.declared.shape.Facet.{Facet}
use Rattle.mesh_within.specs.declared.shape.Spot.{Spot}
use Rattle.mesh_within.specs.declared.deviation.Deviation.{Deviation}
use Rattle.mesh_within.specs.Gap.{area_across, facet_in, gap_of, Holds, IsSpot}
use Rattle.mesh_within.specs.Deviation.{area_in, gap_in, IsPointOf, IsAttained, IsDeviationBefore, IsDeviation, IsWithinError}

pub area-some : (a b c : Point) → IsCounterclockwise a b c → 0 < area_across a b c
unfolding area_across
area-some a b c left = omega arith

-- ---- fractions

le-of-product : (k i j : ℕ) → 0 < k → k * i ≤ k * j → i ≤ j
le-of-product k i j some le = ⊎_elim
    (λ (less : j < i). let h : k * (j + 1) ≤ k * i = mul-le-mul_left k (omega arith) in absurd (omega arith))
    (λ (fine : i ≤ j). fine)
    (cases_lt j i)

-- i over s is at most j over d, which is at most k over n: so i over s is at most k over n
fraction-le : (i s j d k n : ℕ) → 0 < d → i * d ≤ j * s → j * n ≤ k * d → i * n ≤ k * s
fraction-le i s j d k n some first second =
    let a : n * (i * d) ≤ n * (j * s) = mul-le-mul_left n first in
    let b : s * (j * n) ≤ s * (k * d) = mul-le-mul_left s second in
    le-of-product d (i * n) (k * s) some (omega arith)

-- a smaller gap over the same area
gap-le : (i most area j d : ℕ) → i ≤ most → most * d ≤ j * area → i * d ≤ j * area
gap-le i most area j d le bound = let h : d * i ≤ d * most = mul-le-mul_left d le in omega arith

same-le : (i most area : ℕ) → i ≤ most → i * area ≤ most * area
same-le i most area le = let h : area * i ≤ area * most = mul-le-mul_left area le in omega arith

-- ---- one triangle more

abbrev pub Bound : ℕ → ℕ → List ℕ → List Point → List ℕ → List ℕ → ℕ → Deviation → Type 0
Bound right top surface points heights corners t d = (o : Point) → IsPointOf right points corners t o →
    gap_in right top surface points heights corners t o * d.area ≤ d.gap * area_in points corners t

-- all gaps of triangle t are at most so great
abbrev pub Gaps : ℕ → ℕ → List ℕ → List Point → List ℕ → List ℕ → ℕ → ℕ → Type 0
Gaps right top surface points heights corners t most = (o : Point) → IsPointOf right points corners t o →
    gap_in right top surface points heights corners t o ≤ most

worst-kept : (right top : ℕ) (surface : List ℕ) (points : List Point) (heights corners : List ℕ) (t most : ℕ) (d : Deviation) →
    IsDeviationBefore right top surface points heights corners t d → Gaps right top surface points heights corners t most →
    most * d.area ≤ d.gap * area_in points corners t → IsDeviationBefore right top surface points heights corners (t + 1) d
worst-kept right top surface points heights corners t most d before gaps le = record {
  some = before.some;
  bound = below_more (λ (k : ℕ). Bound right top surface points heights corners k d) t before.bound
      (λ o has. gap-le (gap_in right top surface points heights corners t o) most (area_in points corners t) d.gap d.area (gaps o has) le);
  attained = before.attained;
}

worst-raised : (right top : ℕ) (surface : List ℕ) (points : List Point) (heights corners : List ℕ) (t : ℕ) (d e : Deviation) →
    IsDeviationBefore right top surface points heights corners t d → Gaps right top surface points heights corners t e.gap →
    e.area ≡ area_in points corners t → 0 < e.area → d.gap * e.area ≤ e.gap * d.area →
    (e.gap ≡ 0) ⊎ IsAttained right top surface points heights corners e →
    IsDeviationBefore right top surface points heights corners (t + 1) e
worst-raised right top surface points heights corners t d e before gaps area some more attained = record {
  some = some;
  bound = below_more (λ (k : ℕ). Bound right top surface points heights corners k e) t
      (λ k less o has. fraction-le (gap_in right top surface points heights corners k o) (area_in points corners k) d.gap d.area e.gap e.area
      before.some (before.bound k less o has) more)
      (λ o has.
      let h = same-le (gap_in right top surface points heights corners t o) e.gap e.area (gaps o has) in
      let same : e.gap * e.area ≡ e.gap * area_in points corners t = ap (λ i. e.gap * i) area in
      omega arith);
  attained = attained;
}

-- what is known of the triangle as a record, of the lists
facet-gaps : (right top : ℕ) (surface : List ℕ) (points : List Point) (heights corners : List ℕ) (t most : ℕ) (f : Facet) →
    f ≡ facet_in points heights corners t → ((o : Point) → Holds right f o → gap_of right top surface f o ≤ most) →
    Gaps right top surface points heights corners t most
facet-gaps right top surface points heights corners t most f same bound =
    let moved : ((o : Point) → Holds right (facet_in points heights corners t) o → gap_of right top surface (facet_in points heights corners t) o ≤ most) =
    subst (λ (g : Facet). (o : Point) → Holds right g o → gap_of right top surface g o ≤ most) same bound in
    λ o has. moved o (record { column = has.column; held = has.held })

facet-attained : (right top : ℕ) (surface : List ℕ) (points : List Point) (heights corners : List ℕ) (t : ℕ) (f : Facet) (s : Spot) →
    t < length corners / 3 → f ≡ facet_in points heights corners t → IsSpot right top surface f s →
    IsAttained right top surface points heights corners
    (record { triangle = t; column = s.column; row = s.row; gap = s.gap; area = f.area })
facet-attained right top surface points heights corners t f s below same spot =
    let moved : IsSpot right top surface (facet_in points heights corners t) s =
    subst (λ (g : Facet). IsSpot right top surface g s) same spot in
    record {
      triangle = below;
      point = record { column = moved.held.column; held = moved.held.held };
      gap = moved.gap;
      area = ap (λ (g : Facet). g.area) same;
    }

pub worst-more : (right top : ℕ) (surface : List ℕ) (points : List Point) (heights corners : List ℕ) (t : ℕ) (d e : Deviation) (f : Facet)
    (s : Spot) → t < length corners / 3 → IsDeviationBefore right top surface points heights corners t d →
    f ≡ facet_in points heights corners t → 0 < f.area →
    ((o : Point) → Holds right f o → gap_of right top surface f o ≤ s.gap) → (s.gap ≡ 0) ⊎ IsSpot right top surface f s →
    ((e ≡ d) × (s.gap * d.area ≤ d.gap * f.area))
    ⊎ ((e ≡ record { triangle = t; column = s.column; row = s.row; gap = s.gap; area = f.area }) × (d.gap * f.area < s.gap * d.area)) →
    IsDeviationBefore right top surface points heights corners (t + 1) e
worst-more right top surface points heights corners t d e f s below before same some bound attained either =
    let area : f.area ≡ area_in points corners t = ap (λ (g : Facet). g.area) same in
    let gaps = facet-gaps right top surface points heights corners t s.gap f same bound in
    let here : Deviation = record { triangle = t; column = s.column; row = s.row; gap = s.gap; area = f.area } in
    ⊎_elim
    (λ (kept : (e ≡ d) × (s.gap * d.area ≤ d.gap * f.area)).
    let le : s.gap * d.area ≤ d.gap * area_in points corners t =
    (let h : d.gap * f.area ≡ d.gap * area_in points corners t = ap (λ i. d.gap * i) area in omega (arith, kept.1)) in
    subst (λ (w : Deviation). IsDeviationBefore right top surface points heights corners (t + 1) w) (sym kept.0)
    (worst-kept right top surface points heights corners t s.gap d before gaps le))
    (λ (raised : (e ≡ record { triangle = t; column = s.column; row = s.row; gap = s.gap; area = f.area }) × (d.gap * f.area < s.gap * d.area)).
    subst (λ (w : Deviation). IsDeviationBefore right top surface points heights corners (t + 1) w) (sym raised.0)
    (worst-raised right top surface points heights corners t d here before gaps area some (omega (arith, raised.1))
    (⊎_elim
    (λ (none : s.gap ≡ 0). inl none)
    (λ (spot : IsSpot right top surface f s). inr (facet-attained right top surface points heights corners t f s below same spot))
    attained)))
    either

-- the greatest deviation is within an error where all are
pub within-law : (right top : ℕ) (surface : List ℕ) (points : List Point) (heights corners : List ℕ) (d : Deviation) (error : ℕ) →
    IsDeviation right top surface points heights corners d →
    (1000 * d.gap ≤ error * d.area) ↔ IsWithinError right top surface points heights corners error
within-law right top surface points heights corners d error dev = (
  λ le t less o has.
      let bound = dev.bound t less o has in
      let h = fraction-le (1000 * gap_in right top surface points heights corners t o) (area_in points corners t) (1000 * d.gap) d.area
      error 1 dev.some (omega arith) (omega arith) in
      omega arith,
  λ within. ⊎_elim
      (λ (none : d.gap ≡ 0). omega arith)
      (λ (there : IsAttained right top surface points heights corners d).
      let h = within d.triangle there.triangle (record { x = d.column; y = d.row }) there.point in
      let gap = there.gap in
      let area : error * d.area ≡ error * area_in points corners d.triangle = ap (λ i. error * i) there.area in
      omega arith)
      dev.attained,
)
