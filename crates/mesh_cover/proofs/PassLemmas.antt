-- When an edge passes a point upwards, and how often those of a triangle do.
use Rattle.std.proofs.Common.{◌≡◌, ◌+◌, ◌<◌, ◌≤◌, inl, inr, arith, ⊎_elim}
use Rattle.std.proofs.lemmas.Bool.{cases_lt}
use Rattle.std.proofs.lemmas.Bool.Decides.{nat_tests}
use Rattle.mesh_defs.specs.declared.point.Point.{Point}
use Rattle.mesh_cover.specs.Cover.{high_across, low_across, passes, ups_at, downs_at, IsHeld, IsCounterclockwise, IsOnceAtMost}
use Rattle.mesh_cover.proofs.WeightLemmas.{areas-sum, balance}
use Rattle.mesh_cover.proofs.SideLemmas.{above-holds, above-passes, below-holds, below-passes}

-- ---- one edge

pub passes-below : (p q o : Point) → o.y < p.y → passes p q o ≡ 0
unfolding passes
passes-below p q o h = grind (arith, nat_tests)

pub passes-above : (p q o : Point) → q.y ≤ o.y → passes p q o ≡ 0
unfolding passes
passes-above p q o h = grind (arith, nat_tests)

pub passes-right : (p q o : Point) → high_across o p q ≤ low_across o p q → passes p q o ≡ 0
unfolding passes
passes-right p q o h = grind (arith, nat_tests)

pub passes-left : (p q o : Point) → p.y ≤ o.y → o.y < q.y → low_across o p q < high_across o p q → passes p q o ≡ 1
unfolding passes
passes-left p q o low high left = grind (arith, nat_tests)

-- the sums of an edge the other way round
other-high : (p q o : Point) → high_across o q p ≡ low_across o p q
other-high p q o = omega arith

other-low : (p q o : Point) → low_across o q p ≡ high_across o p q
other-low p q o = omega arith

-- ---- a triangle

-- all corners on one side
all-below : (a b c o : Point) → a.y ≤ o.y → b.y ≤ o.y → c.y ≤ o.y → IsOnceAtMost a b c o
all-below a b c o ha hb hc =
    let ab = passes-above a b o hb in
    let bc = passes-above b c o hc in
    let ca = passes-above c a o ha in
    let ba = passes-above b a o ha in
    let cb = passes-above c b o hb in
    let ac = passes-above a c o hc in
    inl (omega arith)

all-above : (a b c o : Point) → o.y < a.y → o.y < b.y → o.y < c.y → IsOnceAtMost a b c o
all-above a b c o ha hb hc =
    let ab = passes-below a b o ha in
    let bc = passes-below b c o hb in
    let ca = passes-below c a o hc in
    let ba = passes-below b a o hb in
    let cb = passes-below c b o hc in
    let ac = passes-below a c o ha in
    inl (omega arith)

-- corner c alone above
one-above : (a b c o : Point) → IsCounterclockwise a b c → a.y ≤ o.y → b.y ≤ o.y → o.y < c.y → IsOnceAtMost a b c o
one-above a b c o left ha hb hc =
    let ab = passes-above a b o hb in
    let ca = passes-above c a o ha in
    let ba = passes-above b a o ha in
    let cb = passes-above c b o hb in
    let bal = balance a b c o in
    let sum = areas-sum a b c o in
    let more : low_across o b c + low_across o c a + low_across o a b < high_across o b c + high_across o c a + high_across o a b = omega arith in
    let eh : high_across o a c ≡ low_across o c a = other-high c a o in
    let el : low_across o a c ≡ high_across o c a = other-low c a o in
    ⊎_elim
    (λ (down : high_across o c a < low_across o c a).
    let up = above-passes _ _ _ _ _ _ _ _ _ _ bal more ha hb hc down in
    let bc : passes b c o ≡ 1 = passes-left b c o hb hc up in
    let ac : passes a c o ≡ 1 = passes-left a c o ha hc (omega arith) in
    inl (omega arith))
    (λ (flat : low_across o c a ≤ high_across o c a).
    let ac : passes a c o ≡ 0 = passes-right a c o (omega arith) in
    ⊎_elim
    (λ (up : low_across o b c < high_across o b c).
    let bc : passes b c o ≡ 1 = passes-left b c o hb hc up in
    let third = above-holds _ _ _ _ _ _ _ _ _ _ bal ha hb hc (omega arith) flat in
    inr (omega arith, record { ab = third; bc = omega arith; ca = flat }))
    (λ (right : high_across o b c ≤ low_across o b c).
    let bc : passes b c o ≡ 0 = passes-right b c o right in
    inl (omega arith))
    (cases_lt (low_across o b c) (high_across o b c)))
    (cases_lt (high_across o c a) (low_across o c a))

-- corner c alone at the row or below it
one-below : (a b c o : Point) → IsCounterclockwise a b c → o.y < a.y → o.y < b.y → c.y ≤ o.y → IsOnceAtMost a b c o
one-below a b c o left ha hb hc =
    let ab = passes-below a b o ha in
    let bc = passes-below b c o hb in
    let ba = passes-below b a o hb in
    let ac = passes-below a c o ha in
    let bal = balance a b c o in
    let sum = areas-sum a b c o in
    let more : low_across o b c + low_across o c a + low_across o a b < high_across o b c + high_across o c a + high_across o a b = omega arith in
    let eh : high_across o c b ≡ low_across o b c = other-high b c o in
    let el : low_across o c b ≡ high_across o b c = other-low b c o in
    ⊎_elim
    (λ (down : high_across o b c < low_across o b c).
    let up = below-passes _ _ _ _ _ _ _ _ _ _ bal more ha hb hc down in
    let ca : passes c a o ≡ 1 = passes-left c a o hc ha up in
    let cb : passes c b o ≡ 1 = passes-left c b o hc hb (omega arith) in
    inl (omega arith))
    (λ (flat : low_across o b c ≤ high_across o b c).
    let cb : passes c b o ≡ 0 = passes-right c b o (omega arith) in
    ⊎_elim
    (λ (up : low_across o c a < high_across o c a).
    let ca : passes c a o ≡ 1 = passes-left c a o hc ha up in
    let third = below-holds _ _ _ _ _ _ _ _ _ _ bal ha hb hc flat up in
    inr (omega arith, record { ab = third; bc = flat; ca = omega arith }))
    (λ (right : high_across o c a ≤ low_across o c a).
    let ca : passes c a o ≡ 0 = passes-right c a o right in
    inl (omega arith))
    (cases_lt (low_across o c a) (high_across o c a)))
    (cases_lt (high_across o b c) (low_across o b c))

-- the corners may be told from another one on
turned : (a b c : Point) → IsCounterclockwise a b c → IsCounterclockwise b c a
turned a b c left = omega arith

turned-back : (a b c o : Point) → IsOnceAtMost b c a o → IsOnceAtMost a b c o
turned-back a b c o h = ⊎_elim
    (λ same. inl (omega arith))
    (λ (once : (ups_at b c a o ≡ downs_at b c a o + 1) × IsHeld b c a o).
    inr (omega (arith, once.0), record { ab = once.1.ca; bc = once.1.ab; ca = once.1.bc }))
    h

pub once-at-most : (a b c o : Point) → IsCounterclockwise a b c → IsOnceAtMost a b c o
once-at-most a b c o left =
    let next = turned a b c left in
    let last = turned b c a next in
    ⊎_elim
    (λ (ha : o.y < a.y). ⊎_elim
    (λ (hb : o.y < b.y). ⊎_elim
    (λ (hc : o.y < c.y). all-above a b c o ha hb hc)
    (λ (hc : c.y ≤ o.y). one-below a b c o left ha hb hc)
    (cases_lt o.y c.y))
    (λ (hb : b.y ≤ o.y). ⊎_elim
    (λ (hc : o.y < c.y). turned-back a b c o (turned-back b c a o (one-below c a b o last hc ha hb)))
    (λ (hc : c.y ≤ o.y). turned-back a b c o (one-above b c a o next hb hc ha))
    (cases_lt o.y c.y))
    (cases_lt o.y b.y))
    (λ (ha : a.y ≤ o.y). ⊎_elim
    (λ (hb : o.y < b.y). ⊎_elim
    (λ (hc : o.y < c.y). turned-back a b c o (one-below b c a o next hb hc ha))
    (λ (hc : c.y ≤ o.y). turned-back a b c o (turned-back b c a o (one-above c a b o last hc ha hb)))
    (cases_lt o.y c.y))
    (λ (hb : b.y ≤ o.y). ⊎_elim
    (λ (hc : o.y < c.y). one-above a b c o left ha hb hc)
    (λ (hc : c.y ≤ o.y). all-below a b c o ha hb hc)
    (cases_lt o.y c.y))
    (cases_lt o.y b.y))
    (cases_lt o.y a.y)
