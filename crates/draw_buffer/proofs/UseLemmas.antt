-- How often corners have a vertex number, and what three uses more or less leave.
use Rattle.std.proofs.Common.{◌≡◌, ℕ, ◌+◌, ◌<◌, ◌≤◌, List, [], ◌∷◌, ◌++◌, length, map, get_or, set, refl, ap, ap₂, ◌∙◌}
use Rattle.std.proofs.Common.{arith}
use Rattle.std.specs.List.{swap_remove}
use Rattle.std.proofs.lemmas.List.Sums.{sum_by-cons, sum_by-set, sum_by_push, sum_by-swap_remove, get_or-le-sum_by}
use Rattle.draw_buffer.specs.declared.indices.Indices.{Indices}
use Rattle.draw_buffer.specs.declared.exchange.Waiting.{Waiting}
use Rattle.draw_buffer.specs.Times.{same}
use Rattle.draw_buffer.specs.Corners.{shown, corner_uses, uses_in}
use Rattle.draw_buffer.specs.Vertices.{VertexState, IsTaken, AreTaken}
use Rattle.draw_buffer.specs.Exchange.{waiting_uses}
use Rattle.draw_buffer.proofs.TimesLemmas.{same-one}

-- ---- three corners

-- how many of the three corners have a number, corner by corner
pub corner_uses-is : (x : Indices) (v : ℕ) → corner_uses x v ≡ same x.apex v + same x.v0 v + same x.v1 v
unfolding corner_uses
corner_uses-is x v = refl

-- the number of the apex is used by a corner
pub uses-apex : (x : Indices) → 1 ≤ corner_uses x x.apex
uses-apex x = let is = corner_uses-is x x.apex in let one = same-one x.apex x.apex refl in omega arith

-- and so is that of v0
pub uses-v0 : (x : Indices) → 1 ≤ corner_uses x x.v0
uses-v0 x = let is = corner_uses-is x x.v0 in let one = same-one x.v0 x.v0 refl in omega arith

-- and that of v1
pub uses-v1 : (x : Indices) → 1 ≤ corner_uses x x.v1
uses-v1 x = let is = corner_uses-is x x.v1 in let one = same-one x.v1 x.v1 refl in omega arith

-- the points of three numbers in use stay
pub shown-stay : (ps qs us : List ℕ) (x : Indices) → ((v : ℕ) → corner_uses x v ≤ get_or us v 0)
    → ((v : ℕ) → 0 < get_or us v 0 → get_or qs v 0 ≡ get_or ps v 0) → shown qs x ≡ shown ps x
unfolding shown
shown-stay ps qs us x used stay =
    let apex = stay x.apex (omega (arith, uses-apex x, used x.apex)) in
    let v0 = stay x.v0 (omega (arith, uses-v0 x, used x.v0)) in
    let v1 = stay x.v1 (omega (arith, uses-v1 x, used x.v1)) in
    cc

-- ---- lists of corners

-- without triangles no corner has the number
pub uses_in-none : (v : ℕ) → uses_in [] v ≡ 0
unfolding uses_in
uses_in-none v = refl

-- how many corners have the number with one triangle more at the beginning
pub uses_in-cons : (x : Indices) (xs : List Indices) (v : ℕ) → uses_in (x ∷ xs) v ≡ corner_uses x v + uses_in xs v
unfolding uses_in
uses_in-cons x xs v = sum_by-cons (λ y. corner_uses y v) x xs

-- the same with one triangle more at the end
pub uses_in-push : (xs : List Indices) (x : Indices) (v : ℕ) → uses_in (xs ++ x ∷ []) v ≡ uses_in xs v + corner_uses x v
unfolding uses_in
uses_in-push xs x v = sum_by_push (λ y. corner_uses y v) xs x

-- the same with the triangle at place k replaced by another
pub uses_in-set : (xs : List Indices) (k : ℕ) (x d : Indices) (v : ℕ) → k < length xs
    → uses_in (set xs k x) v + corner_uses (get_or xs k d) v ≡ uses_in xs v + corner_uses x v
unfolding uses_in
uses_in-set xs k x d v inside = sum_by-set (λ y. corner_uses y v) xs k x d inside

-- the same with the triangle at place k taken out
pub uses_in-swap_remove : (xs : List Indices) (k : ℕ) (d : Indices) (v : ℕ) → k < length xs
    → uses_in (swap_remove xs k d) v + corner_uses (get_or xs k d) v ≡ uses_in xs v
unfolding uses_in
uses_in-swap_remove xs k d v inside = sum_by-swap_remove (λ y. corner_uses y v) xs k d inside

-- one triangle uses a number no more often than all together
pub uses_in-at : (xs : List Indices) (k : ℕ) (d : Indices) (v : ℕ) → k < length xs →
    corner_uses (get_or xs k d) v ≤ uses_in xs v
unfolding uses_in
uses_in-at xs k d v inside = get_or-le-sum_by (λ y. corner_uses y v) xs k d inside

-- where nothing waits, no corner has the number
pub waiting_uses-none : (v : ℕ) → waiting_uses [] v ≡ 0
unfolding waiting_uses
waiting_uses-none v = refl

-- how many corners of what waits have the number, with one triangle more
pub waiting_uses-push : (ws : List Waiting) (w : Waiting) (v : ℕ)
    → waiting_uses (ws ++ w ∷ []) v ≡ waiting_uses ws v + corner_uses w.corners v
unfolding waiting_uses
waiting_uses-push ws w v = sum_by_push (λ (y : Waiting). corner_uses y.corners v) ws w

-- one triangle that waits uses a number no more often than all together
pub waiting_uses-at : (ws : List Waiting) (k : ℕ) (d : Waiting) (v : ℕ) → k < length ws
    → corner_uses (get_or ws k d).corners v ≤ waiting_uses ws v
unfolding waiting_uses
waiting_uses-at ws k d v inside = get_or-le-sum_by (λ (y : Waiting). corner_uses y.corners v) ws k d inside

-- the points of all corners in use stay
pub map-shown : (ps qs us : List ℕ) (xs : List Indices) → ((v : ℕ) → uses_in xs v ≤ get_or us v 0)
    → ((v : ℕ) → 0 < get_or us v 0 → get_or qs v 0 ≡ get_or ps v 0) → map (shown qs) xs ≡ map (shown ps) xs
map-shown ps qs us [] used stay = refl
map-shown ps qs us (x ∷ xs) used stay =
    ap₂ (λ y ys. y ∷ ys) (shown-stay ps qs us x (λ v. omega (arith, used v, uses_in-cons x xs v)) stay)
    (map-shown ps qs us xs (λ v. omega (arith, used v, uses_in-cons x xs v)) stay)

-- ---- three numbers

-- three corners are taken where the apex's number, v0's and v1's are taken one after the other
pub taken-three : (a b c d : VertexState) (places : Indices) (apex v0 v1 : ℕ) → IsTaken a b places.apex apex
    → IsTaken b c places.v0 v0 → IsTaken c d places.v1 v1
    → AreTaken a d places (record { apex = apex; v0 = v0; v1 = v1 })
unfolding shown
taken-three a b c d places apex v0 v1 first second third = record {
  here =
      let one = same-one apex apex refl in
      let two = same-one v0 v0 refl in
      let at_c : get_or c.points apex 0 ≡ places.apex =
      second.stay apex (omega (arith, first.uses apex)) ∙ first.here in
      let at_d : get_or d.points apex 0 ≡ places.apex =
      third.stay apex (omega (arith, first.uses apex, second.uses apex)) ∙ at_c in
      let mid : get_or d.points v0 0 ≡ places.v0 = third.stay v0 (omega (arith, second.uses v0)) ∙ second.here in
      let built : ℕ → ℕ → ℕ → Indices = λ i j k. record { apex = i; v0 = j; v1 = k } in
      ap (λ i. built i (get_or d.points v0 0) (get_or d.points v1 0)) at_d
      ∙ ap (λ j. built places.apex j (get_or d.points v1 0)) mid
      ∙ ap (λ k. built places.apex places.v0 k) third.here;
  uses = λ w. let is = corner_uses-is (record { apex = apex; v0 = v0; v1 = v1 }) w in
      omega (arith, first.uses w, second.uses w, third.uses w);
  total = (let h = first.total in let i = second.total in let j = third.total in omega arith);
  stay = λ w some.
      third.stay w (omega (arith, first.uses w, second.uses w))
      ∙ second.stay w (omega (arith, first.uses w)) ∙ first.stay w some;
  told = λ w none. third.told w none ∙ second.told w (third.grows w none)
      ∙ first.told w (second.grows w (third.grows w none));
  grows = λ w none. first.grows w (second.grows w (third.grows w none));
  used = λ w some. third.used w (omega (arith, first.uses w, second.uses w))
      ∙ second.used w (omega (arith, first.uses w)) ∙ first.used w some;
  few = (let h = first.few in let i = second.few in let j = third.few in omega arith);
  end = third.end ∙ second.end ∙ first.end;
  most = third.most ∙ second.most ∙ first.most;
}
