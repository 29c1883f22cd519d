-- Counts of marks: of two lists together, of a list with one mark, and of the leaves below a triangle that passes its
-- mark on.
use Rattle.std.proofs.Common.{◌≡◌, ◌+◌, ◌*◌, ◌≤◌, ◌++◌, ℕ, suc, Bool, true, false, cond, List, [], ◌∷◌, All, length, ap, sym}
use Rattle.std.proofs.Common.{◌∙◌, refl, subst, arith}
use Rattle.std.specs.List.{count_by}
use Rattle.std.proofs.lemmas.List.Sums.{sum_by-cons, sum_by-append}
use Rattle.std.proofs.lemmas.List.Elements.{All-head, All-tail, All-cons, All-nil}
use Rattle.mesh_defs.specs.declared.mark.Mark.{Mark}
use Rattle.mesh_defs.specs.declared.mark.Mark.TheVariants.{Inside, Cut, Outside}
use Rattle.mesh_defs.specs.ClosedSet.{leaves_under}
use Rattle.mesh_defs.specs.Triangle.{IsSplittable}
use Rattle.mesh_defs.specs.MeshText.{is_same_mark}
use Rattle.mesh_laws.proofs.DescentLemmas.{IsDown, IsSplittable-down, All-leaves_under}
use Rattle.mesh_defs.specs.State.{SceneState}
use Rattle.frame_loop.specs.Marks.{marks_seen, HasMarks}
use Rattle.frame_loop.specs.Turn.{mark_under}

-- a mark that both children have from their parent
pub record IsPassedOn (n : ℕ) (mark : ℕ → Mark) (m : Mark) : Type 0 where
  pub left : (a : ℕ) → IsSplittable n a → mark a ≡ m → mark (2 * a) ≡ m
  pub right : (a : ℕ) → IsSplittable n a → mark a ≡ m → mark (2 * a + 1) ≡ m

-- ---- lists

-- two lists together
pub marks_seen-append : (o : SceneState) (k : Mark) (xs ys all : List ℕ) → all ≡ xs ++ ys →
    marks_seen o k all ≡ marks_seen o k xs + marks_seen o k ys
marks_seen-append o k xs ys all is =
    ap (marks_seen o k) is ∙ sum_by-append (λ t. cond {A = ℕ} (is_same_mark k (mark_under o o.view.planes t)) 1 0) xs ys

-- no mark is counted more often than there are triangles
few_of : (b : Bool) → cond {A = ℕ} b 1 0 ≤ 1
few_of true = omega arith
few_of false = omega arith

pub count-few : (p : ℕ → Bool) (xs : List ℕ) → count_by p xs ≤ length xs
count-few p [] = omega arith
count-few p (x ∷ xs) =
    let more : count_by p (x ∷ xs) ≡ cond (p x) 1 0 + count_by p xs = sum_by-cons (λ (t : ℕ). cond (p t) 1 0) x xs in
    let rest = count-few p xs in
    let own = few_of (p x) in
    omega arith

-- a test that is the same for all counts them all, or none
one_more : (b : Bool) (count : ℕ) → cond b 1 0 + cond b count 0 ≡ cond b (suc count) 0
one_more true count = omega arith
one_more false count = refl

no_more : (b : Bool) → 0 ≡ cond {A = ℕ} b 0 0
no_more true = refl
no_more false = refl

pub count-same : (p : ℕ → Bool) (b : Bool) (xs : List ℕ) → All (λ a. p a ≡ b) xs → count_by p xs ≡ cond b (length xs) 0
count-same p b [] all = no_more b
count-same p b (x ∷ xs) all =
    let here : cond {A = ℕ} (p x) 1 0 ≡ cond b 1 0 = ap (λ c. cond {A = ℕ} c 1 0) (All-head (λ a. p a ≡ b) x xs all) in
    let more : count_by p (x ∷ xs) ≡ cond (p x) 1 0 + count_by p xs = sum_by-cons (λ (t : ℕ). cond (p t) 1 0) x xs in
    let rest : count_by p xs ≡ cond b (length xs) 0 = count-same p b xs (All-tail (λ a. p a ≡ b) x xs all) in
    let total : cond {A = ℕ} b 1 0 + cond b (length xs) 0 ≡ cond b (suc (length xs)) 0 = one_more b (length xs) in
    more ∙ ap (λ z. z + count_by p xs) here ∙ ap (λ z. cond {A = ℕ} b 1 0 + z) rest ∙ total

same_all : (mark : ℕ → Mark) (k m : Mark) (xs : List ℕ) → All (λ a. mark a ≡ m) xs →
    All (λ a. is_same_mark k (mark a) ≡ is_same_mark k m) xs
same_all mark k m [] all = All-nil (λ a. is_same_mark k (mark a) ≡ is_same_mark k m)
same_all mark k m (x ∷ xs) all = All-cons (λ a. is_same_mark k (mark a) ≡ is_same_mark k m) x xs
    (ap (is_same_mark k) (All-head (λ a. mark a ≡ m) x xs all))
    (same_all mark k m xs (All-tail (λ a. mark a ≡ m) x xs all))

-- so where all have one mark, it is counted for each, and no other
pub marks_seen-all : (o : SceneState) (k m : Mark) (xs : List ℕ) → All (λ a. mark_under o o.view.planes a ≡ m) xs →
    marks_seen o k xs ≡ cond (is_same_mark k m) (length xs) 0
marks_seen-all o k m xs all =
    count-same (λ a. is_same_mark k (mark_under o o.view.planes a)) (is_same_mark k m) xs
    (same_all (mark_under o o.view.planes) k m xs all)

counted : (o : SceneState) (k m : Mark) (xs : List ℕ) (count : ℕ) →
    All (λ a. mark_under o o.view.planes a ≡ m) xs → count ≡ length xs →
    cond (is_same_mark k m) count 0 ≡ marks_seen o k xs
counted o k m xs count all size = ap (λ z. cond {A = ℕ} (is_same_mark k m) z 0) size ∙ sym (marks_seen-all o k m xs all)

-- the counts of a list with one mark
pub HasMarks-all : (o : SceneState) (m : Mark) (xs : List ℕ) (count : ℕ) →
    All (λ a. mark_under o o.view.planes a ≡ m) xs →
    count ≡ length xs →
    HasMarks o xs (cond (is_same_mark Inside m) count 0) (cond (is_same_mark Cut m) count 0)
    (cond (is_same_mark Outside m) count 0)
HasMarks-all o m xs count all size = record {
  inside = counted o Inside m xs count all size;
  cut = counted o Cut m xs count all size;
  outside = counted o Outside m xs count all size;
}

-- and those of two lists together
pub HasMarks-append :
    (o : SceneState) (xs ys all : List ℕ) (within across without more_within more_across more_without : ℕ) →
    HasMarks o xs within across without → HasMarks o ys more_within more_across more_without → all ≡ xs ++ ys →
    HasMarks o all (within + more_within) (across + more_across) (without + more_without)
HasMarks-append o xs ys all within across without more_within more_across more_without first second is =
    let i = marks_seen-append o Inside xs ys all is in
    let c = marks_seen-append o Cut xs ys all is in
    let u = marks_seen-append o Outside xs ys all is in
    let fi = first.inside in let fc = first.cut in let fu = first.outside in
    let si = second.inside in let sc = second.cut in let su = second.outside in
    record { inside = omega arith; cut = omega arith; outside = omega arith }

-- no count is above the number of triangles
pub HasMarks-few : (o : SceneState) (xs : List ℕ) (within across without : ℕ) → HasMarks o xs within across without →
    (within ≤ length xs) × ((across ≤ length xs) × (without ≤ length xs))
HasMarks-few o xs within across without is =
    let i = subst (λ z. z ≤ length xs) (sym is.inside)
    (count-few (λ a. is_same_mark Inside (mark_under o o.view.planes a)) xs) in
    let c =
    subst (λ z. z ≤ length xs) (sym is.cut) (count-few (λ a. is_same_mark Cut (mark_under o o.view.planes a)) xs) in
    let u = subst (λ z. z ≤ length xs) (sym is.outside)
    (count-few (λ a. is_same_mark Outside (mark_under o o.view.planes a)) xs) in
    (i, (c, u))

-- ---- leaves

-- the leaves at and below a triangle have the mark that it passes on
pub leaves_marked : (n : ℕ) (mark : ℕ → Mark) (m : Mark) → IsPassedOn n mark m → (has : ℕ → Bool) (levels a : ℕ) →
    IsDown n levels a → mark a ≡ m →
    All (λ t. mark t ≡ m) (leaves_under levels has a)
leaves_marked n mark m passes has levels a down is =
    All-leaves_under n has (λ t. mark t ≡ m) (λ t. mark t ≡ m)
    (λ deeper t d member q.
    (passes.left t (IsSplittable-down n deeper t d) q, passes.right t (IsSplittable-down n deeper t d) q))
    (λ deeper t d ends q. q) levels a down is

-- and so their counts are known
pub HasMarks-below : (o : SceneState) (m : Mark) → IsPassedOn o.grid.n (mark_under o o.view.planes) m →
    (has : ℕ → Bool) (levels a count : ℕ) →
    IsDown o.grid.n levels a → mark_under o o.view.planes a ≡ m → count ≡ length (leaves_under levels has a) →
    HasMarks o (leaves_under levels has a) (cond (is_same_mark Inside m) count 0) (cond (is_same_mark Cut m) count 0)
    (cond (is_same_mark Outside m) count 0)
HasMarks-below o m passes has levels a count down is size =
    HasMarks-all o m (leaves_under levels has a) count
    (leaves_marked o.grid.n (mark_under o o.view.planes) m passes has levels a down is) size

-- those of a leaf too, whatever its mark
pub HasMarks-leaf : (o : SceneState) (m : Mark) (leaves : List ℕ) (a : ℕ) → leaves ≡ a ∷ [] →
    mark_under o o.view.planes a ≡ m →
    HasMarks o leaves (cond (is_same_mark Inside m) 1 0) (cond (is_same_mark Cut m) 1 0)
    (cond (is_same_mark Outside m) 1 0)
HasMarks-leaf o m leaves a alone is =
    subst (λ (xs : List ℕ). HasMarks o xs (cond (is_same_mark Inside m) 1 0) (cond (is_same_mark Cut m) 1 0)
    (cond (is_same_mark Outside m) 1 0)) (sym alone)
    (HasMarks-all o m (a ∷ []) 1 (All-cons (λ t. mark_under o o.view.planes t ≡ m) a [] is
    (All-nil (λ t. mark_under o o.view.planes t ≡ m))) refl)
