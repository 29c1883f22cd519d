-- Numbers that are mended in places are those of the vertices as they are now.
use Rattle.std.proofs.Common.{◌≡◌, ◌≢◌, ℕ, zero, suc, ◌+◌, ◌*◌, ◌/◌, ◌-◌, ◌^◌, ◌<◌, ◌≤◌, Bool, true, false, cond, List}
use Rattle.std.proofs.Common.{[], ◌∷◌, ◌++◌, length, take, drop, get_or, All, refl, sym, ◌∙◌, ap, ap₂, arith, add-one}
use Rattle.std.proofs.Common.{⊎_elim, take-append-drop}
use Rattle.std.proofs.Math.ListN.{set, length-set}
use Rattle.std.proofs.Math.Nat.{div-lt_iff_lt-mul, mul-le-mul}
use Rattle.std.proofs.lemmas.Bool.{false≢true, cases_eq}
use Rattle.std.proofs.lemmas.List.{take_more, get_or-take, length-take, get_or-set_same, get_or-set_other}
use Rattle.std.proofs.lemmas.Grind.{same_number_lists}
use Rattle.std.proofs.lemmas.List.Elements.{All-nil, All-cons, All-head, All-tail}
use Rattle.text_laws.proofs.TestLemmas.{by_bool}
use Rattle.mesh_defs.specs.declared.point.Point.{Point}
use Rattle.mesh_defs.specs.HeightField.{side_of}
use Rattle.mesh_defs.specs.MeshText.{vertices_of, vertex_number}
use Rattle.bintree_laws.specs.Corners.{IsInSquare}
use Rattle.bintree_laws.proofs.CornerLemmas.{side_small}
use Rattle.obj_write.specs.declared.patch.VertexChange.{VertexChange}
use Rattle.obj_write.specs.Numbers.{numbers_of}
use Rattle.obj_write.specs.VertexMarks.{grid_place, place_point, is_vertex, vertex_marks, numbered, marked}
use Rattle.obj_write.specs.Table.{AreFlagged, IsCounted, block_end}
use Rattle.obj_write.specs.Patch.{AreNumbers, AreChanges, with_changes, last_number}
use Rattle.obj_write.proofs.PlaceLemmas.{place-again, place-below, point-again}
use Rattle.obj_write.proofs.NumberLemmas.{numbered-marks, marked-marks, length-numbers, number-at-place}

-- numbers that are counted again

-- what is numbered stays when it is numbered again
numbered-again : (c : ℕ) (marks : List ℕ) → numbered c (numbered c marks) ≡ numbered c marks
numbered-again c [] = refl
numbered-again c (zero ∷ marks) = ap (λ xs. zero ∷ xs) (numbered-again c marks)
numbered-again c (suc _ ∷ marks) = ap (λ xs. suc c ∷ xs) (numbered-again (suc c) marks)

-- there are as many numbers as marks
marked-numbered : (c : ℕ) (marks : List ℕ) → marked (numbered c marks) ≡ marked marks
marked-numbered c [] = refl
marked-numbered c (zero ∷ marks) = marked-numbered c marks
marked-numbered c (suc _ ∷ marks) = ap suc (marked-numbered (suc c) marks)

-- the last number is how many there are
last-numbered : (c : ℕ) (marks : List ℕ) → last_number c (numbered c marks) ≡ c + marked marks
last-numbered c [] = omega arith
last-numbered c (zero ∷ marks) = last-numbered c marks
last-numbered c (suc _ ∷ marks) = let rest = last-numbered (suc c) marks in omega arith

-- the front is numbered on its own
take-numbered : (k c : ℕ) (marks : List ℕ) → take k (numbered c marks) ≡ numbered c (take k marks)
take-numbered zero c marks = refl
take-numbered (suc k) c [] = refl
take-numbered (suc k) c (zero ∷ marks) = ap (λ xs. zero ∷ xs) (take-numbered k c marks)
take-numbered (suc k) c (suc _ ∷ marks) = ap (λ xs. suc c ∷ xs) (take-numbered k (suc c) marks)

-- one list behind another
numbered-append : (c : ℕ) (xs ys : List ℕ) →
    numbered c (xs ++ ys) ≡ numbered c xs ++ numbered (c + marked xs) ys
numbered-append c [] ys = let none : c ≡ c + 0 = omega arith in ap (λ i. numbered i ys) none
numbered-append c (zero ∷ xs) ys = ap (λ zs. zero ∷ zs) (numbered-append c xs ys)
numbered-append c (suc _ ∷ xs) ys =
    let more : suc c + marked xs ≡ c + suc (marked xs) = omega arith in
    ap (λ zs. suc c ∷ zs) (numbered-append (suc c) xs ys ∙ ap (λ i. numbered (suc c) xs ++ numbered i ys) more)

marked-append : (xs ys : List ℕ) → marked (xs ++ ys) ≡ marked xs + marked ys
marked-append [] ys = omega arith
marked-append (zero ∷ xs) ys = marked-append xs ys
marked-append (suc _ ∷ xs) ys = let rest = marked-append xs ys in omega arith

marked-few : (xs : List ℕ) → marked xs ≤ length xs
marked-few [] = omega arith
marked-few (zero ∷ xs) = let rest = marked-few xs in omega arith
marked-few (suc _ ∷ xs) = let rest = marked-few xs in omega arith

-- the front of a list is that of another
front-same : (xs ys : List ℕ) (at : ℕ) → length xs ≡ length ys →
    ((k : ℕ) → k < at → get_or xs k 0 ≡ get_or ys k 0) → take at xs ≡ take at ys
front-same xs ys at long same =
    let one = length-take at xs in
    let two = length-take at ys in
    same_number_lists (take at xs) (take at ys) (omega arith)
    (λ k below. let low : k < at = omega arith in
    get_or-take at xs k 0 low ∙ same k low ∙ sym (get_or-take at ys k 0 low))

-- Numbers that stay as they are before a place, where those of before were numbered, are counted up to it.
pub counted-front : (old xs : List ℕ) (at : ℕ) → at ≤ length xs → length xs ≡ length old →
    numbered 0 old ≡ old →
    ((k : ℕ) → k < at → get_or xs k 0 ≡ get_or old k 0) →
    IsCounted xs xs (last_number 0 (take at xs)) at
counted-front old xs at within long done same =
    let front : List ℕ = take at xs in
    let kept : front ≡ take at old = front-same xs old at long same in
    let again : numbered 0 front ≡ front =
    ap (numbered 0) kept ∙ sym (take-numbered at 0 old) ∙ ap (take at) done ∙ sym kept in
    let last : last_number 0 front ≡ marked front =
    ap (last_number 0) (sym again) ∙ last-numbered 0 front ∙ (omega arith) in
    let whole : front ++ drop at xs ≡ xs = take-append-drop at xs in
    let few = marked-few front in
    let short = length-take at xs in
    let start : 0 + marked front ≡ last_number 0 front = omega arith in
    record {
      few = omega arith;
      within = within;
      so_far = ap (numbered 0) (sym whole) ∙ numbered-append 0 front (drop at xs)
          ∙ ap₂ (λ (zs : List ℕ) (i : ℕ). zs ++ numbered i (drop at xs)) again start;
      total = ap marked (sym whole) ∙ marked-append front (drop at xs) ∙ ap (λ i. i + marked (drop at xs)) (sym last);
    }

-- the numbers of vertices are numbered
pub numbers-again : (n : ℕ) (triangles : List ℕ) →
    numbered 0 (numbers_of n triangles) ≡ numbers_of n triangles
numbers-again n triangles =
    let is = numbered-marks n triangles in
    ap (numbered 0) (sym is) ∙ numbered-again 0 (vertex_marks n triangles) ∙ is

-- and as many as these
pub marked-numbers : (n : ℕ) (triangles : List ℕ) →
    marked (numbers_of n triangles) ≡ length (vertices_of n triangles)
marked-numbers n triangles =
    ap marked (sym (numbered-marks n triangles)) ∙ marked-numbered 0 (vertex_marks n triangles)
    ∙ marked-marks n triangles

-- marks alike

-- whether a mark is set
abbrev is_mark : ℕ → Bool
is_mark zero = false
is_mark (suc _) = true

-- lists with marks at the same places are numbered alike
numbered-alike : (c : ℕ) (xs ys : List ℕ) → length xs ≡ length ys →
    ((k : ℕ) → k < length xs → is_mark (get_or xs k 0) ≡ is_mark (get_or ys k 0)) →
    (numbered c xs ≡ numbered c ys) × (marked xs ≡ marked ys)
numbered-alike c [] [] long same = (refl, refl)
numbered-alike c [] (y ∷ ys) long same = absurd (omega arith)
numbered-alike c (x ∷ xs) [] long same = absurd (omega arith)
numbered-alike c (zero ∷ xs) (zero ∷ ys) long same =
    let rest = numbered-alike c xs ys (omega arith) (λ k low. same (suc k) (omega arith)) in
    (ap (λ zs. zero ∷ zs) rest.0, rest.1)
numbered-alike c (suc i ∷ xs) (suc j ∷ ys) long same =
    let rest = numbered-alike (suc c) xs ys (omega arith) (λ k low. same (suc k) (omega arith)) in
    (ap (λ zs. suc c ∷ zs) rest.0, ap suc rest.1)
numbered-alike c (zero ∷ xs) (suc j ∷ ys) long same = absurd (false≢true (same 0 (omega arith)))
numbered-alike c (suc i ∷ xs) (zero ∷ ys) long same = absurd (false≢true (sym (same 0 (omega arith))))

is_mark-next : (i : ℕ) → is_mark (i + 1) ≡ true
is_mark-next i = ap is_mark (add-one i)

-- a place has a number where a vertex is
number-mark : (n : ℕ) (triangles : List ℕ) (k : ℕ) → k < side_of n * side_of n →
    is_mark (get_or (numbers_of n triangles) k 0) ≡ is_vertex n triangles (place_point n k)
number-mark n triangles k below =
    let p : Point = place_point n k in
    let vertices : List Point = vertices_of n triangles in
    ap is_mark (number-at-place n triangles k below)
    ∙ by_bool (is_vertex n triangles p)
    (λ e. ap (λ b. is_mark (cond b (vertex_number vertices p) 0)) e ∙ is_mark-next _ ∙ sym e)
    (λ e. ap (λ b. is_mark (cond b (vertex_number vertices p) 0)) e ∙ sym e)

-- a mark of a test is set where the test passes
is_mark-test : (b : Bool) → is_mark (cond b 1 0) ≡ b
is_mark-test true = refl
is_mark-test false = refl

-- changes

pub length-changes : (n : ℕ) (changes : List VertexChange) (xs : List ℕ) →
    length (with_changes n changes xs) ≡ length xs
length-changes n [] xs = refl
length-changes n (c ∷ changes) xs =
    length-changes n changes (set xs (grid_place n c.point) (cond c.shown 1 0))
    ∙ length-set xs (grid_place n c.point) (cond c.shown 1 0)

-- one change more, behind the others
pub changes-more : (n : ℕ) (changes : List VertexChange) (c : VertexChange) (xs : List ℕ) →
    set (with_changes n changes xs) (grid_place n c.point) (cond c.shown 1 0) ≡ with_changes n (changes ++ c ∷ []) xs
changes-more n [] c xs = refl
changes-more n (d ∷ changes) c xs = changes-more n changes c (set xs (grid_place n d.point) (cond d.shown 1 0))

-- With the changes the marks are those of a test, which passes where a change shows a vertex, and where there is no
-- change and a mark was before.
changed-marks : (n : ℕ) (passes : Point → Bool) (changes : List VertexChange) (xs : List ℕ) (k : ℕ) →
    k < side_of n * side_of n → length xs ≡ side_of n * side_of n →
    All (λ c. IsInSquare (2 ^ n) c.point) changes → All (λ c. c.shown ≡ passes c.point) changes →
    (All (λ c. c.point ≢ place_point n k) changes → is_mark (get_or xs k 0) ≡ passes (place_point n k)) →
    is_mark (get_or (with_changes n changes xs) k 0) ≡ passes (place_point n k)
changed-marks n passes [] xs k low long within told rest =
    rest (All-nil (λ (c : VertexChange). c.point ≢ place_point n k))
changed-marks n passes (c ∷ changes) xs k low long within told rest =
    let at : ℕ = grid_place n c.point in
    let square = All-head (λ (d : VertexChange). IsInSquare (2 ^ n) d.point) c changes within in
    let shown = All-head (λ (d : VertexChange). d.shown ≡ passes d.point) c changes told in
    let next : List ℕ = set xs at (cond c.shown 1 0) in
    changed-marks n passes changes next k low (length-set xs at (cond c.shown 1 0) ∙ long)
    (All-tail (λ (d : VertexChange). IsInSquare (2 ^ n) d.point) c changes within)
    (All-tail (λ (d : VertexChange). d.shown ≡ passes d.point) c changes told)
    (λ others. ⊎_elim
    (λ (here : k ≡ at).
    let fits : at < length xs = let below = place-below n c.point square in omega arith in
    let point : place_point n k ≡ c.point = ap (place_point n) here ∙ point-again n c.point square.x in
    ap (λ i. is_mark (get_or next i 0)) here
    ∙ ap is_mark (get_or-set_same xs at (cond c.shown 1 0) 0 fits)
    ∙ is_mark-test c.shown ∙ shown ∙ ap passes (sym point))
    (λ (there : k ≡ at → ⊥).
    ap is_mark (get_or-set_other xs at k (cond c.shown 1 0) 0 there)
    ∙ rest (All-cons (λ (d : VertexChange). d.point ≢ place_point n k) c changes
    (λ e. there (sym (place-again n k) ∙ ap (grid_place n) (sym e)))
    others))
    (cases_eq k at))

-- the point at a place lies in the square
place-within : (n k : ℕ) → k < side_of n * side_of n → IsInSquare (2 ^ n) (place_point n k)
place-within n k below =
    let row : k / side_of n < side_of n =
    (div-lt_iff_lt-mul {k = side_of n} {x = k} {y = side_of n} (omega arith)).1 below in
    record { x = omega arith; y = omega arith }

-- with the changes that tell of other triangles the marks are at the same places as their numbers
module _ (n : ℕ) (before after : List ℕ) (changes : List VertexChange) (old : List ℕ) (is : old ≡ numbers_of n before)
    (within : All (λ c. IsInSquare (2 ^ n) c.point) changes) (all : AreChanges n before after changes) where
  alike : (numbered 0 (with_changes n changes old) ≡ numbered 0 (numbers_of n after))
      × (marked (with_changes n changes old) ≡ marked (numbers_of n after))
  alike =
      let long : length old ≡ side_of n * side_of n = ap length is ∙ length-numbers n before in
      let all_long = length-changes n changes old in
      let after_long = length-numbers n after in
      numbered-alike 0 (with_changes n changes old) (numbers_of n after) (omega arith)
      (λ k low.
      let below : k < side_of n * side_of n = omega arith in
      changed-marks n (is_vertex n after) changes old k below long within all.told
      (λ others. ap (λ ys. is_mark (get_or ys k 0)) is ∙ number-mark n before k below
      ∙ sym (all.others (place_point n k) (place-within n k below) others))
      ∙ sym (number-mark n after k below))

  -- so what is numbered then are theirs
  pub changed-numbers : numbered 0 (with_changes n changes old) ≡ numbers_of n after
  changed-numbers = alike.0 ∙ numbers-again n after

  -- and there are as many as vertices
  pub changed-count : marked (with_changes n changes old) ≡ length (vertices_of n after)
  changed-count = alike.1 ∙ marked-numbers n after

-- the last number

last-append : (c : ℕ) (xs ys : List ℕ) →
    last_number c (xs ++ ys) ≡ last_number (last_number c xs) ys
last-append c [] ys = refl
last-append c (zero ∷ xs) ys = last-append c xs ys
last-append c (suc k ∷ xs) ys = last-append (suc k) xs ys

last-one : (c x : ℕ) → x ≢ 0 → last_number c (x ∷ []) ≡ x
last-one c zero some = absurd (some refl)
last-one c (suc x) some = refl

-- one place more, at which there is none
pub last-none : (xs : List ℕ) (at : ℕ) → at < length xs → get_or xs at 0 ≡ 0 →
    last_number 0 (take (at + 1) xs) ≡ last_number 0 (take at xs)
last-none xs at below none =
    ap (last_number 0) (take_more xs at 0 below ∙ ap (λ x. take at xs ++ x ∷ []) none)
    ∙ last-append 0 (take at xs) (0 ∷ [])

-- and one at which there is
pub last-some : (xs : List ℕ) (at : ℕ) → at < length xs → get_or xs at 0 ≢ 0 →
    last_number 0 (take (at + 1) xs) ≡ get_or xs at 0
last-some xs at below some =
    ap (last_number 0) (take_more xs at 0 below) ∙ last-append 0 (take at xs) (get_or xs at 0 ∷ [])
    ∙ last-one (last_number 0 (take at xs)) (get_or xs at 0) some

-- so many places more, at which there is none
last-on : (xs : List ℕ) (at m : ℕ) → at + m ≤ length xs →
    ((k : ℕ) → at ≤ k → k < at + m → get_or xs k 0 ≡ 0) →
    last_number 0 (take (at + m) xs) ≡ last_number 0 (take at xs)
last-on xs at zero fits none = let same : at + 0 ≡ at = omega arith in ap (λ k. last_number 0 (take k xs)) same
last-on xs at (suc m) fits none =
    let next : at + suc m ≡ at + m + 1 = omega arith in
    ap (λ k. last_number 0 (take k xs)) next
    ∙ last-none xs (at + m) (omega arith) (none (at + m) (omega arith) (omega arith))
    ∙ last-on xs at m (omega arith) (λ k low high. none k low (omega arith))

-- a block whose flag is not set
pub last-block : (xs : List ℕ) (used : List Bool) (block : ℕ) → AreFlagged xs used →
    get_or used block false ≡ false →
    last_number 0 (take (block_end xs (block + 1)) xs) ≡ last_number 0 (take (block_end xs block) xs)
last-block xs used block flagged unused =
    let from = block_end xs block in
    let to = block_end xs (block + 1) in
    let ends : from + (to - from) ≡ to = omega arith in
    ap (λ k. last_number 0 (take k xs)) (sym ends)
    ∙ last-on xs from (to - from) (omega arith)
    (λ k low high.
    let here : k / 64 ≡ block = omega arith in
    flagged.clear k (ap (λ b. get_or used b false) here ∙ unused))

-- how many points a grid has
pub grid_few : (n : ℕ) → n ≤ 14 → side_of n * side_of n < 2 ^ 32
grid_few n small =
    let le : 2 ^ n ≤ 16384 = (side_small n small).1 in
    let side : side_of n ≤ 16385 = omega arith in
    let square : side_of n * side_of n ≤ 16385 * 16385 =
    mul-le-mul {n₁ = side_of n} {m₁ = side_of n} {n₂ = 16385} {m₂ = 16385} side side in
    omega arith

-- there are as many numbers as points
pub numbers-long : (n : ℕ) (old numbers : List ℕ) → old ≡ numbers → AreNumbers n numbers →
    length old ≡ side_of n * side_of n
numbers-long n old numbers same are = ap length same ∙ ap length are.1 ∙ length-numbers n are.0

-- and they stay when they are numbered again
pub numbers-done : (n : ℕ) (old numbers : List ℕ) → old ≡ numbers → AreNumbers n numbers → numbered 0 old ≡ old
numbers-done n old numbers same are =
    let is : old ≡ numbers_of n are.0 = same ∙ are.1 in
    ap (numbered 0) is ∙ numbers-again n are.0 ∙ sym is
