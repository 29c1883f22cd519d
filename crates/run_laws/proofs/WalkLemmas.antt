-- A walk goes on: what whole lines led to is where the rest begins.
use Rattle.std.proofs.Common.{◌≡◌, ℕ, ◌≤◌, List, [], ◌∷◌, ◌++◌, Option, Some, None, Result, Ok, Err, cond}
use Rattle.std.proofs.Common.{if◌then◌else◌, refl, sym, ◌∙◌, ap, subst, inl, inr, Bool, true, false, ◌==◌, ◌%◌}
use Rattle.std.proofs.Common.{append_assoc, append-nil}
use Rattle.std.specs.List.{onto_first, AllByRecursion, flat_map, range_with_len}
use Rattle.roam_script.specs.declared.line.Line.{Line}
use Rattle.roam_script.specs.declared.line.Line.TheVariants.{Blank, Camera, Set, Plane, NoPlanes, Budget, Raise, Frame}
use Rattle.roam_script.specs.declared.script_fault.ScriptFault.{ScriptFault}
use Rattle.roam_script.specs.LineText.{line_in}
use Rattle.run_laws.specs.Walk.{Refusal, Walk, limits_of, shown_by, after_line, refused_walk, after_text, walk_along}
use Rattle.run_laws.specs.Walk.{walk_lines, walk_of, lines_of, AreWhole}
use Rattle.roam_gen.specs.Generated.{camera_line, edit_line, frame_lines, made_lines}
use Rattle.run_laws.specs.Laws.{AreStates, KeepsStates, BudgetsAreTwo}
use Rattle.mesh_defs.specs.State.{State}
use Rattle.run_words.specs.Words.{Show}
use Rattle.run_laws.specs.Picture.{Picture, ArePictures, last_members}

-- a fold goes on
pub walk_lines-append : (walk : Walk) (xs ys : List (List ℕ)) →
    walk_lines walk (xs ++ ys) ≡ walk_lines (walk_lines walk xs) ys
walk_lines-append walk [] ys = refl
walk_lines-append walk (x ∷ xs) ys = walk_lines-append (after_text walk x) xs ys

-- there is a first line
abbrev HasFirst : List (List ℕ) → Type 0
HasFirst lines = (x : List ℕ) × (xs : List (List ℕ)) × (lines ≡ x ∷ xs)

first-cond : (b : Bool) (byte : ℕ) (lines : List (List ℕ)) → HasFirst (cond b ([] ∷ lines) (onto_first byte lines))
first-cond true byte lines = ([], lines, refl)
first-cond false byte [] = (byte ∷ [], [], refl)
first-cond false byte (x ∷ xs) = (byte ∷ x, xs, refl)

first : (byte : ℕ) (bytes : List ℕ) → HasFirst (lines_of (byte ∷ bytes))
first byte bytes = first-cond (byte == 10) byte (lines_of bytes)

first-behind : (head : List ℕ) → HasFirst (lines_of (head ++ 10 ∷ []))
first-behind [] = ([], [], refl)
first-behind (byte ∷ head) = first byte (head ++ 10 ∷ [])

goes : (b : Bool) (byte : ℕ) (lines more : List (List ℕ)) → HasFirst lines
    → cond b ([] ∷ (lines ++ more)) (onto_first byte (lines ++ more))
    ≡ cond b ([] ∷ lines) (onto_first byte lines) ++ more
goes true byte lines more some = refl
goes false byte [] more some = absurd (nil-cons some.2)
  where
    nil-cons : [] ≡ some.0 ∷ some.1 → ⊥
    nil-cons e = cc
goes false byte (x ∷ xs) more some = refl

-- the lines of whole lines and of what follows them
pub lines_of-ended : (head more : List ℕ) → lines_of (head ++ 10 ∷ more) ≡ lines_of (head ++ 10 ∷ []) ++ lines_of more
lines_of-ended [] more = refl
lines_of-ended (byte ∷ head) more =
    ap (λ (l : List (List ℕ)). cond (byte == 10) ([] ∷ l) (onto_first byte l)) (lines_of-ended head more)
    ∙ goes (byte == 10) byte (lines_of (head ++ 10 ∷ [])) (lines_of more) (first-behind head)

append-assoc-end : (head more : List ℕ) → (head ++ 10 ∷ []) ++ more ≡ head ++ 10 ∷ more
append-assoc-end [] more = refl
append-assoc-end (byte ∷ head) more = ap (λ (l : List ℕ). byte ∷ l) (append-assoc-end head more)

-- A walk over whole lines goes on with what follows them.
pub walk_of-append : (walk : Walk) (lines more : List ℕ) → AreWhole lines →
    walk_of walk (lines ++ more) ≡ walk_of (walk_of walk lines) more
unfolding walk_of
walk_of-append walk lines more (inl none) =
    subst (λ (l : List ℕ). walk_of walk (l ++ more) ≡ walk_of (walk_of walk l) more) (sym none) refl
walk_of-append walk lines more (inr (head, whole)) =
    subst (λ (l : List ℕ). walk_of walk (l ++ more) ≡ walk_of (walk_of walk l) more) (sym whole)
    (ap (λ (l : List ℕ). walk_lines walk (lines_of l)) (append-assoc-end head more)
    ∙ (ap (λ (l : List (List ℕ)). walk_lines walk l) (lines_of-ended head more)
    ∙ walk_lines-append walk (lines_of (head ++ 10 ∷ [])) (lines_of more)))

-- pictures go on from the last set
pub ArePictures-append : (show : Show) (before : List ℕ) (ss ts : List State) (ps qs : List Picture) →
    ArePictures show before ss ps
    → ArePictures show (last_members before ps) ts qs → ArePictures show before (ss ++ ts) (ps ++ qs)
ArePictures-append show before [] ts [] qs f g = g
ArePictures-append show before [] ts (p ∷ ps) qs f g = absurd f
ArePictures-append show before (s ∷ ss) ts [] qs f g = absurd f
ArePictures-append show before (s ∷ ss) ts (p ∷ ps) qs f g = (f.0, ArePictures-append show p.members ss ts ps qs f.1 g)

states-append : (n : ℕ) (states : List State) (state : State) → AreStates n states → state.grid.n ≡ n →
    2 ≤ state.budget → AreStates n (states ++ state ∷ [])
states-append n [] state are level low = (level, low, tt)
states-append n (s ∷ states) state are level low = (are.0, are.1, states-append n states state are.2 level low)

states-nothing : (n : ℕ) (states : List State) → AreStates n states → AreStates n (states ++ [])
states-nothing n states are = rw (append-nil states) are

line-states : (n : ℕ) (walk : Walk) (line : Line) → ((most : ℕ) → line ≡ Budget most → 2 ≤ most) → KeepsStates n walk →
    KeepsStates n (after_line line walk)
line-states n walk Blank two keeps = record {
  level = keeps.level;
  low = keeps.low;
  frames = states-nothing n walk.frames keeps.frames;
}
line-states n walk (Camera i j k) two keeps = record {
  level = keeps.level;
  low = keeps.low;
  frames = states-nothing n walk.frames keeps.frames;
}
line-states n walk (Set x y h) two keeps = record {
  level = keeps.level;
  low = keeps.low;
  frames = states-nothing n walk.frames keeps.frames;
}
line-states n walk Frame two keeps = record {
  level = keeps.level;
  low = keeps.low;
  frames = states-append n walk.frames walk.state keeps.frames keeps.level keeps.low;
}
line-states n walk (Plane i j k l) two keeps = record {
  level = keeps.level;
  low = keeps.low;
  frames = states-nothing n walk.frames keeps.frames;
}
line-states n walk NoPlanes two keeps = record {
  level = keeps.level;
  low = keeps.low;
  frames = states-nothing n walk.frames keeps.frames;
}
line-states n walk (Budget most) two keeps = record {
  level = keeps.level;
  low = two most refl;
  frames = states-nothing n walk.frames keeps.frames;
}
line-states n walk (Raise i j k l dz) two keeps = record {
  level = keeps.level;
  low = keeps.low;
  frames = states-nothing n walk.frames keeps.frames;
}

-- lines that set no budget

-- the line sets no budget below 2
abbrev BudgetIsTwo : Line → Type 0
BudgetIsTwo line = (most : ℕ) → line ≡ Budget most → 2 ≤ most

two-append : (xs ys : List Line) → AllByRecursion BudgetIsTwo xs → AllByRecursion BudgetIsTwo ys →
    AllByRecursion BudgetIsTwo (xs ++ ys)
two-append [] ys f g = g
two-append (x ∷ xs) ys f g = (f.0, two-append xs ys f.1 g)

-- the lines of a generated frame, whether one sets a height or not
two-frame : (n seed f : ℕ) (tenth : Bool) →
    AllByRecursion BudgetIsTwo ((camera_line n f ∷ []) ++ (if tenth then edit_line n seed f ∷ [] else []) ++ Frame ∷ [])
two-frame n seed f true = ((λ most e. cc), ((λ most e. cc), ((λ most e. cc), tt)))
two-frame n seed f false = ((λ most e. cc), ((λ most e. cc), tt))

two-frames : (n seed : ℕ) (fs : List ℕ) → AllByRecursion BudgetIsTwo (flat_map (frame_lines n seed) fs)
two-frames n seed [] = tt
two-frames n seed (f ∷ fs) =
    two-append (frame_lines n seed f) (flat_map (frame_lines n seed) fs)
    (two-frame n seed f (f % 10 == 0)) (two-frames n seed fs)

along-states : (n : ℕ) (walk : Walk) (lines : List Line) → AllByRecursion BudgetIsTwo lines → KeepsStates n walk →
    KeepsStates n (walk_along walk lines)
along-states n walk [] two keeps = keeps
along-states n walk (line ∷ lines) two keeps =
    along-states n (after_line line walk) lines two.1 (line-states n walk line two.0 keeps)

-- a walk along generated lines keeps the level, and budgets of at least 2
pub made-states : (n level seed : ℕ) (walk : Walk) → KeepsStates n walk →
    KeepsStates n (walk_along walk (made_lines level seed))
unfolding made_lines
made-states n level seed walk keeps =
    along-states n walk (made_lines level seed) (two-frames level seed (range_with_len 1 50)) keeps

-- lines that are accepted stop no walk
pub along-stop : (walk : Walk) (lines : List Line) → (walk_along walk lines).stop ≡ walk.stop
along-stop walk [] = refl
along-stop walk (line ∷ lines) = along-stop (after_line line walk) lines

-- what a line is read as, where the walk goes on
abbrev pub read_text : Walk → Result Line ScriptFault → Walk
read_text walk answer = elim answer as (λ _. Walk) [
  | Ok line ↦ after_line line walk
  | Err why ↦ refused_walk why walk
]

read-states : (n : ℕ) (walk : Walk) (answer : Result Line ScriptFault) →
    ((most : ℕ) → answer ≡ Ok (Budget most) → 2 ≤ most) → KeepsStates n walk → KeepsStates n (read_text walk answer)
read-states n walk (Ok line) two keeps = line-states n walk line (λ most is. two most (ap Ok is)) keeps
read-states n walk (Err why) two keeps = record { level = keeps.level; low = keeps.low; frames = keeps.frames }

-- a walk that has stopped stays so, and else it goes on with what the line is read as
abbrev pub stopped_text : Walk → List ℕ → Option Refusal → Walk
stopped_text walk bytes stop = elim stop as (λ _. Walk) [
  | Some refusal ↦ walk
  | None ↦ read_text walk (line_in (limits_of walk) bytes)
]

stopped-states : BudgetsAreTwo → (n : ℕ) (walk : Walk) (bytes : List ℕ) (stop : Option Refusal) → KeepsStates n walk →
    KeepsStates n (stopped_text walk bytes stop)
stopped-states two n walk bytes (Some refusal) keeps = keeps
stopped-states two n walk bytes None keeps =
    read-states n walk (line_in (limits_of walk) bytes) (λ most is. two (limits_of walk) bytes most is) keeps

walk_lines-states : BudgetsAreTwo → (n : ℕ) (walk : Walk) (lines : List (List ℕ)) → KeepsStates n walk →
    KeepsStates n (walk_lines walk lines)
walk_lines-states two n walk [] keeps = keeps
walk_lines-states two n walk (bytes ∷ lines) keeps =
    walk_lines-states two n (after_text walk bytes) lines (stopped-states two n walk bytes walk.stop keeps)

-- a walk keeps the level, and budgets of at least 2
pub walk_of-states : BudgetsAreTwo → (n : ℕ) (walk : Walk) (bytes : List ℕ) → KeepsStates n walk →
    KeepsStates n (walk_of walk bytes)
unfolding walk_of
walk_of-states two n walk bytes keeps = walk_lines-states two n walk (lines_of bytes) keeps

-- a walk that has stopped stays so
pub walk_lines-stopped : (walk : Walk) (refusal : Refusal) (lines : List (List ℕ)) → walk.stop ≡ Some refusal →
    walk_lines walk lines ≡ walk
walk_lines-stopped walk refusal [] stop = refl
walk_lines-stopped walk refusal (bytes ∷ lines) stop =
    ap (λ (w : Walk). walk_lines w lines) (ap (stopped_text walk bytes) stop)
    ∙ walk_lines-stopped walk refusal lines stop

-- frames that come behind those of a walk
abbrev pub GrowsBy : Walk → Walk → Type 0
GrowsBy old new = (more : List State) × (new.frames ≡ old.frames ++ more)

line-grows : (walk : Walk) (line : Line) → GrowsBy walk (after_line line walk)
line-grows walk line = (shown_by line walk.state, refl)

read-grows : (walk : Walk) (answer : Result Line ScriptFault) → GrowsBy walk (read_text walk answer)
read-grows walk (Ok line) = line-grows walk line
read-grows walk (Err why) = ([], sym (append-nil walk.frames))

stopped-grows : (walk : Walk) (bytes : List ℕ) (stop : Option Refusal) → GrowsBy walk (stopped_text walk bytes stop)
stopped-grows walk bytes (Some refusal) = ([], sym (append-nil walk.frames))
stopped-grows walk bytes None = read-grows walk (line_in (limits_of walk) bytes)

walk_lines-grows : (walk : Walk) (lines : List (List ℕ)) → GrowsBy walk (walk_lines walk lines)
walk_lines-grows walk [] = ([], sym (append-nil walk.frames))
walk_lines-grows walk (bytes ∷ lines) =
    let one : GrowsBy walk (after_text walk bytes) = stopped-grows walk bytes walk.stop in
    let two : GrowsBy (after_text walk bytes) (walk_lines (after_text walk bytes) lines) =
    walk_lines-grows (after_text walk bytes) lines in
    (one.0 ++ two.0, two.1 ∙ ap (λ (l : List State). l ++ two.0) one.1 ∙ append_assoc walk.frames one.0 two.0)

-- the frames of a walk come behind those of its beginning
pub walk_of-grows : (walk : Walk) (bytes : List ℕ) → GrowsBy walk (walk_of walk bytes)
unfolding walk_of
walk_of-grows walk bytes = walk_lines-grows walk (lines_of bytes)
