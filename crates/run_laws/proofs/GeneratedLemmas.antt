-- Generated runs whose budget has room for all finest triangles: nothing blocks.
use Rattle.std.proofs.Common.{◌≡◌, ℕ, ◌+◌, ◌*◌, ◌^◌, ◌≤◌, max, Bool, true, false, if◌then◌else◌, IsTrue, is_some, List}
use Rattle.std.proofs.Common.{[], ◌∷◌, ◌++◌, All, Option, None, Some, IsNone, refl, sym, ◌∙◌, ap, subst, arith, lit<}
use Rattle.std.proofs.Common.{append_assoc}
use Rattle.std.specs.Prelude.{◌==◌, ◌%◌, length, codes, decimal}
use Rattle.std.specs.List.{AllByRecursion, flat_map, range_with_len}
use Rattle.std.proofs.Math.Pow.{pow_mono}
use Rattle.std.proofs.lemmas.List.Elements.{recursion_from_All}
use Rattle.std.proofs.lemmas.Fmt.{decimal_digit}
use Rattle.std.proofs.lemmas.Option.{slice_get_within}
use Rattle.mesh_defs.specs.ClosedSet.{among}
use Rattle.mesh_defs.specs.State.{State, start_state, priority_in}
use Rattle.bintree_addr.specs.declared.blocked.Blocked.{Blocked}
use Rattle.mesh_laws.specs.Frame.{IsFrame}
use Rattle.mesh_laws.proofs.LeafLemmas.{four-power, leaves-most}
use Rattle.roam_script.specs.declared.line.Line.{Line}
use Rattle.roam_script.specs.declared.line.Line.TheVariants.{Blank, Camera, Set, Plane, NoPlanes, Budget, Raise, Frame}
use Rattle.roam_gen.specs.Generated.{made_grid, made_lines, frame_lines, camera_line, edit_line}
use Rattle.run_laws.specs.Walk.{Walk, start_walk, after_line, walk_along}
use Rattle.run_words.specs.Words.{as_sums, Command}
use Rattle.run_laws.specs.Act.{Act, ReportText}
use Rattle.run_laws.specs.Picture.{Picture, ArePictures, IsCertified}
use Rattle.run_laws.specs.ReportText.{all_triangles, worst_in, count_blocked, sums_line, try_line}
use Rattle.run_laws.specs.Outcome.{Outcome, shown_acts, stop_acts, stop_status, engine_end, made_budget, made_spacing}
use Rattle.run_laws.specs.Outcome.{made_walk, IsFramesOutcome, IsOutcome}
use Rattle.run_laws.specs.Laws.{PicturesAreCertified}
use Rattle.run_laws.specs.GeneratedLaws.{HasRoomForAll, unblocked_end, LowLevelsAreUnblocked}
use Rattle.run_laws.proofs.OutcomeLemmas.{made_grid-level}
use Rattle.run_laws.proofs.WalkLemmas.{along-stop}

-- The generated lines set no budget.

room-append : (xs ys : List State) → AllByRecursion HasRoomForAll xs → AllByRecursion HasRoomForAll ys →
    AllByRecursion HasRoomForAll (xs ++ ys)
room-append [] ys f g = g
room-append (x ∷ xs) ys f g = (f.0, room-append xs ys f.1 g)

abbrev SetsNoBudget : Line → Type 0
SetsNoBudget line = (most : ℕ) → line ≡ Budget most → ⊥

-- the state of a walk and those of its frames have room
record KeepsRoom (walk : Walk) : Type 0 where
  pub here : HasRoomForAll walk.state
  pub frames : AllByRecursion HasRoomForAll walk.frames

line-room : (walk : Walk) (line : Line) → SetsNoBudget line → KeepsRoom walk → KeepsRoom (after_line line walk)
line-room walk Blank none keeps = record { here = keeps.here; frames = room-append walk.frames [] keeps.frames tt }
line-room walk (Camera i j k) none keeps = record {
  here = keeps.here;
  frames = room-append walk.frames [] keeps.frames tt;
}
line-room walk (Set x y h) none keeps = record {
  here = keeps.here;
  frames = room-append walk.frames [] keeps.frames tt;
}
line-room walk Frame none keeps = record {
  here = keeps.here;
  frames = room-append walk.frames (walk.state ∷ []) keeps.frames (keeps.here, tt);
}
line-room walk (Plane i j k l) none keeps = record {
  here = keeps.here;
  frames = room-append walk.frames [] keeps.frames tt;
}
line-room walk NoPlanes none keeps = record { here = keeps.here; frames = room-append walk.frames [] keeps.frames tt }
line-room walk (Budget most) none keeps = absurd (none most refl)
line-room walk (Raise i j k l dz) none keeps = record {
  here = keeps.here;
  frames = room-append walk.frames [] keeps.frames tt;
}

along-room : (walk : Walk) (lines : List Line) → AllByRecursion SetsNoBudget lines → KeepsRoom walk →
    KeepsRoom (walk_along walk lines)
along-room walk [] none keeps = keeps
along-room walk (line ∷ lines) none keeps =
    along-room (after_line line walk) lines none.1 (line-room walk line none.0 keeps)

none-append : (xs ys : List Line) → AllByRecursion SetsNoBudget xs → AllByRecursion SetsNoBudget ys →
    AllByRecursion SetsNoBudget (xs ++ ys)
none-append [] ys f g = g
none-append (x ∷ xs) ys f g = (f.0, none-append xs ys f.1 g)

-- the lines of a generated frame, whether one sets a height or not
none-frame : (n seed f : ℕ) (tenth : Bool)
    → AllByRecursion SetsNoBudget ((camera_line n f ∷ [])
    ++ (if tenth then edit_line n seed f ∷ [] else []) ++ Frame ∷ [])
none-frame n seed f true = ((λ most e. cc), ((λ most e. cc), ((λ most e. cc), tt)))
none-frame n seed f false = ((λ most e. cc), ((λ most e. cc), tt))

none-frames : (n seed : ℕ) (fs : List ℕ) → AllByRecursion SetsNoBudget (flat_map (frame_lines n seed) fs)
none-frames n seed [] = tt
none-frames n seed (f ∷ fs) =
    none-append (frame_lines n seed f) (flat_map (frame_lines n seed) fs)
    (none-frame n seed f (f % 10 == 0)) (none-frames n seed fs)

made-room : (n seed : ℕ) → 2 * 4 ^ n ≤ made_budget → AllByRecursion HasRoomForAll (made_walk n seed).frames
unfolding made_lines
made-room n seed fits =
    let P : ℕ → Type 0 = λ k. 2 * 4 ^ k ≤ made_budget in
    (along-room (start_walk made_budget (start_state (made_grid n seed) made_spacing made_budget)) (made_lines n seed)
    (none-frames n seed (range_with_len 1 50)) (record {
      here = subst P (sym (made_grid-level n seed)) fits;
      frames = tt;
    })).frames

-- Where there is room, nothing blocks.

frame-unblocked : (n budget : ℕ) (priority : ℕ → ℕ) (has : ℕ → Bool) (worst : ℕ) (blocked : Option Blocked) →
    2 * 4 ^ n ≤ budget
    → IsFrame n budget priority has worst blocked → blocked ≡ None
frame-unblocked n budget priority has worst None fits f = refl
frame-unblocked n budget priority has worst (Some b) fits f =
    let by = f.blocking b refl in
    let within = slice_get_within f.ranking f.chosen b.tri by.next in
    let over = f.closure.longest (f.chosen + 1) by.counted.0 (omega arith) (omega (arith, within)) by.counted.1 in
    let most = leaves-most n by.counted.0 in
    absurd (omega (arith, over, most, fits))

abbrev IsUnblocked : Picture → Type 0
IsUnblocked picture = picture.blocked ≡ None

pictures-unblocked : (n seed : ℕ) (before : List ℕ) (states : List State) (ps : List Picture) →
    AllByRecursion HasRoomForAll states
    → ArePictures (as_sums n seed) before states ps → AllByRecursion IsUnblocked ps
pictures-unblocked n seed before [] [] room are = tt
pictures-unblocked n seed before [] (p ∷ ps) room are = absurd are
pictures-unblocked n seed before (s ∷ states) [] room are = absurd are
pictures-unblocked n seed before (s ∷ states) (p ∷ ps) room are = (
  frame-unblocked s.grid.n s.budget (priority_in s) (among p.members) p.worst p.blocked room.0 are.0.frame,
  pictures-unblocked n seed p.members states ps room.1 are.1,
)

none-is : {A : Type 0} (x : Option A) → x ≡ None → IsNone x
none-is None e = refl
none-is (Some a) e = cc

worst-zero : (ps : List Picture) → AllByRecursion IsCertified ps → AllByRecursion IsUnblocked ps → worst_in ps ≡ 0
worst-zero [] all none = refl
worst-zero (p ∷ ps) all none =
    let here : p.worst ≡ 0 = all.0.unblocked.0 (none-is p.blocked none.0) in
    ap (λ w. max w (worst_in ps)) here ∙ ap (λ w. max 0 w) (worst-zero ps all.1 none.1)

count-zero : (ps : List Picture) → AllByRecursion IsUnblocked ps → count_blocked ps ≡ 0
count-zero [] none = refl
count-zero (p ∷ ps) none = rw none.0 (count-zero ps none.1)

-- The line.

gathered : (a b c d e f g h i j k l m : List ℕ) → a ++ b ++ c ++ d ++ e ++ f ++ g ++ h ++ i ++ j ++ k ++ l ++ m
    ≡ (a ++ b ++ c ++ d ++ e ++ f ++ g ++ h) ++ (i ++ j ++ k ++ l ++ m)
gathered a b c d e f g h i j k l m = simp append_assoc

-- what a line of sums begins with
abbrev sums_begun : (n seed frames triangles : ℕ) → List ℕ
sums_begun n seed frames triangles =
    codes "try " ++ decimal n ++ codes " " ++ decimal seed ++ codes " frames " ++ decimal frames
    ++ codes " triangles " ++ decimal triangles

abbrev sums_end : List ℕ
sums_end = codes " worst " ++ decimal 0 ++ codes " blocked " ++ decimal 0 ++ codes "\n"

sums_end-is : sums_end ≡ unblocked_end
sums_end-is = ap (λ d. codes " worst " ++ d ++ codes " blocked " ++ d ++ codes "\n") (decimal_digit 0 (lit< tt))

line-end : (n seed frames triangles : ℕ) →
    sums_line n seed frames triangles 0 0 ≡ sums_begun n seed frames triangles ++ unblocked_end
line-end n seed frames triangles =
    gathered (codes "try ") (decimal n) (codes " ") (decimal seed) (codes " frames ")
    (decimal frames) (codes " triangles ")
    (decimal triangles) (codes " worst ") (decimal 0) (codes " blocked ") (decimal 0) (codes "\n")
    ∙ ap (λ l. sums_begun n seed frames triangles ++ l) sums_end-is

try_line-end : (n seed : ℕ) (ps : List Picture) → worst_in ps ≡ 0 → count_blocked ps ≡ 0
    → try_line n seed ps ≡ sums_begun n seed (length ps) (all_triangles ps) ++ unblocked_end
try_line-end n seed ps worst none =
    ap (λ w. sums_line n seed (length ps) (all_triangles ps) w (count_blocked ps)) worst
    ∙ ap (λ b. sums_line n seed (length ps) (all_triangles ps) 0 b) none
    ∙ line-end n seed (length ps) (all_triangles ps)

-- sums show no frame
sums-nothing : (n seed k : ℕ) (ps : List Picture) → shown_acts (as_sums n seed) k ps ≡ []
sums-nothing n seed k [] = refl
sums-nothing n seed k (p ∷ ps) = sums-nothing n seed (k + 1) ps

room-for : (n : ℕ) → n ≤ 6 → 2 * 4 ^ n ≤ made_budget
room-for n low =
    let double : 2 * n ≤ 12 = omega arith in
    let p : 2 ^ (2 * n) ≤ 2 ^ 12 = pow_mono double in
    let e = four-power n in
    omega (arith, p, e)

-- up to level 6 a generated run ends with Done, and its line ends with worst 0 and nothing that blocks
pub low-unblocked : PicturesAreCertified → LowLevelsAreUnblocked
low-unblocked certified words files n seed end is low outcome =
    let P : Option Command → Type 0 = λ c. IsOutcome c files end in
    let shown : IsFramesOutcome (as_sums n seed) 0 (made_walk n seed) end = subst P is outcome in
    let ps : List Picture = shown.0 in
    let walk : Walk = made_walk n seed in
    let engine : end.engine ≡ Some (engine_end walk ps) = ap (λ (o : Outcome). o.engine) shown.2 in
    let some : IsTrue (is_some end.engine) = rw engine refl in
    let all : AllByRecursion IsCertified ps =
    recursion_from_All IsCertified ps
    (subst (λ (o : Outcome). All IsCertified o.pictures) shown.2 (certified words files end some outcome)) in
    let none : AllByRecursion IsUnblocked ps =
    pictures-unblocked n seed [] walk.frames ps (made-room n seed (room-for n low)) shown.1 in
    let stop : walk.stop ≡ None =
    along-stop (start_walk made_budget (start_state (made_grid n seed) made_spacing made_budget)) (made_lines n seed) in
    let line : List ℕ = try_line n seed ps in (
      ap (λ (o : Outcome). o.status) shown.2 ∙ ap stop_status stop,
      sums_begun n seed (length ps) (all_triangles ps),
      ap (λ (o : Outcome). o.acts) shown.2
          ∙ ap (λ (l : List Act). l ++ (ReportText line ∷ stop_acts walk.stop)) (sums-nothing n seed 1 ps)
          ∙ ap (λ s. ReportText line ∷ stop_acts s) stop
          ∙ ap (λ l. ReportText l ∷ []) (try_line-end n seed ps (worst-zero ps all none) (count-zero ps none)),
    )
