-- How large the counts of a frame are, and that a frame that makes no step leaves the set as it is.
use Rattle.std.proofs.Common.{◌≡◌, ℕ, ◌+◌, ◌*◌, ◌^◌, ◌<◌, ◌≤◌, List, length, refl, sym, ◌∙◌, ap, arith}
use Rattle.std.specs.List.{range_with_len}
use Rattle.std.proofs.lemmas.List.FromFn.{length-range_with_len}
use Rattle.std.proofs.Math.Pow.{pow_mono}
use Rattle.mesh_defs.specs.Triangle.{IsAddress}
use Rattle.mesh_defs.specs.ClosedSet.{leaves_of, among}
use Rattle.mesh_defs.specs.GridSet.{IsGridSet}
use Rattle.mesh_defs.proofs.ListLemmas.{among-in}
use Rattle.mesh_laws.proofs.RankingLemmas.{ranking_of, IsRanking-of}
use Rattle.mesh_laws.proofs.ExistenceLemmas.{rank_closure_of}
use Rattle.mesh_laws.proofs.SetListLemmas.{length-less}
use Rattle.mesh_laws.specs.Steps.{IsSplitStep, StepRun, begin, split, merge}
use Rattle.mesh_laws.specs.Deferred.{leaf, member, DeferredFrame, IsOpen, due_entry, open_leaf, open_member}
use Rattle.mesh_laws.specs.Stamps.{Readings}
use Rattle.mesh_laws.proofs.KeyLemmas.{IsAddress-entry}
use Rattle.mesh_laws.proofs.RunLemmas.{split_keeps, split_member, split_leaf_outside, merge_shorter, run_set}
use Rattle.deferred_loop.specs.Choice.{Priorities}
use Rattle.deferred_loop.specs.Seen.{SeenMesh}
use Rattle.deferred_loop.specs.Promise.{frame_of, IsAtMost}
use Rattle.mesh_laws.proofs.SetListLemmas.{in-range}
use Rattle.mesh_laws.specs.Slots.{split_set, IsPool}
use Rattle.mesh_laws.proofs.SlotLemmas.{leaves-split_list}
use Rattle.triangle_pool.specs.Slots.{PoolState}
use Rattle.roam_mesh.specs.Mesh.{pool_members}

-- a split adds a member
split_longer : (n budget : ℕ) (priority : ℕ → ℕ) (before after : List ℕ) → IsGridSet n before →
    IsSplitStep n budget priority before after → length before < length after
split_longer n budget priority before after set step =
    length-less before after step.leaf set.ascending step.forced.ascending
    (split_keeps n budget priority before after step)
    (split_member n budget priority before after step) (split_leaf_outside n budget priority before after set step)

-- a run that adds nothing and takes nothing away ends where it begins
pub run_still : (n budget : ℕ) (priority : ℕ → ℕ) (start last : List ℕ) (added removed : ℕ) → IsGridSet n start →
    StepRun n budget priority start last added removed → added ≡ 0 → removed ≡ 0 → last ≡ start
run_still n budget priority start last added removed set begin no_split no_merge = refl
run_still n budget priority start _ added removed set (split before after a r run step) no_split no_merge =
    let longer =
    split_longer n budget priority before after (run_set n budget priority start before a r set run) step in
    absurd (omega arith)
run_still n budget priority start _ added removed set (merge before after a r run step) no_split no_merge =
    let shorter =
    merge_shorter n budget priority before after (run_set n budget priority start before a r set run) step in
    absurd (omega arith)

-- what is open is a triangle of the grid
open_address : (w : DeferredFrame) (a : ℕ) → IsGridSet w.n w.start → IsOpen w a → IsAddress w.n a
open_address w a set (due_entry entry due) = IsAddress-entry w.n w.start a set entry
open_address w a set (open_leaf there due straddles) = IsAddress-entry w.n w.start a set (leaf there)
open_address w a set (open_member can due straddles) = IsAddress-entry w.n w.start a set (member can)

-- A frame asks at most twice for each triangle of the greatest grid, and six times for each that it splits or merges.
pub few_asked : (priorities : Priorities) (readings : Readings) (odometer : ℕ) (s : SeenMesh)
    (budget steps count more : ℕ) →
    IsGridSet s.set.n s.set.members → 2 ≤ budget → IsAtMost priorities readings odometer s budget steps count more →
    more ≤ count + 2 ^ 31 + 6 * steps
few_asked priorities readings odometer s budget steps count more set low most =
    let n = s.set.n in
    let ranking = ranking_of n priorities.of in
    let ranked = IsRanking-of n priorities.of in
    let closure = rank_closure_of n budget priorities.of ranking ranked low in
    let small = set.n_high in
    let all : 2 ^ (2 * n + 2) ≤ 2 ^ 30 = pow_mono (let h : 2 * n + 2 ≤ 30 = omega arith in h) in
    let bound = most ranking closure.0 closure.1 (range_with_len 0 (2 ^ (2 * n + 2))) ranked closure.2
    (λ a open_one.
    let address = open_address (frame_of priorities readings odometer s budget ranking closure.0 closure.1) a set
    open_one in
    let high = address.high in
    among-in a (range_with_len 0 (2 ^ (2 * n + 2))) (in-range 0 (2 ^ (2 * n + 2)) a (omega arith) (omega arith))) in
    let count_all = length-range_with_len 0 (2 ^ (2 * n + 2)) in
    omega arith

-- pools with the same members have the same leaves
pub same_members_leaves : (pool other : PoolState) → IsPool pool.n pool.pairs → IsPool other.n other.pairs →
    other.n ≡ pool.n → pool_members other ≡ pool_members pool →
    leaves_of other.n (split_set other.pairs) ≡ leaves_of pool.n (split_set pool.pairs)
same_members_leaves pool other is more n same =
    sym (leaves-split_list other.n other.pairs more) ∙ ap (λ k. leaves_of k (among (pool_members other))) n
    ∙ ap (λ m. leaves_of pool.n (among m)) same ∙ leaves-split_list pool.n pool.pairs is
