-- The end of a generated run: all that it does is its line.
use Rattle.std.proofs.Common.{◌≡◌, ℕ, ◌+◌, ◌++◌, ◌⊎◌, ◌↔◌, false, true, IsTrue, IsSome, if◌then◌else◌, List, [], ◌∷◌}
use Rattle.std.proofs.Common.{length, Option, Some, None, option_map, refl, sym, ◌∙◌, ap, subst, arith, inl, inr}
use Rattle.std.proofs.lemmas.Bool.{false≢true}
use Rattle.roam_edge.specs.Shelf.{NamedFile}
use Rattle.roam_gen.specs.Generated.{made_lines}
use Rattle.frame_loop.specs.Engine.{EngineState}
use Rattle.run_laws.specs.declared.status.Status.{Status}
use Rattle.run_laws.specs.declared.status.Status.TheVariants as ends
use Rattle.run_laws.specs.Walk.{Refusal}
use Rattle.run_words.specs.Words.{as_sums, Generated}
use Rattle.run_laws.specs.Picture.{Picture}
use Rattle.run_laws.specs.ReportText.{all_triangles, worst_in, sums_line, try_line}
use Rattle.run_laws.specs.Act.{Act, ReportText, Sinks, Stands, IsCutShort}
use Rattle.run_laws.specs.Outcome.{Outcome, text_outcome, shown_acts, sum_acts, stop_acts, stop_status, frames_outcome}
use Rattle.run_laws.specs.Outcome.{engine_end, made_walk}
use Rattle.run_laws.specs.Promise.{ShelfState, is_complete, ends_script, may_end}
use Rattle.run_laws.proofs.WalkLemmas.{along-stop}
use Rattle.run_engine.specs.declared.generated.Sums.{Sums}
use Rattle.run_engine.specs.EngineSeen.{engine_seen}
use Rattle.run_laws.specs.Maker.{DoesAs}
use Rattle.run_laws.specs.Moment.{Moment}
use Rattle.run_laws.proofs.ActLemmas.{stands-nothing}
use Rattle.run_laws.proofs.RunLemmas.{OpensAt, opens-at, reads-nothing, reads-run}
use Rattle.run_laws.proofs.StatementLemmas.{ends-by-status}
use Rattle.run_laws.specs.Leaving.{CommandEnds, RunsCommand, TellsLast}
use Rattle.run_engine.specs.SumView.{made_start, IsSumOf, SumsUp}
use Rattle.roam_run.proofs.LeftLemmas.{followed-end, left-seen}

no-acts : (n seed k : ℕ) (ps : List Picture) → shown_acts (as_sums n seed) k ps ≡ []
no-acts n seed k [] = refl
no-acts n seed k (p ∷ ps) = no-acts n seed (k + 1) ps

goes-on : (n seed : ℕ) → (made_walk n seed).stop ≡ None
goes-on n seed = along-stop (made_start n seed) (made_lines n seed)

-- all that it does is its line
made-acts : (n seed : ℕ) (ps : List Picture)
    → (frames_outcome (as_sums n seed) 0 (made_walk n seed) ps).acts ≡ ReportText (try_line n seed ps) ∷ []
made-acts n seed ps =
    let tail : List Act = sum_acts (as_sums n seed) ps ++ stop_acts (made_walk n seed).stop in
    ap (λ (l : List Act). l ++ tail) (no-acts n seed 1 ps)
    ∙ ap (λ (s : Option Refusal). sum_acts (as_sums n seed) ps ++ stop_acts s) (goes-on n seed)

-- the line of these sums is that of the pictures
pub sums-text : (n seed : ℕ) (ps : List Picture) (sums : Sums) (text : List ℕ) → IsSumOf ps sums
    → text ≡ sums_line n seed sums.frames sums.triangles sums.worst sums.blocked → text ≡ try_line n seed ps
sums-text n seed ps sums text are is =
    is ∙ (ap (λ (k : ℕ). sums_line n seed k sums.triangles sums.worst sums.blocked) are.frames
    ∙ (ap (λ (k : ℕ). sums_line n seed (length ps) k sums.worst sums.blocked) are.triangles
    ∙ (ap (λ (k : ℕ). sums_line n seed (length ps) (all_triangles ps) k sums.blocked) are.worst
    ∙ ap (λ (k : ℕ). sums_line n seed (length ps) (all_triangles ps) (worst_in ps) k) are.blocked)))

-- where it was carried out its engine is left
left-by : (n seed : ℕ) (sums : Sums) (engine : EngineState) (left : Option EngineState) (status : Status)
    (all : SumsUp n seed sums engine)
    → (status ≡ ends.Done) ⊎ (status ≡ ends.WriteFault) → left ≡ (if ends_script status then Some engine else None) →
    IsTrue (is_complete status)
    → option_map engine_seen left ≡ Some (engine_end (made_walk n seed) all.pictures)
left-by n seed sums engine left status all (inl done) is e =
    let P : Status → Type 0 = λ s. left ≡ (if ends_script s then Some engine else None) in
    ap (option_map engine_seen) (subst P done is)
    ∙ ap Some (followed-end (made_walk n seed) all.pictures engine all.followed)
left-by n seed sums engine left status all (inr failed) is e =
    let P : Status → Type 0 = λ s. is_complete s ≡ true in
    absurd (false≢true (subst P failed e))

-- the line of its sums ends it
pub made-ends : (before now : Sinks) (shelf : ShelfState) (n seed : ℕ) (sums : Sums) (engine : EngineState)
    (left : Option EngineState) (files : List NamedFile)
    (text : List ℕ) (status : Status) → SumsUp n seed sums engine →
    text ≡ sums_line n seed sums.frames sums.triangles sums.worst sums.blocked
    → (status ≡ ends.Done) ⊎ (status ≡ ends.WriteFault) → left ≡ (if ends_script status then Some engine else None)
    → DoesAs before now (text_outcome text ends.Done 0) status →
    CommandEnds before now shelf shelf (Generated n seed) files status (option_map engine_seen left)
made-ends before now shelf n seed sums engine left files text status all is either by does =
    let end : Outcome = frames_outcome (as_sums n seed) 0 (made_walk n seed) all.pictures in
    let same : ReportText text ∷ [] ≡ end.acts =
    ap (λ (t : List ℕ). ReportText t ∷ []) (sums-text n seed all.pictures sums text all.summed is)
    ∙ sym (made-acts n seed all.pictures) in
    let P : List Act → Type 0 = λ l. Stands before now l in
    let Q : List Act → Type 0 = λ l. IsCutShort before now l in
    record {
      ends = λ m r. (
        end,
        (all.pictures, all.shown, refl),
        record {
          opened = omega arith;
          complete = λ e. (let c = does.complete e in (subst P same c.0, c.1 ∙ sym (ap stop_status (goes-on n seed))));
          cut_short = λ e. subst Q same (does.cut_short e);
        },
        left-by n seed sums engine left status all either by,
      );
    }

-- a generated run was carried out
pub made-runs : (before now : Moment) (n seed : ℕ) (sums : Sums) (engine : EngineState) (left : Option EngineState)
    (text : List ℕ) (status : Status)
    → SumsUp n seed sums engine →
    text ≡ sums_line n seed sums.frames sums.triangles sums.worst sums.blocked
    → left ≡ (if ends_script status then Some engine else None) → (IsSome left ↔ IsTrue (ends_script status))
    → TellsLast before now text ends.Done status →
    RunsCommand before now (Some (Generated n seed)) status (option_map engine_seen left)
made-runs before now n seed sums engine left text status all is by some tells =
    let P : ShelfState → Type 0 = λ shelf. (files : List NamedFile)
    → CommandEnds before.sinks now.sinks before.shelf shelf (Generated n seed) files status
    (option_map engine_seen left) in
    let opened : now.shelf.opens ≡ before.shelf.opens = ap (λ (shelf : ShelfState). shelf.opens) tells.shelf in
    record {
      ends = ends-by-status before now (Generated n seed) status (option_map engine_seen left)
          (λ files are. subst P (sym tells.shelf) (λ other.
          made-ends before.sinks now.sinks before.shelf n seed sums engine left other text status all is tells.ends by
          (tells.does 0)) files)
          (λ e. absurd (not-read tells.ends e))
          (λ e. absurd (not-memory tells.ends e));
      leaves = record {
        files = ap (λ (shelf : ShelfState). shelf.files) tells.shelf;
        idle = λ not. tells.idle not;
        no_mesh = λ text_alone. tells.no_mesh refl;
        opens = opens-at before.shelf.opens now.shelf.opens 0 status (at opened tells.ends)
            (omega (arith, opened)) (omega (arith, opened));
        read_out = λ e none. absurd (omega (arith, none));
        engine = left-seen left (IsTrue (ends_script status)) some;
        shelf_in_time = λ not_late none. tells.shelf_late ∙ not_late;
        meshes_in_time = tells.meshes_in_time;
        report_in_time = tells.report_in_time;
      };
      allowed = allowed tells.ends;
      causes = record {
        read = λ e. absurd (not-read tells.ends e);
        not_read = λ not. tells.shelf_faults;
        writes = tells.writes;
      };
    }
  where
    not-read : (status ≡ ends.Done) ⊎ (status ≡ ends.WriteFault) → status ≡ ends.ReadFault → ⊥
    not-read (inl a) e = cc
    not-read (inr a) e = cc

    not-memory : (status ≡ ends.Done) ⊎ (status ≡ ends.WriteFault) → status ≡ ends.NoMemory → ⊥
    not-memory (inl a) e = cc
    not-memory (inr a) e = cc

    At : Status → Type 0
    At one = OpensAt before.shelf.opens now.shelf.opens 0 one

    at : now.shelf.opens ≡ before.shelf.opens → (status ≡ ends.Done) ⊎ (status ≡ ends.WriteFault) → At status
    at same (inl e) = let all : At ends.Done = omega (arith, same) in subst At (sym e) all
    at same (inr e) =
        let none : At ends.WriteFault = λ some. absurd (omega (arith, some)) in
        subst At (sym e) none

    allowed : (status ≡ ends.Done) ⊎ (status ≡ ends.WriteFault) → IsTrue (may_end (Some (Generated n seed)) status)
    allowed (inl a) = subst (λ (s : Status). IsTrue (may_end (Some (Generated n seed)) s)) (sym a) refl
    allowed (inr a) = subst (λ (s : Status). IsTrue (may_end (Some (Generated n seed)) s)) (sym a) refl

-- memory ran out in one
pub unmade-runs : (now : Moment) (n seed : ℕ) →
    RunsCommand now now (Some (Generated n seed)) ends.NoMemory None
unmade-runs now n seed =
    reads-run now now (Some (Generated n seed)) ends.NoMemory (reads-nothing now)
    (λ not_late none. not_late) (λ e. cc) (λ e. cc)
    (ends-by-status now now (Generated n seed) ends.NoMemory None
    (λ files are. record { ends = λ m r. absurd (m refl) })
    (λ e. cc)
    (λ e. record {
      opened = 0;
      count = omega arith;
      least = λ some. absurd (omega (arith, some));
      most = omega arith;
      stands = stands-nothing now.sinks;
      header = λ name job files same. cc;
      in_order = λ name job files same. cc;
    }))
    (opens-at now.shelf.opens now.shelf.opens 0 ends.NoMemory tt (omega arith) (omega arith))
    refl refl (λ e. cc) (λ not. refl)
