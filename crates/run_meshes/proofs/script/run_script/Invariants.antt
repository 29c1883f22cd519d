use Rattle.std.proofs.Common.{◌≡◌, ◌+◌, ◌-◌, ◌*◌, ℕ, List, Some, false, length}
use Rattle.roam_edge.specs.Shelf.{NamedFile}
use Rattle.run_laws.specs.Walk.{Walk}
use Rattle.run_words.specs.Words.{Show}
use Rattle.run_meshes.specs.StageView.{IsScriptStage}
use Rattle.run_meshes.specs.Taking.{GoesOn}
use Rattle.run_laws.specs.Maker.{Begins}
use Rattle.run_meshes.proofs.EndLemmas.{IsCarried}
use Rattle.run_meshes.proofs.script.run_script.Given as goal

-- the bytes that were read were carried out, and nothing outside has failed
abbrev pub invariant-pieces : goal.invariant-pieces
invariant-pieces g l = record {
  carried : (show : Show) (start : Walk) → Begins show (g.K.FrameMaker.follows l.fn.frames) start → (bytes : List ℕ)
      × IsCarried (g.O.Outside.moment l.fn.outside).sinks (g.O.Outside.moment l.outside).sinks show
      (g.K.FrameMaker.follows l.frames) start l.stage
      (g.O.Outside.moment l.fn.outside).shelf.files (g.O.Outside.moment l.outside).shelf.rest l.name bytes;
  told_rest : (all : List NamedFile) → (g.O.Outside.moment l.fn.outside).shelf.files ≡ Some all
      → (unread : List ℕ) × ((g.O.Outside.moment l.outside).shelf.rest ≡ Some unread);
  ready : g.K.FrameMaker.is_ready l.frames l.stage.lines;
  stage : IsScriptStage l.stage;
  open_file : (g.O.Outside.moment l.outside).shelf.ended ≡ false;
  same : g.O.Outside.is_same l.fn.outside l.outside;
  goes_on : GoesOn (g.O.Outside.moment l.fn.outside) (g.O.Outside.moment l.outside);
}

-- each byte makes a line longer, or is the last of an accepted line
abbrev pub decreases-pieces : goal.decreases-pieces
decreases-pieces g l = 201 * 10000001 - (201 * l.stage.lines + length l.stage.part.items)
