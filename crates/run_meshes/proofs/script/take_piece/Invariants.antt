use Rattle.std.proofs.Common.{◌+◌, ◌*◌, ◌≤◌, ◌++◌, ℕ, List, Ok, take, length}
use Rattle.run_laws.specs.Walk.{Walk}
use Rattle.run_words.specs.Words.{Show}
use Rattle.run_laws.specs.Act.{Sinks}
use Rattle.run_meshes.specs.StageView.{IsScriptStage, IsScriptAt}
use Rattle.run_meshes.specs.Taking.{OnlyTakes}
use Rattle.run_laws.specs.Maker.{Starts}
use Rattle.run_meshes.proofs.script.take_piece.Given as goal

-- the bytes so far were carried out
abbrev pub invariant-loop-byte : goal.invariant-loop-byte
invariant-loop-byte g l = record {
  carried : (before : Sinks) (show : Show) (start : Walk) (read : List ℕ) → Starts start
      → IsScriptAt before (g.O.Outside.moment l.fn.outside).sinks show
      (g.K.FrameMaker.follows l.fn.frames) start read l.fn.stage
      → IsScriptAt before (g.O.Outside.moment l.outside).sinks show (g.K.FrameMaker.follows l.frames) start
      (read ++ take l.byte-index l.piece) l.stage;
  ready : g.K.FrameMaker.is_ready l.frames l.stage.lines;
  stage : IsScriptStage l.stage;
  longer : 201 * l.fn.stage.lines + length l.fn.stage.part.items + l.byte-index
      ≤ 201 * l.stage.lines + length l.stage.part.items;
  same : g.O.Outside.is_same l.fn.outside l.outside;
  only : OnlyTakes {T = Unit {0}} (g.O.Outside.moment l.fn.outside) (g.O.Outside.moment l.outside) (Ok tt);
}
