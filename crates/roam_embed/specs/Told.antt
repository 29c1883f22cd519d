-- What is told of a frame and of an engine, against the notes and states of the engine.
-- All of it is this project's own.
-- Words: blocked_of, note_of, standing_of.
use Rattle.std.specs.Prelude.{ℕ, zero, suc, Option, None, Some, length}
use Rattle.bintree_addr.specs.declared.blocked.Blocked.{Blocked}
use Rattle.mesh_defs.specs.HeightField.{side_of}
use Rattle.frame_loop.specs.declared.note.FrameNote.{FrameNote}
use Rattle.frame_loop.specs.Engine.{EngineState}
use Rattle.roam_embed.specs.declared.notes.Frame.{Frame}
use Rattle.roam_embed.specs.declared.notes.Standing.{Standing}

-- what blocks, of a triangle and its need: nothing for triangle 0
abbrev pub blocked_of : ℕ → ℕ → Option Blocked
blocked_of zero need = None
blocked_of (suc t) need = Some (record { tri = suc t; need = need })

-- the note of a frame that is told by numbers alone
abbrev pub note_of : Frame → FrameNote
note_of f = record {
  triangles = f.triangles;
  vertices = f.vertices;
  worst = f.worst;
  splits = f.splits;
  merges = f.merges;
  blocked = blocked_of f.blocking f.need;
  inside = f.inside;
  cut = f.cut;
  outside = f.outside;
}

-- how an engine stands
abbrev pub standing_of : EngineState → Standing
standing_of e = record {
  side = side_of e.state.grid.n;
  way = e.odometer;
  evaluations = e.evaluations;
  frames = e.frames;
  most = e.most;
  budget = e.state.budget;
  planes = length e.state.view.planes;
}
