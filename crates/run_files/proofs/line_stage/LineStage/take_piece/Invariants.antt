use Rattle.std.proofs.Common.{◌≡◌, ◌+◌, ◌*◌, ◌≤◌, ◌++◌, ℕ, List, take, length}
use Rattle.run_laws.specs.CertFile.{HaveCome}
use Rattle.run_laws.proofs.CertFileLemmas.{place}
use Rattle.run_files.specs.LineStage.{IsStage}
use Rattle.run_files.proofs.line_stage.LineStage.take_piece.Given as goal

-- the bytes so far were taken
abbrev pub invariant-loop-byte : goal.invariant-loop-byte
invariant-loop-byte g l = record {
  level : g.R.LineReader.level l.self.reader ≡ g.R.LineReader.level l.fn.self.reader;
  come : (read : List ℕ) → HaveCome (g.R.LineReader.step (g.R.LineReader.level l.fn.self.reader)) g.R.LineReader.start
      read (place (g.R.LineReader.said l.fn.self.reader) l.fn.self.lines l.fn.self.part.items)
      → HaveCome (g.R.LineReader.step (g.R.LineReader.level l.fn.self.reader)) g.R.LineReader.start
      (read ++ take l.byte-index l.piece) (place (g.R.LineReader.said l.self.reader) l.self.lines l.self.part.items);
  sound : IsStage (g.R.LineReader.Goes l.self.reader) (g.R.LineReader.count (g.R.LineReader.said l.self.reader))
      l.self.lines l.self.part.items;
  longer : 201 * l.fn.self.lines + length l.fn.self.part.items + l.byte-index
      ≤ 201 * l.self.lines + length l.self.part.items;
}
