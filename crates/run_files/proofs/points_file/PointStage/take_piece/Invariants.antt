use Rattle.std.proofs.Common.{◌≡◌, ◌+◌, ◌*◌, ◌≤◌, ◌++◌, ℕ, List, take, length}
use Rattle.run_laws.specs.PointFile.{HavePointsCome}
use Rattle.run_files.specs.PointStage.{point_place, IsPointStage}
use Rattle.run_files.proofs.points_file.PointStage.take_piece.Given as goal

-- the bytes so far were taken
abbrev pub invariant-loop-byte : goal.invariant-loop-byte
invariant-loop-byte l = record {
  n : l.self.n ≡ l.fn.self.n;
  come : (read : List ℕ) → HavePointsCome l.fn.self.n read (point_place l.fn.self)
      → HavePointsCome l.fn.self.n (read ++ take l.byte-index l.piece) (point_place l.self);
  sound : IsPointStage l.self;
  longer : 201 * l.fn.self.lines + length l.fn.self.part.items + l.byte-index
      ≤ 201 * l.self.lines + length l.self.part.items;
}
