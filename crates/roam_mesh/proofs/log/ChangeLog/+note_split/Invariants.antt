use Rattle.std.proofs.Common.{length}
use Rattle.roam_mesh.proofs.log.ChangeLog.+note_split.Given as goal

abbrev pub decreases-note_split : goal.decreases-note_split
decreases-note_split l = length l.answers.now
