use Rattle.std.proofs.Common.{length}
use Rattle.roam_mesh.proofs.parts.Parts.+push_born.Given as goal

abbrev pub decreases-push_born : goal.decreases-push_born
decreases-push_born l = length l.answers.now
