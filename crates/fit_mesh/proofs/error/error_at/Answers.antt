-- The greatest of the distances is the error.
use Rattle.std.proofs.Common.{◌∙◌}
use Rattle.fit_mesh.proofs.ErrorLemmas.{error-greatest}
use Rattle.fit_mesh.proofs.error.error_at.Goals as goal

pub returns : goal.returns
returns c = c.off_triangle_at.ensures ∙ error-greatest c.args.grid.now.n c.args.grid.now.heights c.args.t
