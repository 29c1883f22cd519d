-- A finest triangle has no error.
use Rattle.std.proofs.Common.{◌≤◌, sym, arith}
use Rattle.mesh_laws.proofs.DescentLemmas.{IsAddress-level}
use Rattle.fit_laws.proofs.ErrorLemmas.{error-finest}
use Rattle.fit_mesh.proofs.error.error.Goals as goal

pub returns-then-level-n : goal.returns-then-level-n
returns-then-level-n c =
    let low : 2 ≤ c.args.t = omega arith in
    let fits = c.requires.level in
    let above = c.if-level-n.true in
    let level = c.level.ensures.value in
    let side = c.n.ensures.value in
    sym (error-finest c.args.grid.now.n c.args.grid.now.heights c.args.t
    (IsAddress-level c.args.grid.now.n c.args.t low c.requires.level) (omega arith))
