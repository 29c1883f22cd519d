-- The two children, where one is a leaf that may be split.
use Rattle.std.proofs.Common.{ℕ, ◌*◌, ◌≤◌, ◌⊎◌, IsTrue, subst}
use Rattle.std.proofs.lemmas.Bool.{both_ways}
use Rattle.mesh_defs.specs.Triangle.{level_of}
use Rattle.mesh_laws.specs.Sweep.{is_flagged}
use Rattle.fit_laws.specs.Error.{error_of}
use Rattle.fit_laws.proofs.ErrorLemmas.{error-finest}
use Rattle.fit_mesh.proofs.PairLemmas.{all-split}
use Rattle.fit_mesh.proofs.PendingLemmas.{pair-added, pair-only}
use Rattle.fit_mesh.proofs.leaves.push_pair.Goals as goal

pub returns-clause-added : goal.returns-clause-added
returns-clause-added c =
    pair-added (error_of c.args.grid.now.n c.args.grid.now.heights) (is_flagged c.args.flags.now) c.args.t c.left.result c.right.result _ _
    c.left.ensures.value c.right.ensures.value
    c.push_unsplit.ensures.added c.push_unsplit-2.ensures.kept c.push_unsplit-2.ensures.added

pub returns-clause-only : goal.returns-clause-only
returns-clause-only c =
    pair-only c.args.grid.now.n (error_of c.args.grid.now.n c.args.grid.now.heights) c.args.t c.left.result
    c.right.result _ _ _ c.requires.splittable
    c.left.ensures.value c.right.ensures.value c.push_unsplit.ensures.only c.push_unsplit-2.ensures.only

pub returns-then-not-has_open_child-clause-added : goal.returns-then-not-has_open_child-clause-added
returns-then-not-has_open_child-clause-added c a low half lacks some =
    let n : ℕ = c.args.grid.now.n in
    absurd (both_ways (is_flagged c.args.flags.now a) lacks
    (all-split n (error_of n c.args.grid.now.heights) (is_flagged c.args.flags.now) c.args.t
    (error-finest n c.args.grid.now.heights) c.requires.splittable
    (λ b few two. subst (λ k. IsTrue (is_flagged c.args.flags.now b) ⊎ (2 * k ≤ level_of b)) c.n.ensures.value
    (c.has_open_child.ensures.none c.if-not-has_open_child.true b few two)) a low half some))
