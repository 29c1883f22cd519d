use Rattle.std.proofs.Common.{⊎_elim, subst, sym, arith}
use Rattle.std.proofs.lemmas.Grind.{common_steps}
use Rattle.roam_embed.specs.Calls.{IsOpenAnswer}
use Rattle.roam_c.proofs.OpenLemmas.{open-memory}
use Rattle.roam_c.proofs.life.roam_open.Goals as goal

pub returns-in-Ok-clause-cause : goal.returns-in-Ok-clause-cause
returns-in-Ok-clause-cause c =
    let done = c.in-Ok.ensures.fits in (
      c.hold.result,
      first_of (cc, grind (arith, common_steps)),
      ⊎_elim
          (λ e. subst (IsOpenAnswer c.args.heights.now c.args.budget c.args.spacing) (sym e) done)
          (λ e. subst (IsOpenAnswer c.args.heights.now c.args.budget c.args.spacing) (sym e)
          (open-memory c.args.heights.now c.args.budget c.args.spacing done))
          c.hold.ensures.answer,
    )
