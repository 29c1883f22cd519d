use Rattle.std.proofs.Common.{ℕ, ◌≤◌, sym, subst}
use Rattle.roam_gen.proofs.OctaveLemmas.{width-whole, width-small}
use Rattle.roam_gen.proofs.octave.width_of.Goals as goal

pub returns-clause-small : goal.returns-clause-small
returns-clause-small c =
    subst (λ (v : ℕ). v ≤ 2048) (sym (width-whole c.args.k c.requires)) (width-small c.args.k c.requires)
