use Rattle.std.proofs.Common.{◌∙◌, ap, Bool, List, ltb, w16}
use Rattle.std.specs.Simd.Lanes.{sel_l}
use Rattle.std.proofs.lemmas.Simd.{tops_compared}
use Rattle.roam_lanes.proofs.LaneLemmas.{sel-greater}
use Rattle.roam_lanes.proofs.lanes.greater.Goals as goal

pub returns : goal.returns
returns c =
    ap (λ (ms : List Bool). sel_l ms c.args.b c.args.a) (tops_compared w16 ltb c.args.a c.args.b)
    ∙ sel-greater c.args.a c.args.b
