use Rattle.std.proofs.Common.{◌∙◌, ap, Bool, List, ltb, w16}
use Rattle.std.specs.Simd.Lanes.{sel_l}
use Rattle.std.proofs.lemmas.Simd.{tops_compared}
use Rattle.roam_lanes.proofs.LaneLemmas.{sel-lesser}
use Rattle.roam_lanes.proofs.lanes.lesser.Goals as goal

pub returns : goal.returns
returns c =
    ap (λ (ms : List Bool). sel_l ms c.args.a c.args.b) (tops_compared w16 ltb c.args.a c.args.b)
    ∙ sel-lesser c.args.a c.args.b
