use Rattle.std.proofs.Common.{refl}
use Rattle.page_priority.specs.Scene.{loaded_in}
use Rattle.page_priority.proofs.PartLemmas.{loaded_priority-by_parts}
use Rattle.page_priority.proofs.scene.LoadedScene.rank.Goals as goal

pub returns-in-Some-clause-value : goal.returns-in-Some-clause-value
returns-in-Some-clause-value c =
    let is = c.in-Some.ensures in
    loaded_priority-by_parts (loaded_in c.args.self.now) c.args.t c.rank.result.p _ _ _ _ (is.opened.0 refl)
    c.rank.ensures.value is.threshold is.mark is.thickness is.distance
