-- The level of 2 and of 3 is that of a base triangle.
use Rattle.std.proofs.Common.{◌≡◌, ◌∙◌, ap, rules}
use Rattle.mesh_defs.specs.Triangle.{level_of}
use Rattle.bintree_laws.proofs.LevelLemmas.{level_of-root}
use Rattle.strip_order.proofs.order.half.Goals as goal

pub returns-clause-level : goal.returns-clause-level
returns-clause-level c =
    let value : c.unwrap.result ≡ c.args.number = search rules in
    ap level_of value ∙ level_of-root c.args.number c.requires.low c.requires.high
