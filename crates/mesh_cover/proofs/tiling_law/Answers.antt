use Rattle.mesh_cover.proofs.NearLemmas.{tiles}
use Rattle.mesh_cover.proofs.tiling_law.Goals as goal

pub returns : goal.returns
returns c = tiles
