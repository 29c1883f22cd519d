use Rattle.view_mesh.proofs.StillLemmas.{IsAdvanced-still, same_asked, spared}
use Rattle.view_mesh.proofs.laws.still_laws.Goals as goal

pub returns : goal.returns
returns c = record { frame = IsAdvanced-still; asked = same_asked; spares = spared }
