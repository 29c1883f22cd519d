use Rattle.roam_embed.proofs.DrawnLemmas.{all-drawn}
use Rattle.roam_embed.proofs.laws.compact_laws.Goals as goal

pub returns : goal.returns
returns c = all-drawn
