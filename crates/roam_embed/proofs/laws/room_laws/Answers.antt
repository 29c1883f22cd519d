-- Each clause is a lemma.
use Rattle.roam_embed.proofs.SizeLemmas.{vertices-few, border-few}
use Rattle.roam_embed.proofs.laws.room_laws.Goals as goal

pub returns-clause-vertices : goal.returns-clause-vertices
returns-clause-vertices c = vertices-few

pub returns-clause-border : goal.returns-clause-border
returns-clause-border c n leaves some = border-few n some leaves
