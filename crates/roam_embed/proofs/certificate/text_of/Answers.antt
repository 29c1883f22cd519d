use Rattle.std.proofs.Common.{ℕ, List, [], Option, Some, unwrap_or, ap}
use Rattle.roam_embed.proofs.certificate.text_of.Goals as goal

pub returns-in-Ok : goal.returns-in-Ok
returns-in-Ok c =
    ap (λ (o : Option (List ℕ)). unwrap_or o []) (c.in-Ok.ensures.bytes.ok [] (ap Some c.new-sink.ensures))
