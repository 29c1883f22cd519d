use Rattle.roam_embed.proofs.CertificateLemmas.{text-of}
use Rattle.roam_embed.proofs.certificate.text_at.Goals as goal

pub returns : goal.returns
returns c =
    text-of (λ text. text.items) c.args.engine.now.state c.args.place c.in_ok-cert.cert c.text_of.result
    c.in_ok-cert.ensures c.text_of.ensures
