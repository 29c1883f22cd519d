use Rattle.std.proofs.Common.{◌∙◌}
use Rattle.roam_embed.proofs.CertificateLemmas.{certificate-of}
use Rattle.roam_embed.proofs.certificate.certificate_at.Goals as goal

pub returns : goal.returns
returns c =
    certificate-of c.args.engine.now.state c.frame-note.new.self.state c.args.place c.cert_of_frame.result
    (c.frame-note.ensures.done.state ∙ c.in_ok-other.ensures.state) c.cert_of_frame.ensures
