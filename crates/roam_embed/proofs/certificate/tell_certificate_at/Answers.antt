use Rattle.std.proofs.Common.{◌≤◌, rules, sym, ap, subst, arith}
use Rattle.mesh_defs.specs.HeightField.{HeightField}
use Rattle.mesh_defs.specs.BoundingBox.{CameraAt}
use Rattle.view_priority.specs.Camera.{IsCamera}
use Rattle.roam_embed.specs.Certificates.{IsCertificateText}
use Rattle.roam_embed.proofs.CertificateLemmas.{told-done, told-no_room}
use Rattle.roam_embed.proofs.certificate.tell_certificate_at.Goals as goal

pub returns-then-put_text : goal.returns-then-put_text
returns-then-put_text c =
    let state = c.args.engine.now.state in
    let place : CameraAt = c.args.place in
    let camera : IsCamera place = search rules in
    let shown : IsCertificateText state place c.deref.result.now =
    subst (IsCertificateText state place) (sym c.deref.ensures.value) c.in-Ok.ensures in
    let yes = c.if-put_text.true in
    told-done state place c.args.out.now c.put_text.new.out c.deref.result.now c.args.count.now
    c.put_text.new.count camera shown
    (c.put_text.ensures.room yes) (c.put_text.ensures.written yes) (c.put_text.ensures.counted yes)

pub returns-in-Ok : goal.returns-in-Ok
returns-in-Ok c =
    let state = c.args.engine.now.state in
    let place : CameraAt = c.args.place in
    let camera : IsCamera place = search rules in
    let shown : IsCertificateText state place c.deref.result.now =
    subst (IsCertificateText state place) (sym c.deref.ensures.value) c.in-Ok.ensures in
    let no = c.if-put_text.false in
    let small : state.grid.n ≤ 14 = omega (arith, ap (λ (g : HeightField). g.n) c.grid.ensures, c.n-n.ensures.value, c.n-n.ensures.high) in
    told-no_room state place c.args.out.now c.put_text.new.out c.deref.result.now c.args.count.now
    c.put_text.new.count small camera shown
    (c.put_text.ensures.no_room no) (c.put_text.ensures.unwritten no) (c.put_text.ensures.uncounted no)
