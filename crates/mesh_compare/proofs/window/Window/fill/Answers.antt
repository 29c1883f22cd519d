use Rattle.std.proofs.Common.{length, ap, arith}
use Rattle.mesh_compare.proofs.FileLemmas.{left-filled}
use Rattle.mesh_compare.proofs.window.Window.fill.Goals as goal

pub returns-clause-bytes : goal.returns-clause-bytes
returns-clause-bytes g c unread told =
    left-filled c.in_ok-count.count c.self.inside.bytes.len unread _ c.read.new.buf _ _
    (omega (arith, c.in_ok-count.ensures.bound, ap length c.deref_mut.ensures.value, c.self.inside.bytes.ok.0))
    (c.in_ok-count.ensures.bytes.within unread told)
    (c.in_ok-count.ensures.bytes.takes unread told)
    (c.in_ok-count.ensures.bytes.gives unread told)
