use Rattle.std.proofs.lemmas.Grind.{common_steps}
use Rattle.std.proofs.Common.{arith}
-- The sink got the whole page.
use Rattle.cert_text.proofs.PageLemmas.{put-written}
use Rattle.cert_text.proofs.page.make_room.Goals as goal

pub returns-clause-ok : goal.returns-clause-ok
returns-clause-ok g c before text put =
    put-written before _ _ _ _ _ text _ c.as_slice.ensures.value c.clear.ensures put c.in_ok-write.ensures.bytes

pub returns-in_err-write-clause-err : goal.returns-in_err-write-clause-err
returns-in_err-write-clause-err g c = grind (arith, common_steps)
