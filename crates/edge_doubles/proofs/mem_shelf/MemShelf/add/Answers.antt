use Rattle.std.proofs.Common.{arith}
use Rattle.std.proofs.lemmas.Grind.{common_steps}
use Rattle.edge_doubles.proofs.StoredLemmas.{unread_at-grown, map-grown}
use Rattle.edge_doubles.proofs.mem_shelf.MemShelf.add.Goals as goal

pub returns-clause-ok : goal.returns-clause-ok
returns-clause-ok c =
    let was = c.self.inside in
    let now = c.push.new.self.items in
    let unread =
    unread_at-grown now was.files.items _ was.chosen was.taken c.in_ok-push.ensures.items c.self.invariant in
    let all = map-grown now was.files.items _ c.in_ok-push.ensures.items in
    let name = c.in_ok-from_str.ensures.ok in
    let bytes = c.in_ok-from_slice.ensures.items in
    let seen = c.self.view_is in
    grind (arith, common_steps)
