use Rattle.std.proofs.Common.{arith, vec_len}
use Rattle.std.proofs.lemmas.Grind.{common_steps}
use Rattle.roam_edge.proofs.MeshRoomLemmas.{mesh_at-grown, mesh_from-grown}
use Rattle.roam_edge.proofs.mem_meshes.MemMeshesMeshSink.write.Goals as goal

pub returns-clause-after : goal.returns-clause-after
returns-clause-after c =
    let was = c.self.inside in
    let now = c.extend_from_slice.new.self.items in
    let done = mesh_at-grown was.room.items c.args.piece.now now was.done.items
    (vec_len was.room) c.in-Ok.ensures.items was.room.ok.0 c.self.invariant.done_within in
    let current = mesh_from-grown was.room.items c.args.piece.now now was.current
    (vec_len was.room) c.in-Ok.ensures.items was.room.ok.0 c.self.invariant.current_within in
    grind (arith, common_steps)

pub returns-clause-mesh : goal.returns-clause-mesh
returns-clause-mesh c =
    let was = c.self.inside in
    let now = c.extend_from_slice.new.self.items in
    let done = mesh_at-grown was.room.items c.args.piece.now now was.done.items
    (vec_len was.room) c.in-Ok.ensures.items was.room.ok.0 c.self.invariant.done_within in
    let current = mesh_from-grown was.room.items c.args.piece.now now was.current
    (vec_len was.room) c.in-Ok.ensures.items was.room.ok.0 c.self.invariant.current_within in
    grind (arith, common_steps)
