use Rattle.std.proofs.Common.{◌∙◌, ap}
use Rattle.roam_edge.specs.MemMeshes.{all_meshes}
use Rattle.roam_edge.proofs.MeshRoomLemmas.{finished-place}
use Rattle.roam_edge.proofs.mem_meshes.MemMeshes.finished.Goals as goal

pub returns : goal.returns
returns c =
    let was = c.self.inside in
    finished-place was.room.items was.done.items was.current (all_meshes c.args.self.now) c.args.i c.len.result
    (ap all_meshes c.self.view_is) (c.len.ensures ∙ was.done.ok.0) c.requires
