-- Another tile's number is another one.
use Rattle.std.proofs.Common.{[], map, get_or, ap, ◌∙◌}
use Rattle.std.proofs.lemmas.Nat.{same_from_place}
use Rattle.std.proofs.lemmas.List.{map-set, get_or-set_other}
use Rattle.bintree_laws.proofs.LatticeLemmas.{same_point}
use Rattle.mesh_tests.specs.Terrain.{number_of}
use Rattle.mesh_tests.proofs.terrain.HillsTiles.keep.Goals as goal

pub returns-clause-others : goal.returns-clause-others
returns-clause-others c u tile apart =
    let meshes = c.args.self.now.meshes.items in
    let t = c.args.t in
    ap (λ ms. get_or ms (number_of u) []) (map-set (λ v. v.items) meshes (number_of t) c.in-Ok.copy)
    ∙ get_or-set_other (map (λ v. v.items) meshes) (number_of t) (number_of u) c.in-Ok.copy.items []
    (λ same.
    let both = same_from_place u.y u.x t.y t.x 3 tile.column c.requires.tile.column same in
    apart (same_point u.x u.y t.x t.y both.1 both.0))
