use Rattle.std.proofs.Common.{◌≡◌, ◌<◌, ◌≤◌, true, length, sym, ◌∙◌, ap, subst, arith}
use Rattle.std.proofs.lemmas.List.{get_or_read}
use Rattle.mesh_laws.specs.Edge.{mate_of}
use Rattle.mesh_laws.specs.Slots.{address_at}
use Rattle.roam_mesh.specs.Mesh.{slot_of}
use Rattle.roam_mesh.specs.Parts.{PartsState, blank, entry_at, is_leaf_at}
use Rattle.roam_mesh.proofs.PlaceLemmas.{live_below, one_slot}
use Rattle.roam_mesh.proofs.RoleLemmas.{leaf_live}
use Rattle.roam_mesh.proofs.parts.Parts.kept_mate.Goals as goal

pub returns-in-Some-clause-some : goal.returns-in-Some-clause-some
returns-in-Some-clause-some c =
    let now = c.args.self.now in
    let mate = c.in-Some.ensures.some in
    let t = c.in-Some.t.0 in
    let live = leaf_live now.pool.pairs t mate.leaf in
    let here : slot_of now.pool.pairs (mate_of (address_at now.pool.pairs c.args.s.0)) ≡ t =
    one_slot now.pool.n now.pool.pairs t (mate_of (address_at now.pool.pairs c.args.s.0)) mate.pool
    (subst (λ z. 2 ≤ z) mate.mate live) mate.mate in
    let within : t < length c.self.inside.entries.items =
    let below = live_below now.pool.pairs t live in
    let long = c.self.invariant.0.entries in
    let same = ap (λ (p : PartsState). length p.pool.pairs) c.self.view_is in
    omega arith in
    record {
      some = mate.some;
      leaf = subst (λ z. is_leaf_at now.pool.pairs z ≡ true) (sym here) mate.leaf;
      own = get_or_read c.self.inside.entries.items t c.index.result.now within c.index.ensures blank
          ∙ ap (λ (p : PartsState). entry_at p t) c.self.view_is ∙ ap (entry_at now) (sym here);
    }
