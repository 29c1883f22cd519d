use Rattle.std.proofs.Common.{◌≡◌, cond, nat_eq, option_map, sym, ◌∙◌, ap, subst, refl}
use Rattle.mesh_laws.specs.Slots.{address_at, IsLive}
use Rattle.roam_mesh.specs.Mesh.{MeshState, stamp_of, with_expired}
use Rattle.roam_mesh.specs.Parts.{QueuedState, PartsState, IsParts, mesh_of}
use Rattle.roam_mesh.proofs.MeshLemmas.{expired_parts, expired_stamps}
use Rattle.roam_mesh.proofs.mesh.Mesh.expire_at.Goals as goal

pub invariant_of-behind-self : goal.invariant_of-behind-self
invariant_of-behind-self c =
    let was = ap (λ (q : QueuedState). mesh_of q.parts q.log) (c.behind-self.view_is ∙ c.deref_mut.ensures.value)
    ∙ c.self.view_is in
    let live = subst (λ (z : MeshState). IsLive z.pool.pairs c.args.s.0) (sym was) c.requires.live in
    subst IsParts (sym c.expire.ensures.expired)
    (expired_parts c.behind-self.inside.parts c.args.s.0 c.expire.ensures.whole live c.behind-self.invariant)

pub returns-clause-stamps : goal.returns-clause-stamps
returns-clause-stamps c = λ a.
    let parts : PartsState = c.behind-self.inside.parts in
    let log = c.behind-self.inside.log in
    let s = c.args.s.0 in
    let was = ap (λ (q : QueuedState). mesh_of q.parts q.log) (c.behind-self.view_is ∙ c.deref_mut.ensures.value)
    ∙ c.self.view_is in
    let live = subst (λ (z : MeshState). IsLive z.pool.pairs s) (sym was) c.requires.live in
    subst (λ (z : MeshState). stamp_of (mesh_of c.expire.new.self log) a ≡ cond (nat_eq (address_at z.pool.pairs s) a)
    (option_map with_expired (stamp_of z a)) (stamp_of z a)) was
    (subst (λ (z : PartsState). stamp_of (mesh_of z log) a ≡ cond (nat_eq (address_at parts.pool.pairs s) a)
    (option_map with_expired (stamp_of (mesh_of parts log) a)) (stamp_of (mesh_of parts log) a))
    (sym c.expire.ensures.expired)
    (expired_stamps parts log s (address_at parts.pool.pairs s) c.expire.ensures.whole
    c.behind-self.invariant live refl a))
