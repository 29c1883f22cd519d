-- The flags, the list and the numbers are those that the parts made.
use Rattle.std.proofs.Common.{◌≡◌, ℕ, ◌*◌, ◌≤◌, Bool, List, All, length, take, ap, sym, subst, ◌∙◌}
use Rattle.std.proofs.lemmas.List.{with_items_is}
use Rattle.std.specs.Vec.{with_items}
use Rattle.mesh_defs.specs.Triangle.{level_of}
use Rattle.mesh_defs.specs.ClosedSet.{leaves_of}
use Rattle.mesh_defs.specs.State.{priority_seen}
use Rattle.mesh_laws.specs.Least.{IsLeastList}
use Rattle.mesh_laws.specs.Sweep.{is_flagged}
use Rattle.mesh_laws.proofs.LeastLemmas.{least_list-mesh}
use Rattle.obj_write.specs.Numbers.{numbers_of}
use Rattle.least_mesh.specs.Kept.{GridMesh}
use Rattle.least_mesh.proofs.FrameLemmas.{listed, levels-listed, conforming-listed}
use Rattle.least_mesh.proofs.least.Least.frame_of.Goals as goal

pub number-vertices-requires-clause-levels : goal.number-vertices-requires-clause-levels
number-vertices-requires-clause-levels c =
    let room = c.deref-2.ensures.value ∙ with_items_is c.self.inside.room c.list_leaves-self-inside.new.list
    (c.list_leaves-self-inside.auto.list ∙ c.deref_mut-3.ensures.len) in
    levels-listed c.self.inside.n (is_flagged c.deref.result.now)
    (take c.list_leaves-self-inside.result c.deref-2.result.now)
    (ap (take c.list_leaves-self-inside.result) room ∙ c.list_leaves-self-inside.ensures.listed)

pub worst_leaf-worst-requires : goal.worst_leaf-worst-requires
worst_leaf-worst-requires c =
    let room = c.deref-2.ensures.value ∙ with_items_is c.self.inside.room c.list_leaves-self-inside.new.list
    (c.list_leaves-self-inside.auto.list ∙ c.deref_mut-3.ensures.len) in
    let grid : c.self.inside.n ≡ c.args.scene.now.grid.n =
    ap (λ (z : GridMesh). z.n) c.self.view_is ∙ sym c.requires.grid in
    record {
      levels =
          subst (λ n. All (λ a. level_of a ≤ 2 * n) (take c.list_leaves-self-inside.result c.deref-2.result.now)) grid
          (levels-listed c.self.inside.n (is_flagged c.deref.result.now)
          (take c.list_leaves-self-inside.result c.deref-2.result.now)
          (ap (take c.list_leaves-self-inside.result) room ∙ c.list_leaves-self-inside.ensures.listed));
    }

pub invariant_of-self : goal.invariant_of-self
invariant_of-self c =
    let n = c.self.inside.n in
    let count = c.list_leaves-self-inside.result in
    let list = c.list_leaves-self-inside.new.list in
    let asked = with_items c.self.inside.flags c.flag_worse.new.flags in
    let before = c.deref_mut-2.ensures.value ∙ with_items_is c.self.inside.flags c.flag_worse.new.flags
    (c.flag_worse.auto.flags ∙ c.deref_mut.ensures.len) in
    let flags = with_items_is asked c.sweep.new.flags (c.sweep.auto.flags ∙ c.deref_mut-2.ensures.len) in
    let read = c.deref.ensures.value ∙ flags in
    let room =
    with_items_is c.self.inside.room list (c.list_leaves-self-inside.auto.list ∙ c.deref_mut-3.ensures.len) in
    let long = c.list_leaves-self-inside.auto.list ∙ ap length c.deref_mut-3.ensures.value in
    record {
      n_low = c.self.invariant.n_low;
      n_high = c.self.invariant.n_high;
      flagged = ap length flags ∙ c.sweep.auto.flags ∙ ap length before ∙ c.flag_worse.auto.flags
          ∙ ap length c.deref_mut.ensures.value ∙ c.self.invariant.flagged;
      roomy = ap length room ∙ long ∙ c.self.invariant.roomy;
      within = subst (λ (l : List ℕ). count ≤ length l) (sym room) c.list_leaves-self-inside.ensures.within;
      conforming = conforming-listed n (is_flagged c.deref_mut-2.result.now)
          (is_flagged c.sweep.new.flags) _ c.sweep.ensures.least
          (ap (take count) room ∙ c.list_leaves-self-inside.ensures.listed
          ∙ ap (λ (l : List Bool). leaves_of n (is_flagged l)) read);
      places = c.number-vertices.ensures.places ∙ c.self.invariant.places;
      numbered =
          c.number-vertices.ensures.numbers ∙ ap (λ (l : List ℕ). numbers_of n (take count l)) c.deref-2.ensures.value;
    }

pub returns-clause-list : goal.returns-clause-list
returns-clause-list c =
    let p = priority_seen c.args.scene.now in
    let count = c.list_leaves-self-inside.result in
    let list = c.list_leaves-self-inside.new.list in
    let grid : c.self.inside.n ≡ c.args.scene.now.grid.n =
    ap (λ (z : GridMesh). z.n) c.self.view_is ∙ sym c.requires.grid in
    let asked = with_items c.self.inside.flags c.flag_worse.new.flags in
    let before = c.deref_mut-2.ensures.value ∙ with_items_is c.self.inside.flags c.flag_worse.new.flags
    (c.flag_worse.auto.flags ∙ c.deref_mut.ensures.len) in
    let read = c.deref.ensures.value
    ∙ with_items_is asked c.sweep.new.flags (c.sweep.auto.flags ∙ c.deref_mut-2.ensures.len) in
    let room =
    with_items_is c.self.inside.room list (c.list_leaves-self-inside.auto.list ∙ c.deref_mut-3.ensures.len) in
    subst (λ (l : List ℕ). IsLeastList c.args.scene.now.grid.n c.args.tolerance p (take count l)) (sym room)
    (listed c.args.scene.now.grid.n c.self.inside.n c.args.tolerance count p c.flag_worse.new.flags
    c.deref_mut-2.result.now
    c.sweep.new.flags c.deref.result.now list
    grid before read c.flag_worse.ensures.worse c.sweep.ensures.least c.list_leaves-self-inside.ensures.listed)

pub returns-clause-least : goal.returns-clause-least
returns-clause-least c = least_list-mesh _ _ _ _ (c.falling_laws.ensures _ _ _) (returns-clause-list c)
