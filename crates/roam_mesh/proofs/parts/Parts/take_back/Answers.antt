use Rattle.std.proofs.lemmas.Grind.{common_steps}
use Rattle.std.proofs.Common.{◌≡◌, ℕ, ◌-◌, ◌≤◌, true, false, List, Option, Some, arith, length, map, take, slice_set}
use Rattle.std.proofs.Common.{refl, sym, ap, subst, ◌∙◌, ⊎_elim}
use Rattle.std.proofs.lemmas.Bool.{both_ways}
use Rattle.mesh_defs.specs.ClosedSet.{among}
use Rattle.roam_mesh.specs.contracts.parts.Parts.{the_view}
use Rattle.roam_mesh.specs.Parts.{PartsState, deadline_of, is_leaf_at, is_ready_at, IsWhole, IsParts}
use Rattle.roam_mesh.specs.Change.{put_in, seated}
use Rattle.roam_mesh.specs.Keeping.{CanTakeBack}
use Rattle.roam_mesh.specs.declared.parts.Parts.TheInside.{Inside}
use Rattle.roam_mesh.proofs.RoleLemmas.{entry_cases}
use Rattle.roam_mesh.proofs.PlacedLemmas.{leaf_absent, diamond_absent}
use Rattle.roam_mesh.proofs.SlotListLemmas.{listed_below, among_last}
use Rattle.roam_mesh.proofs.EnterLemmas.{put_in-pool, read_whole, back_last, seated_has, seated_same}
use Rattle.roam_mesh.proofs.parts.Parts.take_back.Goals as goal
use Rattle.roam_mesh.proofs.parts.Parts.take_back.Goals.{After-index-s}

-- the fresh slots before the last one
abbrev rest_of : Inside → List ℕ
rest_of m = map (λ t. t.0) (take (m.fresh_count - 1) m.fresh.items)

-- once the last one is read
module _ (c : After-index-s) where
  back : (1 ≤ c.self.inside.fresh_count)
      × CanTakeBack (the_view c.self.inside) (rest_of c.self.inside) c.index-s.result.now.0 c.args.was.now
  back = back_last (the_view c.self.inside) c.args.self.now c.self.inside.fresh.items c.self.inside.fresh_count
      c.index-s.result.now c.args.was.now c.self.view_is refl c.self.invariant.2.1 c.index-s.ensures c.requires.last

  there : among (the_view c.self.inside).fresh c.index-s.result.now.0 ≡ true
  there =
      ap (λ l. among l c.index-s.result.now.0) back.1.last ∙ among_last (rest_of c.self.inside) c.index-s.result.now.0

pub index_mut-requires : goal.index_mut-requires
index_mut-requires c =
    let m = c.self.inside in
    let below = listed_below m.entries.items (λ f. f.fresh) (the_view m).fresh c.index-s.result.now.0
    c.self.invariant.0.fresh refl (there (goal.at.index_mut-requires c).After-index-s) in
    omega (arith, m.entries.ok.0)

pub invariant_of-self : goal.invariant_of-self
invariant_of-self c =
    let m = c.self.inside in
    let parts : PartsState = the_view m in
    let s = c.index-s.result.now in
    let read = (goal.at.invariant_of-self c).After-index-s in
    let can = (back read).1 in
    let is = read_whole parts (rest_of m) s.0 c.args.was.now
    (Some (deadline_of c.args.was.now)) c.self.invariant.0 can.last can.stale can.listed can.known in
    let within : m.fresh_count ≤ length m.fresh.items = c.self.invariant.2.1 in (
      subst IsWhole (sym (ap (λ (d : List (Option ℕ)). record parts {
        entries = slice_set m.entries.items s.0 c.args.was.now;
        due = d;
        fresh = rest_of m;
      }) c.renew.ensures)) is,
      c.self.invariant.1,
      (c.self.invariant.2.0, omega arith),
    )

pub put_in-requires-clause-entry : goal.put_in-requires-clause-entry
put_in-requires-clause-entry c =
    let read = (goal.at.put_in-requires-clause-entry c).After-index-s in
    (back read).1.parts_are.entries c.index-s.result.now.0 (there read)

pub put_in-requires-clause-leaf : goal.put_in-requires-clause-leaf
put_in-requires-clause-leaf c leaf =
    let read = (goal.at.put_in-requires-clause-leaf c).After-index-s in
    leaf_absent (the_view c.self.inside) (among (the_view c.self.inside).fresh) c.index-s.result.now.0
    (back read).1.parts_are.placed (there read)

pub put_in-requires-clause-diamond : goal.put_in-requires-clause-diamond
put_in-requires-clause-diamond c whole =
    let parts : PartsState = the_view c.self.inside in
    let s = c.index-s.result.now in
    let read = (goal.at.put_in-requires-clause-diamond c).After-index-s in
    let is = (back read).1.parts_are in
    let ready : is_ready_at parts.pool.pairs s.0 ≡ true = ⊎_elim
    (λ (leaf : is_leaf_at parts.pool.pairs s.0 ≡ true). absurd (both_ways (is_leaf_at parts.pool.pairs s.0) whole leaf))
    (λ (diamond : (is_leaf_at parts.pool.pairs s.0 ≡ false) × (is_ready_at parts.pool.pairs s.0 ≡ true)). diamond.1)
    (entry_cases parts.pool.pairs s.0 (is.entries s.0 (there read))) in
    diamond_absent parts (among parts.fresh) s.0 is.pool is.placed ready (there read)

-- the slot is back in its place
state : (c : goal.After-put_in) →
    c.put_in.new.self ≡ seated (the_view c.self.inside) (rest_of c.self.inside) c.index-s.result.now.0 c.args.was.now
state c =
    let m = c.self.inside in
    let s = c.index-s.result.now in
    c.put_in.ensures ∙ ap (λ (d : List (Option ℕ)). put_in (record (the_view m)
    { entries = slice_set m.entries.items s.0 c.args.was.now; due = d; fresh = rest_of m }) s.0) c.renew.ensures

pub returns-clause-parts : goal.returns-clause-parts
returns-clause-parts c =
    let read = (goal.at.returns-clause-parts c).After-index-s in
    subst IsParts (sym (state c)) (seated_has (the_view c.self.inside)
    (rest_of c.self.inside) c.index-s.result.now.0 c.args.was.now c.self.invariant.0 (back read).1).parts

pub returns-clause-seated : goal.returns-clause-seated
returns-clause-seated c old_rest old_s old_last =
    let read = (goal.at.returns-clause-seated c).After-index-s in
    state c ∙ seated_same (the_view c.self.inside) c.args.self.now (rest_of c.self.inside) old_rest
    c.index-s.result.now.0 old_s c.args.was.now c.self.view_is (back read).1.last old_last

pub overflow_sub-self : goal.overflow_sub-self
overflow_sub-self c = grind (arith, common_steps)

pub index-s-requires : goal.index-s-requires
index-s-requires c = grind (arith, common_steps)

pub returns-clause-pool : goal.returns-clause-pool
returns-clause-pool c =
    ap (λ (p : PartsState). p.pool) c.put_in.ensures ∙ put_in-pool _ c.index-s.result.now.0
    ∙ ap (λ (p : PartsState). p.pool) c.self.view_is
