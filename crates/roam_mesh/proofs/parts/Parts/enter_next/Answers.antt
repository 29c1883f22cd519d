use Rattle.std.proofs.Common.{◌≡◌, ℕ, ◌+◌, ◌-◌, ◌≤◌, ◌∷◌, [], ◌++◌, List, Option, None, Some, arith, length, map, take}
use Rattle.std.proofs.Common.{slice_index_or, slice_set, refl, sym, ap, ap₂, subst, ◌∙◌}
use Rattle.std.proofs.lemmas.List.{get_or_read}
use Rattle.mesh_defs.specs.ClosedSet.{among}
use Rattle.roam_mesh.specs.Parts.{PartsState, blank, entry_at, is_entry_at, is_leaf_at, IsWhole}
use Rattle.roam_mesh.specs.Change.{read_entry, put_in, entered}
use Rattle.roam_mesh.specs.contracts.parts.Parts.{the_view}
use Rattle.roam_mesh.specs.declared.entry.Entry.{Entry}
use Rattle.roam_mesh.specs.declared.parts.Parts.TheInside.{Inside}
use Rattle.roam_mesh.proofs.SlotListLemmas.{numbers_count, numbers_pop, listed_below, among_last}
use Rattle.roam_mesh.proofs.EnterLemmas.{read_whole}
use Rattle.roam_mesh.proofs.parts.Parts.enter_next.Goals as goal
use Rattle.roam_mesh.proofs.parts.Parts.enter_next.Goals.{After-stamp}

-- the fresh slots before the last one
abbrev rest_of : Inside → List ℕ
rest_of m = map (λ t. t.0) (take (m.fresh_count - 1) m.fresh.items)

-- once the last one has its stamp
module _ (c : After-stamp) where
  some : 1 ≤ c.self.inside.fresh_count
  some =
      let long = ap (λ (p : PartsState). length p.fresh) c.self.view_is in
      let count = numbers_count c.self.inside.fresh.items c.self.inside.fresh_count c.self.invariant.2.1 in
      omega (arith, c.requires.some)

  last : (the_view c.self.inside).fresh ≡ rest_of c.self.inside ++ (c.index-s.result.now.0 ∷ [])
  last = numbers_pop c.self.inside.fresh.items c.self.inside.fresh_count c.index-s.result.now some
      c.self.invariant.2.1 c.index-s.ensures

  -- it is that of the parts before, too
  was_last : c.args.self.now.fresh ≡ rest_of c.self.inside ++ (c.index-s.result.now.0 ∷ [])
  was_last = ap (λ (p : PartsState). p.fresh) (sym c.self.view_is) ∙ last

  entry : c.read.new.self
      ≡ read_entry (entry_at (the_view c.self.inside) c.index-s.result.now.0) c.args.reading.now c.args.odometer
  entry =
      let below = listed_below c.self.inside.entries.items (λ f. f.fresh)
      (the_view c.self.inside).fresh c.index-s.result.now.0 c.self.invariant.0.fresh refl
      (ap (λ l. among l c.index-s.result.now.0) last ∙ among_last (rest_of c.self.inside) c.index-s.result.now.0) in
      c.read.ensures ∙ ap (λ e. read_entry e c.args.reading.now c.args.odometer)
      (get_or_read c.self.inside.entries.items _ _ below c.index_mut.ensures.value blank)

pub invariant_of-self : goal.invariant_of-self
invariant_of-self c =
    let m = c.self.inside in
    let s = c.index-s.result.now in
    let parts : PartsState = the_view m in
    let is = read_whole parts (rest_of m) s.0 (read_entry (entry_at parts s.0) c.args.reading.now c.args.odometer)
    (Some (c.args.odometer + c.args.reading.now.slack + 1)) c.self.invariant.0 (last c) refl refl
    (c.self.invariant.0.known s.0) in
    let within : m.fresh_count ≤ length m.fresh.items = c.self.invariant.2.1 in (
      subst IsWhole (sym (ap₂ (λ (e : Entry) (d : List (Option ℕ)). record parts {
        entries = slice_set m.entries.items s.0 e;
        due = d;
        fresh = rest_of m;
      }) (entry c) c.stamp.ensures)) is,
      c.self.invariant.1,
      (c.self.invariant.2.0, omega arith),
    )

pub put_in-requires-clause-entry : goal.put_in-requires-clause-entry
put_in-requires-clause-entry c =
    let stamped = (goal.at.put_in-requires-clause-entry c).After-stamp in
    ap (λ (p : PartsState). is_entry_at p.pool.pairs c.index-s.result.now.0) c.self.view_is
    ∙ c.requires.entry c.index-s.result.now.0 (rest_of c.self.inside) (was_last stamped)

pub put_in-requires-clause-leaf : goal.put_in-requires-clause-leaf
put_in-requires-clause-leaf c leaf =
    let stamped = (goal.at.put_in-requires-clause-leaf c).After-stamp in
    ap (λ (p : PartsState). slice_index_or p.split c.index-s.result.now.0 None) c.self.view_is
    ∙ c.requires.leaf c.index-s.result.now.0 (rest_of c.self.inside) (was_last stamped)
    (ap (λ (p : PartsState). is_leaf_at p.pool.pairs c.index-s.result.now.0) (sym c.self.view_is) ∙ leaf)

pub returns-clause-whole : goal.returns-clause-whole
returns-clause-whole c = subst IsWhole c.self.view_is c.self.invariant.0

pub returns-clause-entered : goal.returns-clause-entered
returns-clause-entered c =
    let s = c.index-s.result.now in
    let stamped = (goal.at.returns-clause-entered c).After-stamp in (
      rest_of c.self.inside,
      s.0,
      was_last stamped,
      c.put_in.ensures
          ∙ ap₂ (λ (e : Entry) (d : List (Option ℕ)). put_in (record (the_view c.self.inside)
          { entries = slice_set c.self.inside.entries.items s.0 e; due = d; fresh = rest_of c.self.inside }) s.0)
          (entry stamped) c.stamp.ensures
          ∙ ap (λ p. entered p (rest_of c.self.inside) s.0 c.args.reading.now c.args.odometer) c.self.view_is,
    )
