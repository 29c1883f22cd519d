-- The wedges of the two children, joined.
use Rattle.std.proofs.Common.{◌≡◌, ◌-◌, ◌+◌, ap, sym, ◌∙◌, arith, subst, None, option_map, slice_index_or}
use Rattle.std.proofs.Common.{slice_set, ℕ, List, Option}
use Rattle.mesh_defs.specs.Triangle.{corners_of}
use Rattle.mesh_defs.specs.declared.point.Point.{Point}
use Rattle.page_laws.specs.declared.wedge.KnownWedge.{KnownWedge}
use Rattle.page_wedges.specs.Page.{Page, with_quarter, joined_in}
use Rattle.page_store.specs.Store.{Store, IsTable, top_of, place}
use Rattle.page_store.specs.Change.{IsQuarterJoined}
use Rattle.page_store.proofs.WalkLemmas.{place-inside}
use Rattle.page_store.proofs.JoinLemmas.{QuarterLaw, AreChanged, join-written}
use Rattle.page_store.proofs.table.Table.join_quarter.Goals as goal

pub write_quarter-requires-clause-in_table : goal.write_quarter-requires-clause-in_table
write_quarter-requires-clause-in_table c =
    let coarse = c.requires.coarse in
    let less = place-inside c.args.cuts c.args.square c.self.view_is c.self.invariant (omega arith) c.requires.in_square
    c.place.ensures.value in
    omega (arith, c.self.inside.pages.ok.0)

-- what was written, over the table as it was
written-is : {v s : Store} {at : ℕ} (p k : ℕ) (t : Point) (left right : KnownWedge) {ys : List (Option Page)} → v ≡ s →
    at ≡ place p t → ys ≡ slice_set v.pages at (option_map
    (λ (g : Page). with_quarter g k (joined_in g.field (corners_of g.field.n (4 + k)) left right))
    (slice_index_or v.pages at None)) → ys ≡ slice_set s.pages (place p t) (option_map
    (λ (g : Page). with_quarter g k (joined_in g.field (corners_of g.field.n (4 + k)) left right))
    (slice_index_or s.pages (place p t) None))
written-is {v} p k t left right same there is =
    is
    ∙ ap (λ j. slice_set v.pages j (option_map
    (λ (g : Page). with_quarter g k (joined_in g.field (corners_of g.field.n (4 + k)) left right))
    (slice_index_or v.pages j None))) there
    ∙ ap (λ (z : Store). slice_set z.pages (place p t) (option_map
    (λ (g : Page). with_quarter g k (joined_in g.field (corners_of g.field.n (4 + k)) left right))
    (slice_index_or z.pages (place p t) None))) same

-- the change
module _ (c : goal.After-write_quarter) where
  changed : AreChanged c.args.self.now c.write_quarter.new.pages.items (top_of c.args.self.now - c.args.cuts)
      c.args.square
      c.args.k
  changed =
      let law : QuarterLaw = record { quarter = c.terrain_laws.ensures.quarter } in
      let coarse = c.requires.coarse in
      join-written (subst IsTable c.self.view_is c.self.invariant) c.args.cuts c.args.k (omega arith)
      c.requires.quarter c.requires.in_square (sym c.in-Some.ensures.value) law c.child-left.ensures.value
      c.child-right.ensures.value (written-is c.args.cuts c.args.k c.args.square c.child-left.result
      c.child-right.result c.self.view_is c.place.ensures.value c.write_quarter.ensures.value)

  joined : {v : Store} → v ≡ c.args.self.now → IsQuarterJoined c.args.self.now
      (record v { pages = c.write_quarter.new.pages.items }) (top_of c.args.self.now - c.args.cuts) c.args.square
      c.args.k
  joined e = subst (λ (w : Store). IsQuarterJoined c.args.self.now
      (record w { pages = c.write_quarter.new.pages.items }) (top_of c.args.self.now - c.args.cuts) c.args.square
      c.args.k)
      (sym e) changed.joined

  valid : {v : Store} → v ≡ c.args.self.now → IsTable (record v { pages = c.write_quarter.new.pages.items })
  valid e =
      subst (λ (w : Store). IsTable (record w { pages = c.write_quarter.new.pages.items })) (sym e) changed.valid

pub invariant_of-self : goal.invariant_of-self
invariant_of-self c = valid c c.self.view_is

pub returns-clause-joined : goal.returns-clause-joined
returns-clause-joined c = joined c c.self.view_is

pub returns-clause-valid : goal.returns-clause-valid
returns-clause-valid c = valid c c.self.view_is
