-- The place of the square.
use Rattle.std.proofs.Common.{◌-◌, ◌^◌, ◌≤◌, refl, arith, pow_mono}
use Rattle.page_store.specs.Edit.{area_in, store_in}
use Rattle.page_store.proofs.EditLemmas.{slot-less, slot-side, raised-square}
use Rattle.page_store.proofs.edits.Raise.square.Goals as goal

pub slot-requires-clause-in_table : goal.slot-requires-clause-in_table
slot-requires-clause-in_table c =
    let r = c.args.self in
    let less = slot-less (store_in c.args.self c.args.pages.now.items) c.requires.sized _ c.args.q c.args.square
    c.place.result c.requires.coarse refl c.requires.in_square c.place.ensures.value in
    omega (arith, c.args.pages.now.ok.0)

pub slot-requires-clause-side : goal.slot-requires-clause-side
slot-requires-clause-side c =
    slot-side (store_in c.args.self c.args.pages.now.items) c.requires.sized _ c.args.q c.args.square c.place.result
    c.requires.coarse refl c.requires.in_square c.place.ensures.value

pub slot-requires-clause-column : goal.slot-requires-clause-column
slot-requires-clause-column c =
    let small = c.requires.sized.small in
    let m : 2 ^ (c.args.self.large - c.args.self.n - c.args.q) ≤ 2 ^ (14 - c.args.self.n - c.args.q) =
    pow_mono (omega arith) in
    let column = c.requires.in_square.column in omega arith

pub slot-requires-clause-row : goal.slot-requires-clause-row
slot-requires-clause-row c =
    let small = c.requires.sized.small in
    let m : 2 ^ (c.args.self.large - c.args.self.n - c.args.q) ≤ 2 ^ (14 - c.args.self.n - c.args.q) =
    pow_mono (omega arith) in
    let row = c.requires.in_square.row in omega arith

pub returns : goal.returns
returns c = record {
  raised = raised-square (store_in c.args.self c.args.pages.now.items) c.requires.sized _ c.args.q c.args.square
      c.place.result c.requires.coarse refl c.requires.in_square c.place.ensures.value (area_in c.args.self)
      c.args.self.dz c.slot.new.pages.items c.slot.result c.slot.ensures.value c.slot.ensures.loaded
      c.slot.ensures.raised c.slot.ensures.found c.slot.ensures.none;
}
