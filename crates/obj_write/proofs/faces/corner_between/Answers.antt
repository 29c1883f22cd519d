use Rattle.std.proofs.Common.{◌+◌, ◌/◌, ap₂, subst, ℕ, sym, ◌∙◌, arith, get_or}
use Rattle.mesh_defs.specs.Triangle.{corners_of}
use Rattle.bintree_laws.proofs.CornerLemmas.{IsWithin-corners_of}
use Rattle.obj_write.specs.Field.{IsFieldOf}
use Rattle.obj_write.proofs.PlaceLemmas.{place-below}
use Rattle.obj_write.proofs.FaceLemmas.{middle-place, middle-below, side-small}
use Rattle.obj_write.proofs.faces.corner_between.Goals as goal

pub overflow_add-v0 : goal.overflow_add-v0
overflow_add-v0 c =
    let n = c.args.n in
    let w = IsWithin-corners_of n c.args.t in
    let first = place-below n (corners_of n c.args.t).v0 (record { x = w.v0_x; y = w.v0_y }) in
    let second = place-below n (corners_of n c.args.t).v1 (record { x = w.v1_x; y = w.v1_y }) in
    let small = side-small n c.requires.in_grid.1 in
    let one = c.requires.v0 in
    let two = c.requires.v1 in
    record { fits = omega arith }

pub corner_of-requires : goal.corner_of-requires
corner_of-requires c =
    let here = ap₂ (λ (i j : ℕ). (i + j) / 2) c.requires.v0 c.requires.v1
    ∙ middle-place c.args.n c.args.t c.requires.splittable in
    let below = middle-below c.args.n c.args.t in
    let long = c.requires.places in
    record { below = omega arith }

pub returns : goal.returns
returns c =
    let here = ap₂ (λ (i j : ℕ). (i + j) / 2) c.requires.v0 c.requires.v1
    ∙ middle-place c.args.n c.args.t c.requires.splittable in
    record {
      place_is = c.corner_of.ensures.place ∙ here;
      field_is = subst (λ k. IsFieldOf c.corner_of.result.field (get_or c.args.numbers.now k 0))
          (sym c.corner_of.ensures.place) c.corner_of.ensures.field;
    }
