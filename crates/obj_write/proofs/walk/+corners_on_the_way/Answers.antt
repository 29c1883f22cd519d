use Rattle.std.proofs.Common.{rules, ◌≡◌, ◌%◌, ◌^◌, ◌≤◌, ◌<◌, true, nat_eq, cond, refl, sym, ◌∙◌, ap, subst, ⊎_elim}
use Rattle.std.proofs.lemmas.Bool.{cases_lt, both_ways}
use Rattle.std.proofs.lemmas.List.Elements.{All-set}
use Rattle.mesh_defs.specs.Triangle.{corners_of, child}
use Rattle.bintree_laws.specs.Corners.{IsWithin}
use Rattle.bintree_laws.proofs.CornerLemmas.{IsWithin-corners_of, IsWithin-largest}
use Rattle.obj_write.specs.Walk.{AreCorners}
use Rattle.obj_write.specs.declared.walk.Step.{Step}
use Rattle.obj_write.proofs.WalkLemmas.{corners_of-below}
use Rattle.obj_write.proofs.walk.+corners_on_the_way.Goals as goal
use Rattle.obj_write.proofs.walk.+corners_on_the_way.Goals.{in-None, in-Some}

pub returns-then-eq-clause-within : goal.returns-then-eq-clause-within
returns-then-eq-clause-within t c =
    let own : c.index-steps-level.result.corners ≡ corners_of c.args.n c.index-steps-level.result.tri = search rules in
    subst (IsWithin (2 ^ c.args.n)) (sym own) (IsWithin-corners_of c.args.n c.index-steps-level.result.tri)

pub child_corners-corners-requires : goal.child_corners-corners-requires
child_corners-corners-requires t c = record {
  within = IsWithin-largest c.args.n c.corners_on_the_way-above.result c.requires.in_grid.1
      c.corners_on_the_way-above.ensures.within;
}

pub returns-clause-value : goal.returns-clause-value
returns-clause-value t c = elim c.match-parent.branch [
  | in-None w ↦ w.corners-is ∙ w.corners-corners.ensures.value
  | in-Some w ↦
      let big : 4 ≤ c.args.t =
      ⊎_elim (λ (low : c.args.t < 4). absurd (both_ways true (w.in-Some.ensures.base.1 low) refl)) (λ rest. rest)
      (cases_lt c.args.t 4) in
      w.corners-is ∙ w.child_corners-corners.ensures
      ∙ ap (λ m. child (cond (nat_eq (m % 2) 1) 1 0) w.corners_on_the_way-above.result) w.number.ensures.value
      ∙ ap (child (cond (nat_eq (c.args.t % 2) 1) 1 0)) (w.corners_on_the_way-above.ensures.value
      ∙ ap (corners_of c.args.n) w.in-Some.ensures.half)
      ∙ sym (corners_of-below c.args.n c.args.t big)
]

pub returns-clause-known : goal.returns-clause-known
returns-clause-known t c =
    let known : AreCorners c.args.n c.match-parent.steps = elim c.match-parent.branch [
      | in-None w ↦ subst (AreCorners c.args.n) (sym w.steps-is) c.requires.known
      | in-Some w ↦ subst (AreCorners c.args.n) (sym w.steps-is) w.corners_on_the_way-above.ensures.known
    ] in
    All-set (λ (s : Step). s.corners ≡ corners_of c.args.n s.tri) c.match-parent.steps c.level-level.result
    (record { tri = c.args.t; corners = c.match-parent.corners }) (returns-clause-value t c) known
