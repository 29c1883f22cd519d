use Rattle.std.proofs.Common.{rules, ◌≡◌, ◌<◌, ◌≤◌, ◌*◌, ◌/◌, ◌++◌, ◌∙◌, sym, ap, subst, arith, get_or, true, refl}
use Rattle.std.proofs.Common.{⊎_elim}
use Rattle.std.proofs.lemmas.Bool.{cases_lt, both_ways}
use Rattle.mesh_defs.specs.HeightField.{side_of}
use Rattle.mesh_defs.specs.Triangle.{corners_of}
use Rattle.obj_write.specs.LineView.{mesh_seen}
use Rattle.obj_write.specs.Faces.{IsFace, IsCornerAt}
use Rattle.obj_write.proofs.LineLemmas.{places, fields-face}
use Rattle.obj_write.proofs.FaceLemmas.{child-apex}
use Rattle.obj_write.proofs.lines.put_face.Goals as goal

pub half_face-half-requires-clause-places : goal.half_face-half-requires-clause-places
half_face-half-requires-clause-places g c =
    let same = c.n-n.ensures.value in
    places (mesh_seen c.args.view.now) c.requires.view ∙ sym (ap (λ n. side_of n * side_of n) same)

pub returns-in_default-clause-text : goal.returns-in_default-clause-text
returns-in_default-clause-text g c =
    let v = mesh_seen c.args.view.now in
    let same = c.n-n.ensures.value in
    let half = c.half_face-half.result in
    let face : IsFace v.wedges.now.n v.numbers.now half =
    subst (λ n. IsFace n v.numbers.now half) same c.half_face-half.ensures.face in
    let tri = c.half_face-half.ensures.tri in
    c.push_line.ensures.text
    ∙ ap (λ t. c.args.page.now ++ t)
    (fields-face v c.requires.view c.args.leaf c.requires.shown half.apex half.v0 half.v1
    (subst (λ a. IsCornerAt v.wedges.now.n v.numbers.now (corners_of v.wedges.now.n a).apex half.apex) tri face.apex_is)
    (subst (λ a. IsCornerAt v.wedges.now.n v.numbers.now (corners_of v.wedges.now.n a).v0 half.v0) tri face.v0_is)
    (subst (λ a. IsCornerAt v.wedges.now.n v.numbers.now (corners_of v.wedges.now.n a).v1 half.v1) tri face.v1_is))

pub make_known-requires-clause-places : goal.make_known-requires-clause-places
make_known-requires-clause-places g c =
    let same = c.n-n.ensures.value in
    places (mesh_seen c.args.view.now) c.requires.view ∙ sym (ap (λ n. side_of n * side_of n) same)

pub push_line-requires-2 : goal.push_line-requires-2
push_line-requires-2 g c =
    let numbers = c.args.view.now.numbers.now in
    let face = c.make_known.ensures.known c.level.result c.index-faces-level.result
    (omega (arith, c.level.ensures.high, c.make_known.ensures.count)) in
    let first = face.middle_is.field_is.short in
    let second = (c.base_of.ensures.v0 c.n-n.result numbers face).field_is.short in
    let third = (c.base_of.ensures.v1 c.n-n.result numbers face).field_is.short in
    search rules

pub returns-clause-text : goal.returns-clause-text
returns-clause-text g c =
    let v = mesh_seen c.args.view.now in
    let n = v.wedges.now.n in
    let leaf = c.args.leaf in
    let same = c.n-n.ensures.value in
    let parent = get_or c.make_known.new.faces c.level.result c.index-faces-level.result in
    let found = c.make_known.ensures.known c.level.result c.index-faces-level.result
    (omega (arith, c.level.ensures.high, c.make_known.ensures.count)) in
    let face : IsFace n v.numbers.now parent = subst (λ n. IsFace n v.numbers.now parent) same found in
    let there : parent.tri ≡ leaf / 2 =
    ap (λ k. (get_or c.make_known.new.faces k c.index-faces-level.result).tri) c.level.ensures.value
    ∙ c.make_known.ensures.there c.index-faces-level.result ∙ c.in-Some.ensures.half in
    let big : 4 ≤ leaf = ⊎_elim (λ (low : leaf < 4). absurd (both_ways true (c.in-Some.ensures.base.1 low) refl))
    (λ rest. rest) (cases_lt leaf 4) in
    c.push_line-2.ensures.text
    ∙ ap (λ t. c.args.page.now ++ t)
    (fields-face v c.requires.view leaf c.requires.shown parent.middle c.base_of.result.0.now
    c.base_of.result.1.now
    (child-apex n leaf v.numbers.now parent big there face)
    (c.base_of.ensures.v0 n v.numbers.now face)
    (c.base_of.ensures.v1 n v.numbers.now face))
