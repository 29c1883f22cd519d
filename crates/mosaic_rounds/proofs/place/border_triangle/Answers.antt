-- The triangle centred at the point, if it has no mate.
use Rattle.std.proofs.Common.{◌≡◌, ◌^◌, refl, sym, ◌∙◌, subst}
use Rattle.mesh_laws.specs.Vertex.{centre_of, IsSquareCorner}
use Rattle.mesh_laws.proofs.VertexLemmas.{centre-inside}
use Rattle.mosaic_rounds.proofs.PlaceAtLemmas.{centre-in, centre-one, centre-mateless}
use Rattle.mosaic_rounds.proofs.place.border_triangle.Goals as goal

pub returns-in_default-clause-none : goal.returns-in_default-clause-none
returns-in_default-clause-none c = λ none a border at.
    c.in_default.ensures.none refl (centre_of c.args.n a) (centre-in c.args.n a) at

pub returns-in_default-centred_at-clause-none : goal.returns-in_default-centred_at-clause-none
returns-in_default-centred_at-clause-none c = λ none a border at.
    let there : centre_of c.args.n a ≡ c.in-Some.point =
    c.in-Some.ensures.only (centre_of c.args.n a) (centre-in c.args.n a) at in
    centre-inside c.args.n a border.splittable
    (subst (IsSquareCorner (2 ^ c.args.n)) (sym there) (c.in_default-centred_at.ensures.corner.0 refl))

pub returns-in-Some-mate-clause-none : goal.returns-in-Some-mate-clause-none
returns-in-Some-mate-clause-none c = λ none a border at.
    let there : centre_of c.args.n a ≡ c.in-Some.point =
    c.in-Some.ensures.only (centre_of c.args.n a) (centre-in c.args.n a) at in
    centre-mateless c.args.n a c.in-Some-centred_at.t c.in-Some-mate.field-0 border
    c.in-Some-centred_at.ensures.splittable (there ∙ sym c.in-Some-centred_at.ensures.centre)
    ((c.in-Some-mate.ensures.mate c.in-Some-mate.field-0).0 refl)

pub returns-in-None-clause-only : goal.returns-in-None-clause-only
returns-in-None-clause-only c = λ a border at.
    let there : centre_of c.args.n a ≡ c.in-Some.point =
    c.in-Some.ensures.only (centre_of c.args.n a) (centre-in c.args.n a) at in
    centre-one c.args.n a c.in-Some-centred_at.t border c.in-Some-centred_at.ensures.splittable
    (there ∙ sym c.in-Some-centred_at.ensures.centre)
