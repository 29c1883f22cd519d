use Rattle.std.proofs.Common.{◌≡◌, ◌≢◌, ℕ, ◌+◌, ◌-◌, ◌^◌, ◌≤◌, ◌∙◌, ap, arith, slice_index}
use Rattle.std.proofs.lemmas.Nat.{same_from_place}
use Rattle.std.proofs.lemmas.List.{get_or-set_other}
use Rattle.mesh_defs.specs.HeightField.{HeightField, place_of}
use Rattle.pgm_grid.proofs.grid.Grid.put.Goals as goal

-- two points of the grid have two places
places_differ : (n x y i j : ℕ) → x ≤ 2 ^ n → y ≤ 2 ^ n → i ≤ 2 ^ n → j ≤ 2 ^ n → (i ≡ x → j ≡ y → ⊥) →
    place_of n i j ≢ place_of n x y
places_differ n x y i j x_in y_in i_in j_in apart same =
    let parts = same_from_place (2 ^ n - j) i (2 ^ n - y) x (2 ^ n + 1) (omega arith) (omega arith) same in
    let row : j ≡ y = omega (arith, parts.0) in
    apart parts.1 row

pub returns-clause-others : goal.returns-clause-others
returns-clause-others c = λ i j i_in j_in apart.
    let differs : place_of c.args.self.now.n i j ≢ c.place-place.result =
    λ e. places_differ c.args.self.now.n c.args.x c.args.y i j c.requires.in_columns c.requires.in_rows i_in j_in apart
    (e ∙ c.place-place.ensures.value) in
    let place = place_of c.args.self.now.n i j in
    get_or-set_other c.self.inside.heights.items c.place-place.result place c.args.h 0 differs
    ∙ ap (λ (g : HeightField). slice_index g.heights place) c.self.view_is
