-- The draws of a mesh: its triangles, depth first, cut into runs of one page each.
-- All of it is this project's own.
-- Words: located, AreInReach, draw_at, are_of_one_page, joined, draws_from, draws_of, draw_indices, page_of,
-- pages_drawn, AreInTurn, AreApart, goes_on, with_next.
use Rattle.std.specs.Prelude.{◌≡◌, ℕ, suc, ◌+◌, ◌≤◌, Bool, ◌&&◌, false, nat_eq, cond, List, [], ◌∷◌, map, All, replicate, ⊤}
use Rattle.std.specs.Prelude.{Option, None, Some}
use Rattle.std.specs.List.{flat_map}
use Rattle.mesh_defs.specs.declared.point.Point.{Point}
use Rattle.mesh_arrays.specs.Indices.{indices_at}
use Rattle.page_store.specs.declared.locate.PageTriangle.{PageTriangle}
use Rattle.page_store.specs.Store.{Store}
use Rattle.page_store.specs.Locate.{IsInReach, page_triangle}
use Rattle.world_loop.specs.declared.draws.Draw.{Draw}

-- triangles, each in the finest loaded page that it lies in
abbrev pub located : Store → List ℕ → List PageTriangle
located s triangles = map (page_triangle s) triangles

-- each is a half of the terrain, or has a known parent
abbrev pub AreInReach : Store → List ℕ → Type 0
AreInReach s triangles = All (IsInReach s) triangles

-- the draw of one triangle, of this number
abbrev pub draw_at : PageTriangle → ℕ → Draw
draw_at r number = record { q = r.q; column = r.square.x; row = r.square.y; first = number; triangles = 1 }

-- the draws are of one page
abbrev pub are_of_one_page : Draw → Draw → Bool
are_of_one_page d e = nat_eq d.q e.q && (nat_eq d.column e.column && nat_eq d.row e.row)

-- a draw and those behind it, the first of which it takes in where they are of one page
abbrev pub joined : Draw → List Draw → List Draw
joined d [] = d ∷ []
joined d (e ∷ draws) = cond (are_of_one_page d e) (record d { triangles = d.triangles + e.triangles } ∷ draws)
    (d ∷ (e ∷ draws))

-- the draws of triangles that are numbered from this number on
abbrev pub draws_from : ℕ → List PageTriangle → List Draw
draws_from number [] = []
draws_from number (r ∷ more) = joined (draw_at r number) (draws_from (suc number) more)

-- The draws of triangles that are numbered from 0 on.
unfoldable pub draws_of : Store → List ℕ → List Draw
draws_of s triangles = draws_from 0 (located s triangles)

-- The places of the triangles' corners, each among the heights of its page: apex, v0 and v1.
unfoldable pub draw_indices : Store → List ℕ → List ℕ
draw_indices s triangles = flat_map (λ a. indices_at s.n (page_triangle s a).corners) triangles

-- the resolution and the square of a triangle's page
abbrev pub page_of : PageTriangle → ℕ × Point
page_of r = (r.q, r.square)

-- those of the page of each triangle that is drawn
abbrev pub pages_drawn : List Draw → List (ℕ × Point)
pages_drawn draws = flat_map (λ d. replicate d.triangles (d.q, record { x = d.column; y = d.row })) draws

-- the draws follow one another from one number to another, and each has some triangles
abbrev pub AreInTurn : ℕ → List Draw → ℕ → Type 0
AreInTurn number [] end = number ≡ end
AreInTurn number (d ∷ draws) end =
    (d.first ≡ number) × (1 ≤ d.triangles) × AreInTurn (number + d.triangles) draws end

-- no two neighbours are of one page
abbrev pub AreApart : List Draw → Type 0
AreApart [] = ⊤
AreApart (d ∷ []) = ⊤
AreApart (d ∷ (e ∷ draws)) = (are_of_one_page d e ≡ false) × AreApart (e ∷ draws)

-- the last draw so far is of the page of the next triangle
abbrev pub goes_on : Option Draw → PageTriangle → Bool
goes_on None r = false
goes_on (Some d) r = are_of_one_page d (draw_at r 0)

-- the last draw with the next triangle, of this number
abbrev pub with_next : Option Draw → PageTriangle → ℕ → Draw
with_next None r number = draw_at r number
with_next (Some d) r number =
    cond (are_of_one_page d (draw_at r 0)) (record d { triangles = d.triangles + 1 }) (draw_at r number)
