-- The line of a point that a mesh needs since it is kept. This project's own format; fields are cut as those of a script.
-- Words: need_text, ended_need, need_of, need_fields, need_in, need_is.
use Rattle.std.specs.Prelude.{◌≡◌, refl, ℕ, ◌+◌, ◌^◌, if◌then◌else◌, List, [], ◌∷◌, ◌++◌, Option, Some, None, codes}
use Rattle.std.specs.Prelude.{bytes_eq}
use Rattle.mesh_defs.specs.declared.point.Point.{Point}
use Rattle.cert_text.specs.Lines.{line_of, number_below, ended, field_text}

-- its word, its column and its row, with one blank before each of them
abbrev pub need_text : Point → List ℕ
need_text p = codes "need" ++ field_text p.x ++ field_text p.y

-- and an LF
abbrev pub ended_need : Point → List ℕ
ended_need p = ended (need_text p)

-- the point of a column and a row
abbrev pub need_of : Option ℕ → Option ℕ → Option Point
need_of (Some i) (Some j) = Some (record { x = i; y = j })
need_of _ _ = None

-- the word, a column and a row of the grid
abbrev pub need_fields : ℕ → List (List ℕ) → Option Point
need_fields n (word ∷ (x ∷ (y ∷ []))) =
    if bytes_eq word (codes "need") then need_of (number_below (2 ^ n + 1) x) (number_below (2 ^ n + 1) y) else None
need_fields n _ = None

-- The point that these bytes are the line of, for the grid with this n.
unfoldable pub need_in : ℕ → List ℕ → Option Point
need_in n bytes = line_of (need_fields n) bytes

-- it is what its fields say
pub need_is : (n : ℕ) (bytes : List ℕ) → need_in n bytes ≡ line_of (need_fields n) bytes
unfolding need_in
need_is n bytes = refl
