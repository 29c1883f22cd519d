-- How far the bytes of a file of points lead: its points in order, up to its end or to the first line that is refused.
-- This project's own.
-- Words: with_point, points_behind, points_in, PointPlace, HavePointsCome, PointsHaveRead, TakesPoints.
use Rattle.std.specs.Prelude.{◌≡◌, ◌≢◌, ℕ, ◌+◌, ◌≤◌, ◌⊎◌, List, [], ◌∷◌, ◌++◌, length, All, Option, Some, None, Result}
use Rattle.std.specs.Prelude.{Ok, Err, OnOk}
use Rattle.mesh_defs.specs.declared.point.Point.{Point}
use Rattle.roam_script.specs.declared.limits.TheConstants.{MOST_LINE_BYTES}
use Rattle.roam_script.specs.PointText.{most_points, point_in}
use Rattle.run_laws.specs.Walk.{Refusal, lines_of, AreWhole}
use Rattle.run_laws.specs.CertFile.{FilePlace}

-- these points, and that of one line more, where it has one
abbrev pub with_point : List Point → Option Point → List Point
with_point points None = points
with_point points (Some at) = points ++ at ∷ []

-- the points behind these lines, of which the first has this number; or the refusal of the first that is refused
abbrev pub points_behind : ℕ → ℕ → List Point → List (List ℕ) → Result (List Point) Refusal
points_behind n number points [] = Ok points
points_behind n number points (bytes ∷ lines) = elim (point_in n number bytes) as (λ _. Result (List Point) Refusal) [
  | Err why ↦ Err (record { line = number; fault = why })
  | Ok at ↦ points_behind n (number + 1) (with_point points at) lines
]

-- The points that a file's bytes are, of the grid with this n, in the order of its lines; or the first line that is
-- refused, and why.
unfoldable pub points_in : ℕ → List ℕ → Result (List Point) Refusal
points_in n bytes = points_behind n 1 [] (lines_of bytes)

-- how far a file was read: the points of its whole lines, how many lines they are, and the line that has begun
abbrev pub PointPlace : Type 0
PointPlace = FilePlace (List Point)

-- The place was reached by these bytes of a file: its whole lines are accepted, and the line that has begun has no LF
-- yet, no more bytes than a line may have, and stands behind no more lines than there may be.
pub record HavePointsCome (n : ℕ) (read : List ℕ) (here : PointPlace) : Type 0 where
  pub whole : List ℕ
  pub cut : read ≡ whole ++ here.begun
  pub ended : AreWhole whole
  pub accepted : points_in n whole ≡ Ok here.said
  pub counted : length (lines_of whole) ≡ here.lines
  pub one_line : All (λ byte. byte ≢ 10) here.begun
  pub short : length here.begun ≤ MOST_LINE_BYTES
  pub last : (here.begun ≡ []) ⊎ (here.lines + 1 ≤ most_points n)

-- so much of a file of points was read, and no line of it was refused
abbrev pub PointsHaveRead : ℕ → List ℕ → Type 0
PointsHaveRead n read = (here : PointPlace) × HavePointsCome n read here

-- what taking bytes does, by its answer: a place was reached, or a line is refused, whatever follows
pub record TakesPoints {T E : Type 0} (n : ℕ) (refused : Refusal → E) (read : List ℕ) (here : PointPlace)
    (answer : Result T E) : Type 0 where
  pub ok : OnOk answer (HavePointsCome n read here)
  pub refusal : (why : Refusal) → answer ≡ Err (refused why) → (more : List ℕ) → points_in n (read ++ more) ≡ Err why
