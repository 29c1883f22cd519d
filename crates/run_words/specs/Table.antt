-- The table of the commands: the words of each, one behind the other. This project's own.
-- Words: Row, row, commands, tasks, goals, row_of.
use Rattle.std.specs.Prelude.{ℕ, if◌then◌else◌, List, [], ◌∷◌, Option, Some, None, codes, bytes_eq}
use Rattle.run_words.specs.declared.table.Wanted.{Wanted}
use Rattle.run_words.specs.declared.table.Wanted.TheVariants.{Task, Goal, Keep, Error, Grid, Script, Mesh, Certificate}
use Rattle.run_words.specs.declared.table.Wanted.TheVariants.{Points, Prefix, X, Y, Z, Level, Seed, Budget, Tolerance}
use Rattle.run_words.specs.declared.table.Wanted.TheVariants.{Spacing}
use Rattle.run_words.specs.declared.table.Kind.{Kind}
use Rattle.run_words.specs.declared.table.Kind.TheVariants as kinds

-- a row: a word, the command that it names, and what is wanted behind it
pub record Row : Type 0 where
  pub word : List ℕ
  pub kind : Option Kind
  pub behind : List Wanted

abbrev pub row : List ℕ → Option Kind → List Wanted → Row
row name names places = record { word = name; kind = names; behind = places }

-- the commands; `certify` is named by one word more
abbrev pub commands : List Row
commands =
    row (codes "mesh") (Some kinds.Mesh) (Grid ∷ (Script ∷ (Prefix ∷ (Budget ∷ (Spacing ∷ [])))))
    ∷ (row (codes "strip") (Some kinds.Strip) (Grid ∷ (Script ∷ (Prefix ∷ (Budget ∷ (Spacing ∷ [])))))
    ∷ (row (codes "least") (Some kinds.Least) (Grid ∷ (Script ∷ (Prefix ∷ (Tolerance ∷ (Spacing ∷ [])))))
    ∷ (row (codes "measure") (Some kinds.Measure) (Grid ∷ (Script ∷ (Budget ∷ (Spacing ∷ []))))
    ∷ (row (codes "certify") None (Task ∷ [])
    ∷ (row (codes "fit") (Some kinds.Fit) (Grid ∷ (Prefix ∷ (Goal ∷ [])))
    ∷ (row (codes "info") (Some kinds.Info) (Grid ∷ [])
    ∷ (row (codes "try") (Some kinds.Try) (Level ∷ (Seed ∷ []))
    ∷ [])))))))

-- the tasks of `certify`
abbrev pub tasks : List Row
tasks =
    row (codes "make") (Some kinds.Make) (Grid ∷ (X ∷ (Y ∷ (Z ∷ (Budget ∷ (Spacing ∷ []))))))
    ∷ (row (codes "check") (Some kinds.Check) (Grid ∷ (Mesh ∷ (Certificate ∷ (Budget ∷ (Spacing ∷ [])))))
    ∷ (row (codes "make-fit") (Some kinds.MakeFit) (Grid ∷ (Goal ∷ []))
    ∷ (row (codes "check-fit") (Some kinds.CheckFit) (Grid ∷ (Mesh ∷ (Certificate ∷ (Goal ∷ []))))
    ∷ [])))

-- what a mesh is fitted to: an error, behind which points may be kept, or a budget
abbrev pub goals : List Row
goals =
    row (codes "error") None (Error ∷ (Spacing ∷ (Keep ∷ (Points ∷ []))))
    ∷ (row (codes "budget") None (Budget ∷ (Spacing ∷ []))
    ∷ [])

-- the row of a word
abbrev pub row_of : List Row → List ℕ → Option Row
row_of [] word = None
row_of (r ∷ rows) word = if bytes_eq r.word word then Some r else row_of rows word
