-- A closed set as flags, and the members that came since another set, in the order in which they came.
-- Words: nothing, IsLogSince, IsLog, IsLogged, KeepsLog, Extends, HasLogSince, HasLog.
use Rattle.std.specs.Prelude.{◌≡◌, ℕ, ◌+◌, ◌*◌, ◌^◌, Bool, false, ◌||◌, IsTrue, List, length, ◌++◌, nat_eq, count_by}
use Rattle.mesh_defs.specs.ClosedSet.{IsClosed, among}
use Rattle.mesh_laws.specs.Sweep.{is_flagged}

-- the empty set
abbrev pub nothing : ℕ → Bool
nothing a = false

-- the log lists, each once, the flagged triangles that are not in the set before
pub record IsLogSince (before : ℕ → Bool) (flags : List Bool) (log : List ℕ) : Type 0 where
  pub same : (a : ℕ) → is_flagged flags a ≡ (before a || among log a)
  pub new : (a : ℕ) → IsTrue (among log a) → before a ≡ false
  pub once : (a : ℕ) → IsTrue (among log a) → count_by (λ t. nat_eq t a) log ≡ 1

-- the log lists the flagged triangles, each once
abbrev pub IsLog : List Bool → List ℕ → Type 0
IsLog flags log = IsLogSince nothing flags log

-- it is the log since some set
abbrev pub IsLogged : List Bool → List ℕ → Type 0
IsLogged flags log = (before : ℕ → Bool) × IsLogSince before flags log

-- a log since a set is followed by a log since that set
abbrev pub KeepsLog : List Bool → List ℕ → List Bool → List ℕ → Type 0
KeepsLog flags log next more = (before : ℕ → Bool) → IsLogSince before flags log → IsLogSince before next more

-- all begins with some
abbrev pub Extends : List ℕ → List ℕ → Type 0
Extends some all = (more : List ℕ) × (all ≡ some ++ more)

-- a closed set, in a table of its grid, with its log since another set
pub record HasLogSince (n : ℕ) (before : ℕ → Bool) (flags : List Bool) (log : List ℕ) : Type 0 where
  pub room : length flags ≡ 2 ^ (2 * n + 1)
  pub logged : IsLogSince before flags log
  pub closed : IsClosed n (is_flagged flags)

-- with the log of all its members
abbrev pub HasLog : ℕ → List Bool → List ℕ → Type 0
HasLog n flags log = HasLogSince n nothing flags log
