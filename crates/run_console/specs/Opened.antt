-- The files of a command in the order in which they are opened, and what each of them is. This project's own.
-- Words: file_roles, roles_of, entry, opened_name, opened_role.
use Rattle.std.specs.Prelude.{ℕ, zero, suc, List, [], ◌∷◌, Option, Some, None}
use Rattle.run_words.specs.declared.role.Role.{Role}
use Rattle.run_words.specs.declared.role.Role.TheVariants.{Grid}
use Rattle.run_words.specs.Words.{Command, OnGrid, Generated}
use Rattle.run_words.specs.Jobs.{File, job_row, names_of}

-- what these files are
abbrev pub file_roles : List File → List Role
file_roles [] = []
file_roles (f ∷ files) = f.role ∷ file_roles files

-- what the files of a command are, in the order of their names
abbrev pub roles_of : Command → List Role
roles_of (OnGrid grid job) = Grid ∷ file_roles (job_row job).files
roles_of (Generated n seed) = []

-- an entry of a list, counted from 1
abbrev pub entry : {A : Type 0} → List A → ℕ → Option A
entry xs zero = None
entry [] (suc k) = None
entry (x ∷ xs) (suc zero) = Some x
entry (x ∷ xs) (suc (suc k)) = entry xs (suc k)

-- the name of the file that is opened as the k-th one
abbrev pub opened_name : Option Command → ℕ → Option (List ℕ)
opened_name None k = None
opened_name (Some command) k = entry (names_of command) k

-- what that file is
abbrev pub opened_role : Option Command → ℕ → Option Role
opened_role None k = None
opened_role (Some command) k = entry (roles_of command) k
