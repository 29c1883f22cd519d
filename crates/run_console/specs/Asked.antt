-- What words ask for that are no command. This project's own.
-- Words: is_only, is_help, asked_of.
use Rattle.std.specs.Prelude.{ℕ, Bool, false, ◌||◌, if◌then◌else◌, List, [], ◌∷◌, Option, Some, None, codes, bytes_eq}
use Rattle.std.specs.List.{list_any}
use Rattle.run_console.specs.declared.usage.Asked.{Asked}
use Rattle.run_console.specs.declared.usage.Asked.TheVariants.{Version, Usage}

-- this is the only word
abbrev pub is_only : List ℕ → List (List ℕ) → Bool
is_only text [] = false
is_only text (word ∷ []) = bytes_eq word text
is_only text (word ∷ (next ∷ words)) = false

-- the word asks for the forms of the words, wherever it stands
abbrev pub is_help : List ℕ → Bool
is_help word = bytes_eq word (codes "--help") || bytes_eq word (codes "-h")

-- What words ask for that are no command: the version, or the forms of the words.
abbrev pub asked_of : List (List ℕ) → Option Asked
asked_of words =
    if is_only (codes "--version") words then Some Version
    else if is_only (codes "help") words || list_any is_help words then Some Usage
    else None
