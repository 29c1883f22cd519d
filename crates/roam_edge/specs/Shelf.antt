-- What a shelf of named files tells, and what its calls do. This project's own words.
use Rattle.std.specs.Prelude.{◌≡◌, ℕ, ◌<◌, ◌≤◌, Bool, true, List, [], ◌∷◌, ◌++◌, length, take, drop, Option, Some}
use Rattle.std.specs.Prelude.{Result, IfOk, OnOk, OnErr, ◌↔◌, bytes_eq, if◌then◌else◌}
use Rattle.roam_edge.specs.Told.{StaysTold}

-- a file of a shelf: its name and its bytes
pub record NamedFile : Type 0 where
  pub name : List ℕ
  pub bytes : List ℕ

-- the bytes of the first file of this name, and no byte where there is no such file
abbrev pub bytes_of : List NamedFile → List ℕ → List ℕ
bytes_of [] name = []
bytes_of (file ∷ files) name = if bytes_eq file.name name then file.bytes else bytes_of files name

-- opening by name chooses the first file of that name and leaves all its bytes unread
-- `files` is what the shelf tells, `before` and `now` are the unread bytes
pub record Opens {T E : Type 0} (files : Option (List NamedFile)) (before now : Option (List ℕ)) (name : List ℕ)
    (answer : Result T E) : Type 0 where
  pub chosen : OnOk answer ((all : List NamedFile) → files ≡ Some all → now ≡ Some (bytes_of all name))
  pub nothing_chosen : OnErr answer ((unread : List ℕ) → before ≡ Some unread → now ≡ Some [])
  pub told : StaysTold before now

-- a read takes the first unread bytes and puts them in front of the buffer
-- `before` and `now` are the unread bytes, `old` and `new` the buffer
pub record Reads {E : Type 0} (before now : Option (List ℕ)) (old new : List ℕ) (answer : Result ℕ E) : Type 0 where
  pub within : IfOk answer (λ k. (unread : List ℕ) → before ≡ Some unread → k ≤ length unread)
  pub takes : IfOk answer (λ k. (unread : List ℕ) → before ≡ Some unread → now ≡ Some (drop k unread))
  pub gives : IfOk answer (λ k. (unread : List ℕ) → before ≡ Some unread → new ≡ take k unread ++ drop k old)
  pub empty : IfOk answer (λ k. (unread : List ℕ) → before ≡ Some unread → (k ≡ 0) ↔ (unread ≡ []))
  pub kept : OnErr answer (now ≡ before)
  pub told : StaysTold before now

-- a read that gives no byte ends the file, and every other answer leaves it as it is
pub record Ends {E : Type 0} (before now : Bool) (answer : Result ℕ E) : Type 0 where
  pub at_end : IfOk answer (λ k. k ≡ 0 → now ≡ true)
  pub goes_on : IfOk answer (λ k. 0 < k → now ≡ before)
  pub failed : OnErr answer (now ≡ before)
