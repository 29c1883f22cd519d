-- Contents that an object tells, or keeps to itself: an option, with None where it tells nothing.
-- This project's own words.
use Rattle.std.specs.Prelude.{◌≡◌, List, ℕ, ◌++◌, Option, is_some}

-- who tells goes on telling, and who does not tell goes on so
abbrev pub StaysTold : {A : Type 0} → Option A → Option A → Type 0
StaysTold before now = is_some now ≡ is_some before

-- the bytes of `prefix` are the first of `whole`
pub record IsPrefix (prefix whole : List ℕ) : Type 0 where
  pub back : List ℕ
  pub joined : whole ≡ prefix ++ back
