-- What a sink of bytes tells, and what a write to it does. This project's own words.
use Rattle.std.specs.Prelude.{◌≡◌, ℕ, List, ◌++◌, take, Option, Some, Result, IfOk, OnOk, OnErr}
use Rattle.roam_edge.specs.Told.{IsPrefix}

-- writing appends the piece, and failing appends a prefix of it
-- `before` and `now` are the bytes of the sink
pub record Appends {T E : Type 0} (before now : Option (List ℕ)) (piece : List ℕ) (answer : Result T E) : Type 0 where
  pub ok : OnOk answer ((all : List ℕ) → before ≡ Some all → now ≡ Some (all ++ piece))
  pub failed : OnErr answer ((all : List ℕ) → before ≡ Some all
      → (front : List ℕ) × IsPrefix front piece × (now ≡ Some (all ++ front)))

-- one write appends a prefix of the piece, as long as it answers, and failing appends nothing
pub record AppendsSome {E : Type 0} (before now : Option (List ℕ)) (piece : List ℕ) (answer : Result ℕ E) : Type 0 where
  pub ok : IfOk answer (λ k. (all : List ℕ) → before ≡ Some all → now ≡ Some (all ++ take k piece))
  pub failed : OnErr answer ((all : List ℕ) → before ≡ Some all → now ≡ Some all)
