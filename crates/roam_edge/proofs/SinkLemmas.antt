-- Lemmas on a piece that is handed over prefix by prefix.
use Rattle.std.proofs.Common.{◌≡◌, ℕ, ◌+◌, ◌-◌, List, ◌++◌, length, take, drop, Option, Some, ap, ◌∙◌, append_assoc}
use Rattle.std.proofs.Common.{arith}
use Rattle.std.proofs.Math.Seq.{take-add}
use Rattle.std.proofs.lemmas.Slice.{between_to_end}

-- the bytes before, the piece so far and the prefix that was just handed over
take-handed : (all piece : List ℕ) (done count : ℕ)
    → (all ++ take done piece) ++ take count (take (length piece - done) (drop done piece))
    ≡ all ++ take (done + count) piece
take-handed all piece done count =
    rw (
      between_to_end piece done (length piece) (omega arith),
      take-add done count piece,
      append_assoc all (take done piece) (take count (drop done piece)),
    )

-- what is told after one more prefix
pub told_more : (known : Option (List ℕ)) (all piece : List ℕ) (done count : ℕ)
    → known ≡ Some ((all ++ take done piece) ++ take count (take (length piece - done) (drop done piece)))
    → known ≡ Some (all ++ take (done + count) piece)
told_more known all piece done count told = told ∙ ap Some (take-handed all piece done count)
