-- What the adapters to real files do to the file that is open, in the words of std: which bytes a reader has left,
-- which bytes a writer holds, where the file tells them. This project's own words.
use Rattle.std.specs.Prelude.{◌≡◌, ℕ, ◌<◌, List, take, Option, Some, None, Result, IfOk, OnErr}
use Rattle.std.specs.Io.KnownBytes.{Consumes, IsAtEnd, Keeps}

-- what the open file tells; nothing where none is open
abbrev pub of_open : {F : Type 0} → (F → Option (List ℕ)) → Option F → Option (List ℕ)
of_open tells None = None
of_open tells (Some file) = tells file

-- a read of a file gives the first of the bytes that it has left and takes them, gives no byte only where none is left,
-- and takes nothing where it fails
-- `before` and `now` are the bytes that the file has left, `buf` is the buffer after the read
pub record TakesNext {E : Type 0} (before now : Option (List ℕ)) (buf : List ℕ) (answer : Result ℕ E) : Type 0 where
  pub some : IfOk answer (λ k. 0 < k → Consumes before now (take k buf))
  pub none : IfOk answer (λ k. k ≡ 0 → IsAtEnd before)
  pub failed : OnErr answer (Keeps before now)
