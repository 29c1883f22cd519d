-- A file of which a read failed. This project's own.
use Rattle.std.specs.Prelude.{◌≡◌, ℕ, Bool, true, false, List, [], ◌++◌, Option, Some}

-- A read of this file failed, or its opening, and then none of it was read. Of what was read this holds.
pub record StopsReading (holds : List ℕ → Type 0) (file : List ℕ) (rest : Option (List ℕ)) (ended : Bool) : Type 0 where
  pub read : List ℕ
  pub unread : List ℕ
  pub cut : file ≡ read ++ unread
  pub not_opened : ended ≡ true → read ≡ []
  pub left : ended ≡ false → rest ≡ Some unread
  pub has_read : holds read
