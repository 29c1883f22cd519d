-- What a watched shelf and a watched sink keep. This project's own.
-- Words: Watched, kept_head, kept_size, WatchedLine, kept_line.
use Rattle.std.specs.Prelude.{ℕ, ◌+◌, ◌^◌, ◌-◌, ◌==◌, min, if◌then◌else◌, List, [], ◌∷◌, ◌++◌, take, length}

-- a watched shelf: the one that its calls are handed on to; how many files were opened; of the file that was opened
-- first the first bytes that were read, and how many were read
pub record Watched (F : Type 0) : Type 0 where
  pub shelf : F
  pub opens : ℕ
  pub head : List ℕ
  pub size : ℕ

-- The first bytes, once this piece of the open file was read: it comes behind what is kept, as far as there is room for
-- 512 bytes, where the open file is the first one.
abbrev pub kept_head : ℕ → List ℕ → List ℕ → List ℕ
kept_head opens kept piece = if opens == 1 then take 512 (kept ++ piece) else kept

-- how many bytes of the first file were read, once this piece of the open file was; the count stands still at 2 ^ 64 - 1
abbrev pub kept_size : ℕ → ℕ → List ℕ → ℕ
kept_size opens size piece = if opens == 1 then min (size + length piece) (2 ^ 64 - 1) else size

-- a watched sink: the one that its calls are handed on to, and the first bytes of the last piece that is not empty
pub record WatchedLine (S : Type 0) : Type 0 where
  pub sink : S
  pub line : List ℕ

-- the first bytes of the last piece that is not empty, once this piece was written: at most 64
abbrev pub kept_line : List ℕ → List ℕ → List ℕ
kept_line kept [] = kept
kept_line kept (byte ∷ piece) = take 64 (byte ∷ piece)
