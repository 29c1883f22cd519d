-- How a shelf in memory keeps its files, and the place up to which one was read.
-- This project's own words.
use Rattle.std.specs.Prelude.{◌≡◌, ℕ, ◌<◌, ◌≤◌, List, [], length, drop, slice_get, Option, Some, None, string_bytes}
use Rattle.roam_edge.specs.Shelf.{NamedFile}
use Rattle.edge_doubles.specs.declared.stored_file.StoredFile.{StoredFile}

-- a file as a name and its bytes
abbrev pub file_of : StoredFile → NamedFile
file_of file = record { name = string_bytes file.name; bytes = file.bytes.items }

-- the bytes of a file, where there is one
abbrev pub bytes_if : Option StoredFile → List ℕ
bytes_if None = []
bytes_if (Some file) = file.bytes.items

-- the bytes of the file at this place
abbrev pub bytes_at : List StoredFile → ℕ → List ℕ
bytes_at files place = bytes_if (slice_get files place)

-- the unread bytes: those of the chosen file behind the ones that were taken
abbrev pub unread_at : List StoredFile → Option ℕ → ℕ → List ℕ
unread_at files None taken = []
unread_at files (Some place) taken = drop taken (bytes_at files place)

-- a chosen file is there, and no more than its bytes were taken
abbrev pub IsFilePlace : List StoredFile → Option ℕ → ℕ → Type 0
IsFilePlace files chosen taken =
    (place : ℕ) → chosen ≡ Some place → (place < length files) × (taken ≤ length (bytes_at files place))
