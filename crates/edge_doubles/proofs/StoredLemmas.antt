-- Lemmas on the files of a shelf in memory, to which one more comes.
use Rattle.std.proofs.Common.{◌≡◌, ℕ, zero, suc, ◌<◌, true, List, [], ◌∷◌, ◌++◌, length, drop, map, get_or, slice_get}
use Rattle.std.proofs.Common.{Option, Some, None, refl, sym, ap, arith, ◌∙◌, bytes_eq, if◌then◌else◌}
use Rattle.std.specs.Prelude.{string_bytes}
use Rattle.std.proofs.Math.Seq.{drop-cons}
use Rattle.std.proofs.lemmas.Option.{slice_get_read}
use Rattle.roam_edge.specs.Shelf.{bytes_of}
use Rattle.edge_doubles.specs.declared.stored_file.StoredFile.{StoredFile}
use Rattle.edge_doubles.specs.StoredFile.{file_of, bytes_if, bytes_at, unread_at, IsFilePlace}

-- the files that are there keep their places
bytes_at-append : (files more : List StoredFile) (place : ℕ) → place < length files →
    bytes_at (files ++ more) place ≡ bytes_at files place
bytes_at-append [] more place within = absurd (omega arith)
bytes_at-append (file ∷ files) more zero within = refl
bytes_at-append (file ∷ files) more (suc place) within = bytes_at-append files more place (omega arith)

unread_at-append : (files more : List StoredFile) (chosen : Option ℕ) (taken : ℕ) → IsFilePlace files chosen taken
    → unread_at (files ++ more) chosen taken ≡ unread_at files chosen taken
unread_at-append files more None taken is = refl
unread_at-append files more (Some place) taken is =
    ap (λ (bytes : List ℕ). drop taken bytes) (bytes_at-append files more place (is place refl).0)

map-append : (files more : List StoredFile) → map file_of (files ++ more) ≡ map file_of files ++ map file_of more
map-append [] more = refl
map-append (file ∷ files) more = ap (λ all. file_of file ∷ all) (map-append files more)

-- what is unread stays so where a file comes behind the others
pub unread_at-grown : (now before : List StoredFile) (file : StoredFile) (chosen : Option ℕ) (taken : ℕ) →
    now ≡ before ++ file ∷ []
    → IsFilePlace before chosen taken → unread_at now chosen taken ≡ unread_at before chosen taken
unread_at-grown now before file chosen taken grown is =
    ap (λ (files : List StoredFile). unread_at files chosen taken) grown
    ∙ unread_at-append before (file ∷ []) chosen taken is

pub map-grown : (now before : List StoredFile) (file : StoredFile) → now ≡ before ++ file ∷ [] →
    map file_of now ≡ map file_of before ++ file_of file ∷ []
map-grown now before file grown =
    ap (λ (files : List StoredFile). map file_of files) grown ∙ map-append before (file ∷ [])

-- the first file of a name is the one at which the search stops
pub found-here : (files : List StoredFile) (name : List ℕ) (place index : ℕ) (file : StoredFile) →
    place ≡ index → index < length files
    → file ≡ get_or files index file → bytes_eq (string_bytes file.name) name ≡ true
    → bytes_of (map file_of files) name ≡ bytes_of (map file_of (drop index files)) name →
    bytes_at files place ≡ bytes_of (map file_of files) name
found-here files name place index file counted within is same all =
    let here : slice_get files index ≡ Some file = slice_get_read files (length files) index file refl within is in
    let behind : List StoredFile = drop (suc index) files in
    let front : drop index files ≡ file ∷ behind =
    drop-cons files index file within ∙ ap (λ (f : StoredFile). f ∷ behind) (sym is) in
    let first : bytes_of (map file_of (file ∷ behind)) name ≡ file.bytes.items =
    ap (λ b. if b then file.bytes.items else bytes_of (map file_of behind) name) same in
    ap (λ k. bytes_at files k) counted ∙ ap bytes_if here
    ∙ sym (all ∙ ap (λ (fs : List StoredFile). bytes_of (map file_of fs) name) front ∙ first)
