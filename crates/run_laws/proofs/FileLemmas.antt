-- A file that is read from a shelf, piece by piece: what was read of it, and what is unread, also where a read fails.
use Rattle.std.proofs.Common.{◌≡◌, ℕ, ◌+◌, ◌<◌, ◌≤◌, Bool, true, false, List, [], ◌∷◌, ◌++◌, length, take, drop, get_or}
use Rattle.std.proofs.Common.{Option, Some, None, Result, Ok, Err, OnOk, IfOk, is_some, refl, sym, ◌∙◌, ap, append_assoc}
use Rattle.std.proofs.Common.{append-nil}
use Rattle.std.proofs.Math.Seq.{take-append_seam}
use Rattle.std.proofs.lemmas.List.{take-append-drop, take_more, length-take-le}
use Rattle.roam_edge.specs.Fault.{next_count, IsInTime}
use Rattle.roam_edge.specs.Shelf.{NamedFile, bytes_of, Reads}
use Rattle.roam_edge.specs.Told.{StaysTold}
use Rattle.run_laws.specs.Moment.{Moment, OnlyReads}
use Rattle.run_laws.specs.Promise.{shelf_state, HasEnded}
use Rattle.run_laws.specs.FileStop.{StopsReading}

-- where the shelf tells its files, these bytes are the first of the named file, whose other bytes are unread
abbrev pub IsOfFile : Option (List NamedFile) → Option (List ℕ) → List ℕ → List ℕ → Type 0
IsOfFile files rest name bytes = (all : List NamedFile) → files ≡ Some all
    → (unread : List ℕ) × (rest ≡ Some unread) × (bytes_of all name ≡ bytes ++ unread)

-- nothing was read of a file that was just opened
pub read-nothing : (files : Option (List NamedFile)) (rest : Option (List ℕ)) (name : List ℕ)
    → ((all : List NamedFile) → files ≡ Some all → rest ≡ Some (bytes_of all name)) → IsOfFile files rest name []
read-nothing files rest name chosen all is = (bytes_of all name, chosen all is, refl)

-- a read puts the first unread bytes in front of the buffer
pub piece-read : (rest : Option (List ℕ)) (count : ℕ) (new old : List ℕ)
    → ((unread : List ℕ) → rest ≡ Some unread → count ≤ length unread) →
    ((unread : List ℕ) → rest ≡ Some unread → new ≡ take count unread ++ drop count old)
    → (unread : List ℕ) → rest ≡ Some unread → take count new ≡ take count unread
piece-read rest count new old within gives unread is =
    ap (take count) (gives unread is)
    ∙ ap (λ k. take k (take count unread ++ drop count old)) (sym (length-take-le count unread (within unread is)))
    ∙ take-append_seam (take count unread) (drop count old)

-- the file is what was read, and then this piece and what is left behind it
pub file-split : (file bytes piece unread : List ℕ) (count : ℕ) → file ≡ bytes ++ unread → piece ≡ take count unread →
    file ≡ bytes ++ (piece ++ drop count unread)
file-split file bytes piece unread count cut gives =
    cut ∙ ap (λ m. bytes ++ m) (sym (take-append-drop count unread) ∙ ap (λ m. m ++ drop count unread) (sym gives))

-- the same, with the piece among what was read
pub file-cut : (file bytes piece unread : List ℕ) (count : ℕ) → file ≡ bytes ++ unread → piece ≡ take count unread →
    file ≡ (bytes ++ piece) ++ drop count unread
file-cut file bytes piece unread count cut gives =
    file-split file bytes piece unread count cut gives ∙ sym (append_assoc bytes piece (drop count unread))

-- a piece more was read
pub read-more : (files : Option (List NamedFile)) (rest rest' : Option (List ℕ)) (name bytes piece : List ℕ)
    (count : ℕ) → IsOfFile files rest name bytes
    → ((unread : List ℕ) → rest ≡ Some unread → rest' ≡ Some (drop count unread)) →
    ((unread : List ℕ) → rest ≡ Some unread → piece ≡ take count unread)
    → IsOfFile files rest' name (bytes ++ piece)
read-more files rest rest' name bytes piece count has takes gives all is =
    let here = has all is in (
      drop count here.0,
      takes here.0 here.1,
      file-cut (bytes_of all name) bytes piece here.0 count here.2 (gives here.0 here.1),
    )

-- a file of which nothing is unread is what was read
pub read-all : (files : Option (List NamedFile)) (rest : Option (List ℕ)) (name bytes : List ℕ) →
    IsOfFile files rest name bytes
    → ((unread : List ℕ) → rest ≡ Some unread → unread ≡ []) → (all : List NamedFile) → files ≡ Some all →
    bytes_of all name ≡ bytes
read-all files rest name bytes has nothing all is =
    let here = has all is in
    here.2 ∙ (ap (λ m. bytes ++ m) (nothing here.0 here.1) ∙ append-nil bytes)

-- what is told as unread is one list
pub same-unread : (xs ys : List ℕ) → Some xs ≡ Some ys → xs ≡ ys
same-unread xs ys e = cc

-- a file that is not at its end has not ended
pub not_at_end : (ended : Bool) → ended ≡ false → ended ≡ true → ⊥
not_at_end ended open_file at_end = no (sym open_file ∙ at_end)
  where
    no : false ≡ true → ⊥
    no e = cc

-- a read that gives no byte leaves nothing
pub read-end : (rest rest' : Option (List ℕ)) (count : ℕ) → count ≡ 0 →
    ((unread : List ℕ) → rest ≡ Some unread → rest' ≡ Some (drop count unread))
    → ((unread : List ℕ) → rest ≡ Some unread → unread ≡ []) → (unread : List ℕ) → rest ≡ Some unread → rest' ≡ Some []
read-end rest rest' count none takes empty unread is =
    takes unread is ∙ ap (λ k. Some (drop k unread)) none ∙ ap Some (empty unread is)

-- where nothing is left of what was told, nothing that is told is unread
nothing-told : (rest rest' : Option (List ℕ)) → StaysTold rest rest' →
    ((unread : List ℕ) → rest ≡ Some unread → rest' ≡ Some [])
    → (unread : List ℕ) → rest' ≡ Some unread → unread ≡ []
nothing-told None rest' stays left unread is = absurd (let f : true ≡ false = sym (ap is_some is) ∙ stays in cc)
nothing-told (Some bytes) rest' stays left unread is = same-unread unread [] (sym is ∙ left bytes refl)

-- the end of a file was read
pub has-ended : (files : Option (List NamedFile)) (rest rest' : Option (List ℕ)) (opens : ℕ) (ended : Bool) →
    ended ≡ true → StaysTold rest rest'
    → ((all : List NamedFile) → files ≡ Some all → (unread : List ℕ) × (rest ≡ Some unread))
    → ((unread : List ℕ) → rest ≡ Some unread → rest' ≡ Some []) → HasEnded (shelf_state files rest' opens ended)
has-ended files rest rest' opens ended at_end stays told left = record {
  at_end = at_end;
  nothing_left = λ all is. (let here = told all is in left here.0 here.1);
  nothing_unread = nothing-told rest rest' stays left;
}

-- nothing was read of a file that could not be opened
pub stops-unopened : (holds : List ℕ → Type 0) (file : List ℕ) (rest : Option (List ℕ)) (ended : Bool) → ended ≡ true →
    holds [] → StopsReading holds file rest ended
stops-unopened holds file rest ended at_end has_read = record {
  read = [];
  unread = file;
  cut = refl;
  not_opened = λ e. refl;
  left = λ e. absurd (not_at_end ended e at_end);
  has_read = has_read;
}

-- a read failed of a file of which these bytes were read before
pub stops-behind : (holds : List ℕ → Type 0) (files : Option (List NamedFile)) (rest rest' : Option (List ℕ))
    (ended : Bool) (name bytes : List ℕ)
    → IsOfFile files rest name bytes → rest' ≡ rest → ended ≡ false → holds bytes
    → (all : List NamedFile) → files ≡ Some all → StopsReading holds (bytes_of all name) rest' ended
stops-behind holds files rest rest' ended name bytes in_file kept open_file has_read all told =
    let here = in_file all told in
    record {
      read = bytes;
      unread = here.0;
      cut = here.2;
      not_opened = λ e. absurd (not_at_end ended open_file e);
      left = λ e. kept ∙ here.1;
      has_read = has_read;
    }

-- bytes behind others, cut behind one of them
pub bytes-cut : (read piece : List ℕ) (k : ℕ) → k < length piece →
    read ++ piece ≡ ((read ++ take k piece) ++ get_or piece k 0 ∷ []) ++ drop (k + 1) piece
bytes-cut read piece k below =
    let tail : List ℕ = drop (k + 1) piece in
    let cut = sym (take-append-drop (k + 1) piece) ∙ ap (λ m. m ++ tail) (take_more piece k 0 below) in
    ap (λ m. read ++ m) cut ∙ (sym (append_assoc read _ tail)
    ∙ ap (λ m. m ++ tail) (sym (append_assoc read (take k piece) _)))

-- Of the bytes that were read of the named file this holds.
pub record HasReadOf (holds : List ℕ → Type 0) (files : Option (List NamedFile)) (rest : Option (List ℕ))
    (name : List ℕ) : Type 0 where
  pub bytes : List ℕ
  pub come : holds bytes
  pub in_file : IsOfFile files rest name bytes

-- the file was opened, and no read of it failed or came to its end
pub record IsOpen (before now : Moment) : Type 0 where
  pub open_file : now.shelf.ended ≡ false
  pub only : OnlyReads before now
  pub opens : now.shelf.opens ≡ next_count before.shelf.opens
  pub faults : now.shelf_faults ≡ before.shelf_faults
  pub in_time : IsInTime before.shelf_late before.shelf_faults now.shelf_late

-- nothing was read of a file that was just opened
pub read-begin : {holds : List ℕ → Type 0} {files : Option (List NamedFile)} {rest : Option (List ℕ)} {name : List ℕ}
    → holds [] → ((all : List NamedFile) → files ≡ Some all → rest ≡ Some (bytes_of all name))
    → HasReadOf holds files rest name
read-begin {files = files} {rest = rest} {name = name} come chosen =
    record { bytes = []; come = come; in_file = read-nothing files rest name chosen }

-- One read more gives so many bytes, in front of the buffer.
module _ {holds : List ℕ → Type 0} {E : Type 0} {files : Option (List NamedFile)} {rest rest' : Option (List ℕ)}
    {name old new : List ℕ} {count : ℕ} (reading : HasReadOf holds files rest name)
    (reads : Reads {E = E} rest rest' old new (Ok count)) where
  -- they are the next of the file
  pub read-gives : (unread : List ℕ) → rest ≡ Some unread → take count new ≡ take count unread
  read-gives = piece-read rest count new old reads.within reads.gives

  -- they were taken
  pub read-on : (next : List ℕ → Type 0) → next (reading.bytes ++ take count new) → HasReadOf next files rest' name
  read-on next come = record {
    bytes = reading.bytes ++ take count new;
    come = come;
    in_file = read-more files rest rest' name reading.bytes (take count new) count reading.in_file reads.takes read-gives;
  }

  -- what they settle, whatever follows, holds of the file
  pub read-settles : {A : Type 0} (of_bytes : List ℕ → A) (answer : A)
      → ((more : List ℕ) → of_bytes ((reading.bytes ++ take count new) ++ more) ≡ answer)
      → (all : List NamedFile) → files ≡ Some all → of_bytes (bytes_of all name) ≡ answer
  read-settles of_bytes answer settled all told =
      let here = reading.in_file all told in
      ap of_bytes (file-cut (bytes_of all name) reading.bytes (take count new) here.0 count here.2
      (read-gives here.0 here.1))
      ∙ settled (drop count here.0)

  -- where it gives none, nothing is unread
  pub none-unread : count ≡ 0 → (unread : List ℕ) → rest ≡ Some unread → unread ≡ []
  none-unread none unread is = (reads.empty unread is).0 none

  -- and what holds of the bytes does so of the file
  pub read-whole : {A : Type 0} (of_bytes : List ℕ → A) (answer : A) → count ≡ 0 → of_bytes reading.bytes ≡ answer
      → (all : List NamedFile) → files ≡ Some all → of_bytes (bytes_of all name) ≡ answer
  read-whole of_bytes answer none is all told =
      ap of_bytes (read-all files rest name reading.bytes reading.in_file (none-unread none) all told) ∙ is

  -- the same of what an answer gives
  pub read-made : {V F A : Type 0} (of_bytes : List ℕ → A) (made : V → A) (answer : Result V F) → count ≡ 0
      → IfOk answer (λ value. of_bytes reading.bytes ≡ made value)
      → IfOk answer (λ value. (all : List NamedFile) → files ≡ Some all → of_bytes (bytes_of all name) ≡ made value)
  read-made of_bytes made (Ok value) none is = read-whole of_bytes (made value) none is
  read-made of_bytes made (Err error) none is = tt

  -- the end of the file was read
  pub read-ended : {V F : Type 0} (answer : Result V F) (files' : Option (List NamedFile)) (opens : ℕ) (ended : Bool)
      → files' ≡ files → count ≡ 0 → ended ≡ true → OnOk answer (HasEnded (shelf_state files' rest' opens ended))
  read-ended (Err error) files' opens ended same none at_end = tt
  read-ended (Ok value) files' opens ended same none at_end =
      has-ended files' rest rest' opens ended at_end reads.told
      (λ all told. (let here = reading.in_file all (sym same ∙ told) in (here.0, here.1)))
      (read-end rest rest' count none reads.takes (none-unread none))
