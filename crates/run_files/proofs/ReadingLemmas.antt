-- A grid that is read from a shelf, piece by piece.
use Rattle.std.proofs.Common.{arith, ◌+◌, length-append, Result, OnOk, IfOk, Bool, ◌≡◌, ◌≢◌, ℕ, List, [], ◌++◌}
use Rattle.std.proofs.Common.{length, take, drop, Option, Some, Ok, Err, refl, sym, ◌∙◌, ap, append_assoc, append-nil}
use Rattle.std.proofs.Common.{false, ◌∷◌}
use Rattle.mesh_defs.specs.HeightField.{HeightField}
use Rattle.roam_edge.specs.Shelf.{NamedFile, bytes_of}
use Rattle.pgm_grid.specs.declared.fault.PgmFault.{PgmFault}
use Rattle.pgm_grid.specs.declared.fault.PgmFault.TheVariants.{BadMagic, BadHeader, HeaderTooLong, BadMaxval, NotSquare}
use Rattle.pgm_grid.specs.declared.fault.PgmFault.TheVariants.{BadSide, Truncated, BadSample, AboveMaxval, Trailing}
use Rattle.pgm_grid.specs.declared.fault.PgmFault.TheVariants.{NoMemory, TooLong}
use Rattle.std.proofs.lemmas.Result.{IfOk-at_ok, IfErr-at_err}
use Rattle.pgm_grid.specs.Laws.{OthersAreAbsent, GridsHaveHeaders}
use Rattle.pgm_grid.specs.HeaderReading.{header_of}
use Rattle.pgm_grid.specs.Progress.{Progress, grid_of, resume, taken, StaysRefused, EndsHeader}
use Rattle.run_laws.specs.Promise.{HasReadHeader, IsUndecided}
use Rattle.run_files.specs.declared.grid_file.GridStop.{GridStop}
use Rattle.run_files.specs.declared.grid_file.GridStop.TheVariants as stop
use Rattle.run_laws.specs.FileStop.{StopsReading}
use Rattle.run_files.specs.GridStop.{stop_for}
use Rattle.run_laws.proofs.FileLemmas.{HasReadOf, file-cut, same-unread, stops-behind}

-- the reader has taken these bytes
pub record IsTaken (reader : Progress) (bytes : List ℕ) : Type 0 where
  pub means : (more : List ℕ) → resume reader more ≡ grid_of (bytes ++ more)
  pub counted : taken reader ≡ length bytes

-- they were read of the named file
abbrev pub IsReading : Option (List NamedFile) → Option (List ℕ) → List ℕ → Progress → Type 0
IsReading files rest name reader = HasReadOf (IsTaken reader) files rest name

-- a piece was taken
pub taken-more : (bytes piece : List ℕ) (reader next : Progress) → IsTaken reader bytes
    → ((more : List ℕ) → resume reader (piece ++ more) ≡ resume next more) → taken next ≡ taken reader + length piece
    → IsTaken next (bytes ++ piece)
taken-more bytes piece reader next old goes_on counted = record {
  means = λ more. sym (goes_on more) ∙ old.means (piece ++ more) ∙ ap grid_of (sym (append_assoc bytes piece more));
  counted = omega (arith, counted, old.counted, length-append bytes piece);
}

-- a piece was refused
pub taken-refused : (bytes piece : List ℕ) (reader : Progress) (fault : PgmFault) → IsTaken reader bytes
    → ((more : List ℕ) → resume reader (piece ++ more) ≡ Err fault)
    → (more : List ℕ) → grid_of ((bytes ++ piece) ++ more) ≡ Err fault
taken-refused bytes piece reader fault old refusal more =
    ap grid_of (append_assoc bytes piece more) ∙ sym (old.means (piece ++ more)) ∙ refusal more

-- a refusal other than out of memory is that of the reader
pub stop_for-refused : (found fault : PgmFault) → stop_for found ≡ stop.Refused fault →
    (found ≡ fault) × (found ≢ NoMemory)
stop_for-refused BadMagic fault is = (cc, λ e. cc)
stop_for-refused (BadHeader place) fault is = (cc, λ e. cc)
stop_for-refused HeaderTooLong fault is = (cc, λ e. cc)
stop_for-refused BadMaxval fault is = (cc, λ e. cc)
stop_for-refused NotSquare fault is = (cc, λ e. cc)
stop_for-refused BadSide fault is = (cc, λ e. cc)
stop_for-refused Truncated fault is = (cc, λ e. cc)
stop_for-refused (BadSample place) fault is = (cc, λ e. cc)
stop_for-refused (AboveMaxval place) fault is = (cc, λ e. cc)
stop_for-refused (Trailing place) fault is = (cc, λ e. cc)
stop_for-refused NoMemory fault is = absurd cc
stop_for-refused TooLong fault is = (cc, λ e. cc)

-- a run stops as out of memory only where its reader is out of memory
pub stop_for-memory : (found : PgmFault) → stop_for found ≡ stop.NoMemory → found ≡ NoMemory
stop_for-memory BadMagic is = absurd cc
stop_for-memory (BadHeader place) is = absurd cc
stop_for-memory HeaderTooLong is = absurd cc
stop_for-memory BadMaxval is = absurd cc
stop_for-memory NotSquare is = absurd cc
stop_for-memory BadSide is = absurd cc
stop_for-memory Truncated is = absurd cc
stop_for-memory (BadSample place) is = absurd cc
stop_for-memory (AboveMaxval place) is = absurd cc
stop_for-memory (Trailing place) is = absurd cc
stop_for-memory NoMemory is = refl
stop_for-memory TooLong is = absurd cc

-- the bytes of a file settle no answer that a reader is out of memory
pub reading-unsettled : (files : Option (List NamedFile)) (rest : Option (List ℕ)) (name : List ℕ) (reader : Progress)
    → OthersAreAbsent → IsReading files rest name reader → StaysRefused reader NoMemory → ⊥
unfolding StaysRefused
reading-unsettled files rest name reader others reading settled =
    let e = sym (reading.come.means []) ∙ settled [] in
    IfErr-at_err (λ fault. fault ≢ NoMemory) e (others (reading.bytes ++ [])) refl

-- the header of a grid ended with a piece
pub reading-header : (files : Option (List NamedFile)) (rest rest' : Option (List ℕ)) (name piece : List ℕ)
    (count : ℕ) (reader : Progress)
    → IsReading files rest name reader
    → ((unread : List ℕ) → rest ≡ Some unread → rest' ≡ Some (drop count unread))
    → ((unread : List ℕ) → rest ≡ Some unread → piece ≡ take count unread)
    → EndsHeader reader piece
    → (all : List NamedFile) → files ≡ Some all → HasReadHeader (bytes_of all name) rest'
reading-header files rest rest' name piece count reader reading takes gives ends all is =
    let here = reading.in_file all is in
    let header = ends.ends reading.bytes reading.come.means in
    let whole = file-cut (bytes_of all name) reading.bytes piece here.0 count here.2 (gives here.0 here.1) in (
      header.header,
      header.at,
      header.rest ++ drop count here.0,
      record {
        text = header.has.text;
        values = header.has.values;
        is_text = header.has.is_text;
        short = header.has.short;
        accepts = header.has.accepts;
        cut = whole ∙ ap (λ m. m ++ drop count here.0) header.has.cut
            ∙ append_assoc header.has.text header.rest (drop count here.0);
        place = header.has.place;
      },
      λ unread told. (
        header.rest,
        ap (λ m. header.rest ++ m) (same-unread (drop count here.0) unread (sym (takes here.0 here.1) ∙ told)),
      ),
    )

-- a read failed: no refusal of what was read is settled
pub reading-failed : (files : Option (List NamedFile)) (rest rest' : Option (List ℕ)) (ended' : Bool)
    (name : List ℕ) (reader : Progress)
    → IsReading files rest name reader → ((fault : PgmFault) → StaysRefused reader fault → ⊥) →
    rest' ≡ rest → ended' ≡ false
    → (all : List NamedFile) → files ≡ Some all → StopsReading IsUndecided (bytes_of all name) rest' ended'
unfolding StaysRefused
reading-failed files rest rest' ended' name reader reading unsettled kept not_ended =
    stops-behind IsUndecided files rest rest' ended' name reading.bytes reading.in_file kept not_ended
    (λ fault settled. unsettled fault (λ more. reading.come.means more ∙ settled more))

-- nothing is no grid, and a first byte of 0 has another refusal
nothing-read : grid_of [] ≡ Err Truncated
unfolding grid_of header_of
nothing-read = refl

zero-read : grid_of (0 ∷ []) ≡ Err BadMagic
unfolding grid_of header_of
zero-read = refl

-- no refusal is settled of a file of which nothing was read
pub nothing-undecided : IsUndecided []
nothing-undecided fault settled = differ (sym nothing-read ∙ settled []) (sym zero-read ∙ settled (0 ∷ []))
  where
    fault_of : PgmFault → Result HeightField PgmFault
    fault_of why = Err why

    differ : fault_of Truncated ≡ fault_of fault → fault_of BadMagic ≡ fault_of fault → ⊥
    differ one two = cc

-- what holds where there is a value holds of an answer that is a value
on-ok : {A E : Type 0} (answer : Result A E) (P : Type 0) → ((value : A) → answer ≡ Ok value → P) → OnOk answer P
on-ok (Ok value) P proof = proof value refl
on-ok (Err fault) P proof = tt

module _ (files : Option (List NamedFile)) (rest : Option (List ℕ)) (name : List ℕ) (reader : Progress)
    (reading : IsReading files rest name reader)
    (nothing : (unread : List ℕ) → rest ≡ Some unread → unread ≡ []) where
  -- a file that is read to its end begins with the header of its grid
  pub grid-header : (answer : Result HeightField GridStop) → GridsHaveHeaders →
      IfOk answer (λ grid. resume reader [] ≡ Ok grid)
      → (rest' : Option (List ℕ)) (count : ℕ) → count ≡ 0 →
      ((unread : List ℕ) → rest ≡ Some unread → rest' ≡ Some (drop count unread))
      → OnOk answer ((all : List NamedFile) → files ≡ Some all → HasReadHeader (bytes_of all name) rest')
  grid-header answer headers value rest' count none takes = on-ok answer _ (λ grid is all told.
      let here = reading.in_file all told in
      let whole = here.2 ∙ ap (λ m. reading.bytes ++ m) (nothing here.0 here.1) in
      let read = ap grid_of whole ∙ sym (reading.come.means []) ∙ IfOk-at_ok _ is value in
      let found = headers grid (bytes_of all name) read in
      let left = takes here.0 here.1 ∙ ap (λ k. Some (drop k here.0)) none ∙ ap Some (nothing here.0 here.1) in (
        found.0,
        found.1,
        found.2,
        found.3,
        λ unread is_left.
            (found.2, sym (append-nil found.2) ∙ ap (λ m. found.2 ++ m) (same-unread [] unread (sym left ∙ is_left))),
      ))

-- a new reader has settled nothing
pub start-unsettled : (reader : Progress) → ((more : List ℕ) → resume reader more ≡ grid_of more) → (fault : PgmFault) →
    StaysRefused reader fault → ⊥
unfolding StaysRefused
start-unsettled reader means fault settled = nothing-undecided fault (λ more. sym (means more) ∙ settled more)
