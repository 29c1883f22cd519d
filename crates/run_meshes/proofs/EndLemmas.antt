-- The end of a script, and a script that is read from a shelf, piece by piece.
use Rattle.std.proofs.Common.{◌≡◌, ◌≢◌, ℕ, true, false, List, [], ◌∷◌, ◌++◌, take, drop, IsTrue, Option, Some, None}
use Rattle.std.proofs.Common.{IsSome, Err, refl, sym, ◌∙◌, ap, subst, append-nil}
use Rattle.roam_edge.specs.Shelf.{NamedFile, bytes_of}
use Rattle.run_laws.specs.declared.status.Status.{Status}
use Rattle.run_laws.specs.declared.status.Status.TheVariants as ends
use Rattle.run_laws.specs.Walk.{Refusal, Walk, walk_of}
use Rattle.run_words.specs.Words.{Show}
use Rattle.run_laws.specs.Picture.{Picture, ArePictures}
use Rattle.run_laws.specs.Act.{Act, Sinks, Stands, IsCutShort}
use Rattle.run_laws.specs.Outcome.{Outcome, shown_acts, sum_acts, stop_acts, stop_status, engine_for, frames_outcome}
use Rattle.run_laws.specs.Outcome.{IsFramesOutcome}
use Rattle.run_laws.proofs.StepLemmas.{place, come-begin, walk_of-end, walk_of-empty}
use Rattle.run_laws.specs.Promise.{is_complete}
use Rattle.run_meshes.specs.declared.stage.Stage.{Stage}
use Rattle.run_meshes.specs.declared.script.Stop.{Stop}
use Rattle.run_meshes.specs.declared.script.Stop.TheVariants.{Refused, Failed}
use Rattle.run_laws.specs.Maker.{TellsFrames, Begins, DoesAs, LeavesEngine, EndsScript}
use Rattle.run_meshes.specs.StageView.{IsScriptAt}
use Rattle.run_laws.proofs.FileLemmas.{IsOfFile, file-cut, read-all}
use Rattle.run_meshes.specs.Taking.{status_for, TakesBytes}

-- a walk that was stopped ends as refused
stop-refused : (stop : Option Refusal) → IsSome stop → stop_status stop ≡ ends.ScriptRefused
stop-refused None is = absurd (not_true is)
  where
    not_true : false ≡ true → ⊥
    not_true e = cc
stop-refused (Some refusal) is = refl

module _ (before now : Sinks) (show : Show) (follows : Show → Walk → List Picture → Type 0) (start : Walk) where
  -- what the outcome of a walk says stands, and what makes the frames has come to its end
  abbrev Does : Status → Walk → Type 0
  Does status walk = (end : Outcome) × IsFramesOutcome show 2 walk end × DoesAs before now end status
      × (IsTrue (is_complete status) → LeavesEngine show follows end)

  -- nothing is told behind the frames but a refusal
  no-sum : TellsFrames show → (walk : Walk) (ps : List Picture) →
      shown_acts show 1 ps ++ (sum_acts show ps ++ stop_acts walk.stop) ≡ shown_acts show 1 ps ++ stop_acts walk.stop
  no-sum alone walk ps = ap (λ (l : List Act). shown_acts show 1 ps ++ (l ++ stop_acts walk.stop)) (alone ps)

  -- all lines were carried out
  does-all : TellsFrames show → (walk : Walk) (ps : List Picture) → walk.stop ≡ None →
      ArePictures show [] walk.frames ps → Stands before now (shown_acts show 1 ps)
      → follows show walk ps → Does ends.Done walk
  does-all alone walk ps goes shown stands followed =
      let acts : shown_acts show 1 ps ++ (sum_acts show ps ++ stop_acts walk.stop) ≡ shown_acts show 1 ps =
      no-sum alone walk ps ∙ (ap (λ (s : Option Refusal). shown_acts show 1 ps ++ stop_acts s) goes
      ∙ append-nil (shown_acts show 1 ps)) in
      let P : List Act → Type 0 = λ l. Stands before now l in (
        frames_outcome show 2 walk ps,
        (ps, shown, refl),
        record { complete = λ e. (subst P (sym acts) stands, sym (ap stop_status goes)); cut_short = λ e. cc },
        λ e. record { walk = walk; pictures = ps; followed = followed; left = refl },
      )

  -- a line was refused
  does-refusal : TellsFrames show → (walk gone : Walk) (ps : List Picture) → IsSome walk.stop →
      ArePictures show [] walk.frames ps
      → Stands before now (shown_acts show 1 ps ++ stop_acts walk.stop) → follows show gone ps →
      engine_for show walk ps ≡ engine_for show gone ps → Does ends.ScriptRefused walk
  does-refusal alone walk gone ps some shown stands followed same =
      let P : List Act → Type 0 = λ l. Stands before now l in (
        frames_outcome show 2 walk ps,
        (ps, shown, refl),
        record {
          complete = λ e. (subst P (sym (no-sum alone walk ps)) stands, sym (stop-refused walk.stop some));
          cut_short = λ e. cc;
        },
        λ e. record { walk = gone; pictures = ps; followed = followed; left = sym same },
      )

  -- what was done was cut short
  does-cut : (walk : Walk) (end : Outcome) → IsFramesOutcome show 2 walk end → IsCutShort before now end.acts →
      Does ends.WriteFault walk
  does-cut walk end is cut = (end, is, record { complete = λ e. cc; cut_short = λ e. cut }, λ e. cc)

  -- at the end of a script no line has begun
  pub ends-empty : (read : List ℕ) (stage : Stage) →
      IsScriptAt before now show follows start read stage → stage.part.items ≡ []
      → EndsScript before now show follows start read ends.Done
  ends-empty read stage at none =
      let P : Walk → Type 0 = λ w. Does ends.Done w in
      subst P (sym (walk_of-empty before now show start read at.here at.come (sym at.shows.begun ∙ none)))
      (does-all at.alone at.here.walk at.here.pictures at.come.accepted at.come.shown at.come.stands at.shows.followed)

  -- what a stop says of all that follows
  pub ends-stop : TellsFrames show → (bytes more : List ℕ) (stage : Stage) (stop : Stop) →
      TakesBytes {T = Unit {0}} before now show follows start bytes stage (Err stop)
      → EndsScript before now show follows start (bytes ++ more) (status_for stop)
  ends-stop alone bytes more stage Refused takes =
      let r = takes.refused refl in
      let P : Walk → Type 0 = λ w. Does ends.ScriptRefused w in
      subst P (sym (r.refuses.settled more))
      (does-refusal alone r.refuses.walk r.gone r.refuses.pictures r.refuses.refused r.refuses.shown
      r.refuses.stands r.followed r.same_end)
  ends-stop alone bytes more stage Failed takes =
      let cut = (takes.failed refl).short more in
      does-cut (walk_of start (bytes ++ more)) cut.0 cut.1 cut.2

  -- the same of a walk that is known otherwise
  pub ends-same : (read other : List ℕ) (status : Status) → walk_of start read ≡ walk_of start other
      → EndsScript before now show follows start other status → EndsScript before now show follows start read status
  ends-same read other status same is =
      let P : Walk → Type 0 = λ w. Does status w in
      subst P (sym same) is

-- the last line ends with the script as with an LF
pub last-line : (before now : Sinks) (show : Show) (follows : Show → Walk → List Picture → Type 0) (start : Walk)
    (read : List ℕ) (stage : Stage) (at : IsScriptAt before now show follows start read stage)
    → stage.part.items ≢ [] → walk_of start read ≡ walk_of start (read ++ 10 ∷ [])
last-line before now show follows start read stage at some =
    walk_of-end before now show start read at.here at.come (λ e. some (at.shows.begun ∙ e))

-- Some bytes of the script were read of the named file, and carried out.
pub record IsCarried (before now : Sinks) (show : Show) (follows : Show → Walk → List Picture → Type 0) (start : Walk)
    (stage : Stage) (files : Option (List NamedFile)) (rest : Option (List ℕ)) (name bytes : List ℕ) : Type 0 where
  pub place : IsScriptAt before now show follows start bytes stage
  pub in_file : IsOfFile files rest name bytes

-- a walk that begins is at its first place
pub begins-at : (before : Sinks) (show : Show) (follows : Show → Walk → List Picture →
    Type 0) (start : Walk) (stage : Stage) → Begins show follows start → stage.lines ≡ 0 → stage.part.items ≡ []
    → IsScriptAt before before show follows start [] stage
begins-at before show follows start stage begins lines part = record {
  here = place start [] [];
  come = come-begin before show start begins.goes begins.none;
  shows = record { followed = begins.followed; lines = lines ∙ sym begins.first; begun = part };
  alone = begins.alone;
}

-- a file that was read to its end is what was read
pub ended-file : (before now : Sinks) (show : Show) (follows : Show → Walk → List Picture → Type 0) (start : Walk)
    (stage : Stage) (files : Option (List NamedFile)) (rest : Option (List ℕ)) (name bytes : List ℕ)
    → IsCarried before now show follows start stage files rest name bytes →
    ((unread : List ℕ) → rest ≡ Some unread → unread ≡ [])
    → (all : List NamedFile) → files ≡ Some all → bytes_of all name ≡ bytes
ended-file before now show follows start stage files rest name bytes carried =
    read-all files rest name bytes carried.in_file

-- the same file, cut behind a piece
pub piece-file : (before now : Sinks) (show : Show) (follows : Show → Walk → List Picture → Type 0) (start : Walk)
    (stage : Stage) (files : Option (List NamedFile)) (rest : Option (List ℕ)) (name bytes piece : List ℕ) (count : ℕ)
    → IsCarried before now show follows start stage files rest name bytes →
    ((unread : List ℕ) → rest ≡ Some unread → piece ≡ take count unread)
    → (all : List NamedFile) → files ≡ Some all → (more : List ℕ) × (bytes_of all name ≡ (bytes ++ piece) ++ more)
piece-file before now show follows start stage files rest name bytes piece count carried gives all told =
    let here = carried.in_file all told in
    (drop count here.0, file-cut (bytes_of all name) bytes piece here.0 count here.2 (gives here.0 here.1))
