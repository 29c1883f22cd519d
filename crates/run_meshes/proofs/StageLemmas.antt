-- Lines that a stage carries out or refuses, in the words of a script, whatever makes the frames.
use Rattle.std.proofs.Common.{◌≡◌, ◌≢◌, ℕ, ◌+◌, ◌*◌, ◌<◌, ◌≤◌, List, [], ◌∷◌, ◌++◌, length, IsSome, Result, Ok, Err}
use Rattle.std.proofs.Common.{OnOk, refl, sym, ◌∙◌, ap, subst, arith, append_assoc, append-nil}
use Rattle.mesh_defs.specs.State.{State}
use Rattle.roam_script.specs.declared.limits.Limits.{Limits}
use Rattle.roam_script.specs.declared.limits.TheConstants.{MOST_LINES, MOST_LINE_BYTES}
use Rattle.roam_script.specs.declared.line.Line.{Line}
use Rattle.roam_script.specs.declared.line.Line.TheVariants.{Frame}
use Rattle.roam_script.specs.declared.script_fault.ScriptFault.{ScriptFault}
use Rattle.roam_script.specs.LineText.{line_in}
use Rattle.run_laws.specs.Walk.{Walk, limits_of, shown_by, after_line, refused_walk, walk_of}
use Rattle.run_words.specs.Words.{Show}
use Rattle.run_laws.specs.Picture.{Picture, IsPicture, ArePictures, last_members}
use Rattle.run_laws.specs.Act.{Act, ReportText, Sinks, Stands, IsCutShort}
use Rattle.run_laws.specs.ReportText.{line_refusal}
use Rattle.run_laws.specs.Outcome.{Outcome, picture_acts, shown_acts, engine_for, IsFramesOutcome}
use Rattle.run_laws.specs.Step.{Place}
use Rattle.run_laws.specs.Laws.{BudgetsAreTwo, FramesExist, SetsStayClosed}
use Rattle.run_laws.proofs.ActLemmas.{stands-nothing, stands-append}
use Rattle.run_laws.proofs.StepLemmas.{place, come-byte, come-line, cuts-frame, settles-line, settles-byte}
use Rattle.run_laws.proofs.StepLemmas.{cuts-refusal}
use Rattle.run_meshes.specs.declared.stage.Stage.{Stage}
use Rattle.run_meshes.specs.declared.script.Stop.{Stop}
use Rattle.run_meshes.specs.declared.script.Stop.TheVariants.{Refused, Failed}
use Rattle.run_laws.specs.Maker.{refusal, Starts}
use Rattle.run_meshes.specs.StageView.{IsScriptAt}
use Rattle.run_meshes.specs.Taking.{TakesBytes}
use Rattle.run_laws.proofs.ShownLemmas.{shown_by-none}

-- a refusal changes no engine that is left
same-left : (show : Show) (why : ScriptFault) (walk : Walk) (pictures : List Picture) →
    engine_for show (refused_walk why walk) pictures ≡ engine_for show walk pictures
same-left show why walk pictures = refl

module _ (before middle : Sinks) (show : Show) (follows : Show → Walk → List Picture → Type 0) (start : Walk)
    (read : List ℕ) (old : Stage) (at : IsScriptAt before middle show follows start read old) where
  abbrev here : Place
  here = at.here

  -- what the line that has begun is read as
  pub line-shown : (limits : Limits) (bytes : List ℕ) (answer : Result Line ScriptFault) →
      limits ≡ limits_of here.walk → bytes ≡ old.part.items
      → line_in limits bytes ≡ answer → line_in (limits_of here.walk) here.begun ≡ answer
  line-shown limits bytes answer under is read_as =
      sym (ap (λ (l : Limits). line_in l bytes) under
      ∙ ap (line_in (limits_of here.walk)) (is ∙ at.shows.begun)) ∙ read_as

  module _ (follows' : Show → Walk → List Picture → Type 0) (new : Stage) (lines : new.lines ≡ old.lines + 1)
      (part : new.part.items ≡ []) where
    -- a line was carried out that makes no frame
    pub takes-change : (line : Line) → line_in (limits_of here.walk) here.begun ≡ Ok line → line ≢ Frame →
        follows' show (after_line line here.walk) here.pictures
        → IsScriptAt before middle show follows' start (read ++ 10 ∷ []) new
    takes-change line is other followed =
        let none : shown_by line here.walk.state ≡ [] = shown_by-none line here.walk.state other in
        let P : List State → Type 0 = λ l. ArePictures show (last_members [] here.pictures) l [] in
        let Q : List Picture → Type 0 = λ l. follows' show (after_line line here.walk) l in
        record {
          here = place (after_line line here.walk) (here.pictures ++ []) [];
          come = come-line before middle show start read here at.come line is middle [] (subst P (sym none) tt)
              (stands-nothing middle);
          shows = record {
            followed = subst Q (sym (append-nil here.pictures)) followed;
            lines = lines ∙ ap (λ (k : ℕ). k + 1) at.shows.lines;
            begun = part;
          };
          alone = at.alone;
        }

    -- a frame was made and shown
    pub takes-shown : line_in (limits_of here.walk) here.begun ≡ Ok Frame → (p : Picture) →
        IsPicture show (last_members [] here.pictures) here.walk.state p
        → follows' show (after_line Frame here.walk) (here.pictures ++ p ∷ []) → (now : Sinks) →
        Stands middle now (picture_acts show (1 + length here.walk.frames) p)
        → IsScriptAt before now show follows' start (read ++ 10 ∷ []) new
    takes-shown is p is_picture followed now stands =
        let Q : List Act → Type 0 = λ l. Stands middle now l in
        let is_shown : Stands middle now (shown_acts show (1 + length here.walk.frames) (p ∷ [])) =
        subst Q (sym (append-nil (picture_acts show (1 + length here.walk.frames) p))) stands in
        record {
          here = place (after_line Frame here.walk) (here.pictures ++ p ∷ []) [];
          come = come-line before middle show start read here at.come Frame is now (p ∷ []) (is_picture, tt) is_shown;
          shows = record {
            followed = followed;
            lines = lines ∙ ap (λ (k : ℕ). k + 1) at.shows.lines;
            begun = part;
          };
          alone = at.alone;
        }

  module _ (follows' : Show → Walk → List Picture → Type 0) (new : Stage) where
    -- a frame was made and cut short
    pub takes-frame-cut : BudgetsAreTwo → FramesExist → SetsStayClosed → Starts start →
        line_in (limits_of here.walk) here.begun ≡ Ok Frame
        → (p : Picture) → IsPicture show (last_members [] here.pictures) here.walk.state p
        → (now : Sinks) → IsCutShort middle now (picture_acts show (1 + length here.walk.frames) p)
        → TakesBytes {T = Unit {0}} before now show follows' start (read ++ 10 ∷ []) new (Err Failed)
    takes-frame-cut two exist stays starts is p is_picture now cut = record {
      ok = tt;
      refused = λ e. cc;
      failed = λ e. cuts-frame before middle show start read here at.come Frame is two exist stays start.state.grid.n
          (starts.n_low, starts.n_high) starts.keeps here.walk.state refl now 2 p
          is_picture cut;
    }

  -- the acts of the refusal that is written
  abbrev refused_acts : ScriptFault → List Act
  refused_acts why = ReportText (line_refusal (refusal (old.lines + 1) why)) ∷ []

  same-acts : (why : ScriptFault) →
      refused_acts why ≡ ReportText (line_refusal (record { line = here.walk.lines + 1; fault = why })) ∷ []
  same-acts why = ap (λ (k : ℕ). ReportText (line_refusal (refusal (k + 1) why)) ∷ []) at.shows.lines

  module _ (bytes : List ℕ) (why : ScriptFault)
      (settled : (more : List ℕ) → walk_of start (bytes ++ more) ≡ refused_walk why here.walk) (new : Stage) where
    -- a refusal was written
    pub takes-refusal : (now : Sinks) → Stands middle now (refused_acts why) →
        TakesBytes {T = Unit {0}} before now show follows start bytes new (Err Refused)
    takes-refusal now stands = record {
      ok = tt;
      refused = λ e. (let P : List Act → Type 0 = λ l. Stands middle now l in record {
        refuses = record {
          walk = refused_walk why here.walk;
          pictures = here.pictures;
          settled = settled;
          refused = is_some;
          shown = at.come.shown;
          stands = stands-append before middle now (shown_acts show 1 here.pictures)
              (ReportText (line_refusal (record { line = here.walk.lines + 1; fault = why })) ∷ [])
              at.come.stands (subst P (same-acts why) stands);
        };
        gone = here.walk;
        followed = at.shows.followed;
        same_end = same-left show why here.walk here.pictures;
      });
      failed = λ e. cc;
    }
      where
        is_some : IsSome (refused_walk why here.walk).stop
        is_some = refl

    -- a refusal was cut short
    pub takes-cut : (now : Sinks) → IsCutShort middle now (refused_acts why) →
        TakesBytes {T = Unit {0}} before now show follows start bytes new (Err Failed)
    takes-cut now cut = record {
      ok = tt;
      refused = λ e. cc;
      failed = λ e. (let P : List Act → Type 0 = λ l. IsCutShort middle now l in
          cuts-refusal before middle show start read here at.come now 2 bytes why at.alone settled
          (subst P (same-acts why) cut));
    }

  -- a line that ended settles its refusal
  pub line-settles : (why : ScriptFault) → line_in (limits_of here.walk) here.begun ≡ Err why
      → (more : List ℕ) → walk_of start ((read ++ 10 ∷ []) ++ more) ≡ refused_walk why here.walk
  line-settles why is = settles-line before middle show start read here at.come why is

  -- the line goes on by a byte
  pub takes-byte : (new : Stage) (byte : ℕ) → byte ≢ 10 →
      length old.part.items < MOST_LINE_BYTES → old.lines < MOST_LINES
      → new.lines ≡ old.lines → new.part.items ≡ old.part.items ++ byte ∷ [] →
      IsScriptAt before middle show follows start (read ++ byte ∷ []) new
  takes-byte new byte other short few lines part =
      let begun = ap (λ (l : List ℕ). length l) at.shows.begun in
      let count = at.shows.lines in
      record {
        here = place here.walk here.pictures (here.begun ++ byte ∷ []);
        come = come-byte before middle show start read here at.come byte other (omega (arith, begun, short))
            (omega (arith, count, few));
        shows = record {
          followed = at.shows.followed;
          lines = lines ∙ at.shows.lines;
          begun = part ∙ ap (λ (l : List ℕ). l ++ byte ∷ []) at.shows.begun;
        };
        alone = at.alone;
      }

  -- a byte settles the refusal of a line that has begun
  pub byte-settles : (byte : ℕ) (why : ScriptFault) → byte ≢ 10
      → ((limits : Limits) (b : ℕ) (tail : List ℕ) → limits.line ≡ old.lines + 1 →
      line_in limits ((old.part.items ++ b ∷ []) ++ tail) ≡ Err why)
      → (more : List ℕ) → walk_of start ((read ++ byte ∷ []) ++ more) ≡ refused_walk why here.walk
  byte-settles byte why other refused =
      settles-byte before middle show start read here at.come byte why other (λ tail.
      sym (ap (λ (l : List ℕ). line_in (limits_of here.walk) ((l ++ byte ∷ []) ++ tail)) at.shows.begun)
      ∙ refused (limits_of here.walk) byte tail (ap (λ (k : ℕ). k + 1) (sym at.shows.lines)))

-- a stop stays one with more bytes
pub takes-longer : (before now : Sinks) (show : Show) (follows : Show → Walk → List Picture →
    Type 0) (start : Walk) (bytes rest all : List ℕ) (old new : Stage) (stop : Stop) → all ≡ bytes ++ rest
    → TakesBytes {T = Unit {0}} before now show follows start bytes old (Err stop) →
    TakesBytes {T = Unit {0}} before now show follows start all new (Err stop)
takes-longer before now show follows start bytes rest all old new stop is takes =
    let P : List ℕ → Type 0 = λ l. TakesBytes {T = Unit {0}} before now show follows start l new (Err stop) in
    subst P (sym is) (record {
      ok = tt;
      refused = λ e. (let r = takes.refused e in record {
        refuses = record {
          walk = r.refuses.walk;
          pictures = r.refuses.pictures;
          settled = λ more. ap (walk_of start) (append_assoc bytes rest more) ∙ r.refuses.settled (rest ++ more);
          refused = r.refuses.refused;
          shown = r.refuses.shown;
          stands = r.refuses.stands;
        };
        gone = r.gone;
        followed = r.followed;
        same_end = r.same_end;
      });
      failed = λ e. (let cuts = takes.failed e in record {
        short = λ more. (let Q : List ℕ → Type 0 =
            λ l. (end : Outcome) × IsFramesOutcome show 2 (walk_of start l) end × IsCutShort before now end.acts in
            subst Q (sym (append_assoc bytes rest more)) (cuts.short (rest ++ more)));
      });
    })

-- a line that was carried out is longer than what had begun
pub longer-line : (answer : Result (Unit {0}) Stop) (lines lines' : ℕ) (part part' : List ℕ) →
    OnOk answer (lines' ≡ lines + 1) → OnOk answer (part' ≡ [])
    → length part ≤ MOST_LINE_BYTES → OnOk answer (201 * lines + length part + 1 ≤ 201 * lines' + length part')
longer-line (Ok done) lines lines' part part' more none short = omega (arith, more, short)
longer-line (Err stop) lines lines' part part' more none short = tt
