-- How far a script was carried out, byte by byte: what one byte more does to the place that was reached.
use Rattle.std.proofs.Common.{◌≡◌, ◌≢◌, ℕ, ◌+◌, ◌<◌, ◌≤◌, List, [], ◌∷◌, ◌++◌, length, None, IsSome, Result, Ok, Err}
use Rattle.std.proofs.Common.{refl, sym, ◌∙◌, ap, subst, inl, inr, arith, append_assoc, append-nil, length-append}
use Rattle.std.proofs.lemmas.List.Elements.{All-from_recursion}
use Rattle.mesh_defs.specs.HeightField.{HeightField}
use Rattle.mesh_defs.specs.State.{State}
use Rattle.roam_script.specs.declared.limits.TheConstants.{MOST_LINES, MOST_LINE_BYTES}
use Rattle.roam_script.specs.declared.line.Line.{Line}
use Rattle.roam_script.specs.declared.script_fault.ScriptFault.{ScriptFault}
use Rattle.roam_script.specs.LineText.{line_in}
use Rattle.run_laws.specs.Walk.{Walk, limits_of, shown_by, after_line, refused_walk, after_text, walk_lines, walk_of}
use Rattle.run_laws.specs.Walk.{lines_of, HasBegun}
use Rattle.run_words.specs.Words.{Show, Scripted}
use Rattle.run_laws.specs.Picture.{Picture, IsPicture, ArePictures, last_members}
use Rattle.run_laws.specs.Act.{Act, ReportText, Sinks, Stands, IsCutShort}
use Rattle.run_laws.specs.ReportText.{line_refusal}
use Rattle.run_laws.specs.Outcome.{Outcome, picture_acts, shown_acts, sum_acts, stop_acts, frames_outcome}
use Rattle.run_laws.specs.Outcome.{IsFramesOutcome, script_walk}
use Rattle.run_laws.specs.Promise.{ScriptHasRead}
use Rattle.run_laws.specs.Step.{Place, HasCome, Refuses, Cuts}
use Rattle.mesh_defs.specs.GridSet.{IsGridSet}
use Rattle.run_laws.specs.Laws.{AreStates, KeepsStates, BudgetsAreTwo, FramesExist, SetsStayClosed}
use Rattle.run_laws.proofs.ActLemmas.{stands-nothing, stands-append, cut-append, cut-longer}
use Rattle.run_laws.proofs.LineLemmas.{NoEnd, no_end, no_end-append, lines_of-ends, lines_of-last, lines_of-begins}
use Rattle.run_laws.proofs.LineLemmas.{BeginsWith}
use Rattle.run_laws.proofs.PictureLemmas.{pictures_of, picture-set, last_members-set, no-members}
use Rattle.run_laws.proofs.WalkLemmas.{walk_of-append, ArePictures-append, walk_of-states, walk_of-grows}
use Rattle.run_laws.proofs.WalkLemmas.{walk_lines-stopped, read_text, stopped_text}

-- the place by its walk, the pictures of its frames, and the bytes of the line that has begun
abbrev pub place : Walk → List Picture → List ℕ → Place
place at shown part = record { walk = at; pictures = shown; begun = part }

-- walks over one line

-- a line, and then more lines
walk_of-line : (walk : Walk) (part more : List ℕ) → NoEnd part →
    walk_of walk (part ++ 10 ∷ more) ≡ walk_of (after_text walk part) more
unfolding walk_of
walk_of-line walk part more one = ap (λ (l : List (List ℕ)). walk_lines walk l) (lines_of-ends part more one)

-- a last line without LF is read as one with it
walk_of-last : (walk : Walk) (byte : ℕ) (part : List ℕ) → NoEnd (byte ∷ part) →
    walk_of walk (byte ∷ part) ≡ after_text walk (byte ∷ part)
unfolding walk_of
walk_of-last walk byte part one = ap (λ (l : List (List ℕ)). walk_lines walk l) (lines_of-last byte part one)

walk_of-nothing : (walk : Walk) → walk_of walk [] ≡ walk
unfolding walk_of
walk_of-nothing walk = refl

-- what the bytes of a line do to a walk that goes on
after_text-read : (walk : Walk) (bytes : List ℕ) (answer : Result Line ScriptFault) → walk.stop ≡ None →
    line_in (limits_of walk) bytes ≡ answer
    → after_text walk bytes ≡ read_text walk answer
after_text-read walk bytes answer goes is = ap (stopped_text walk bytes) goes ∙ ap (read_text walk) is

-- a walk whose next line is refused, whatever follows
walk_of-refused : (walk : Walk) (why : ScriptFault) (more : List ℕ) →
    walk_of (refused_walk why walk) more ≡ refused_walk why walk
unfolding walk_of
walk_of-refused walk why more =
    walk_lines-stopped (refused_walk why walk) (record { line = walk.lines + 1; fault = why }) (lines_of more) refl

-- a line that has begun is refused, whatever follows
walk_of-begun : (walk : Walk) (why : ScriptFault) (byte : ℕ) (part more : List ℕ) →
    walk.stop ≡ None → NoEnd (byte ∷ part)
    → ((tail : List ℕ) → line_in (limits_of walk) ((byte ∷ part) ++ tail) ≡ Err why)
    → walk_of walk ((byte ∷ part) ++ more) ≡ refused_walk why walk
unfolding walk_of
walk_of-begun walk why byte part more goes one refused =
    let begun : BeginsWith (byte ∷ part) (lines_of (byte ∷ (part ++ more))) = lines_of-begins byte part more one in
    ap (λ (l : List (List ℕ)). walk_lines walk l) begun.2
    ∙ (ap (λ (w : Walk). walk_lines w begun.1)
    (after_text-read walk ((byte ∷ part) ++ begun.0) (Err why) goes (refused begun.0))
    ∙ walk_lines-stopped (refused_walk why walk) (record { line = walk.lines + 1; fault = why }) begun.1 refl)

-- acts and pictures

shown_acts-append : (show : Show) (k : ℕ) (ps qs : List Picture) →
    shown_acts show k (ps ++ qs) ≡ shown_acts show k ps ++ shown_acts show (k + length ps) qs
shown_acts-append show k [] qs = ap (λ (i : ℕ). shown_acts show i qs) (omega arith)
shown_acts-append show k (p ∷ ps) qs =
    ap (λ (l : List Act). picture_acts show k p ++ l) (shown_acts-append show (k + 1) ps qs
    ∙ ap (λ (i : ℕ). shown_acts show (k + 1) ps ++ shown_acts show i qs) (omega arith))
    ∙ sym (append_assoc (picture_acts show k p) (shown_acts show (k + 1) ps) (shown_acts show (k + length (p ∷ ps)) qs))

-- there is a picture for each state
pub pictures-count : (show : Show) (before : List ℕ) (states : List State) (ps : List Picture) →
    ArePictures show before states ps → length ps ≡ length states
pictures-count show before [] [] f = refl
pictures-count show before [] (p ∷ ps) f = absurd f
pictures-count show before (s ∷ states) [] f = absurd f
pictures-count show before (s ∷ states) (p ∷ ps) f = omega (arith, pictures-count show p.members states ps f.1)

-- the set of the last picture of more
pub last_members-append : (before : List ℕ) (ps : List Picture) (p : Picture) →
    last_members before (ps ++ p ∷ []) ≡ p.members
last_members-append before [] p = refl
last_members-append before (q ∷ ps) p = last_members-append q.members ps p

states-behind : (n : ℕ) (ss ts : List State) → AreStates n (ss ++ ts) → AreStates n ts
states-behind n [] ts are = are
states-behind n (s ∷ ss) ts are = states-behind n ss ts are.2

-- the states at the frame lines of a walk are of its grid
pub states-first : (n : ℕ) (ss ts : List State) → AreStates n (ss ++ ts) → AreStates n ss
states-first n [] ts are = tt
states-first n (s ∷ ss) ts are = (are.0, are.1, states-first n ss ts are.2)

-- the place that was reached

-- nothing was read
pub come-begin : (before : Sinks) (show : Show) (start : Walk) → start.stop ≡ None → start.frames ≡ [] →
    HasCome before before show start [] (place start [] [])
come-begin before show start goes none = record {
  lines = [];
  cut = refl;
  whole = inl refl;
  walked = walk_of-nothing start;
  accepted = goes;
  undecided = record { one_line = All-from_recursion (λ byte. byte ≢ 10) [] tt; short = omega arith; last = inl refl };
  shown = (let P : List State → Type 0 = λ l. ArePictures show [] l [] in subst P (sym none) tt);
  stands = stands-nothing before;
}

module _ (before now : Sinks) (show : Show) (start : Walk) (read : List ℕ) (here : Place)
    (come : HasCome before now show start read here) where
  -- what was read, and more, leads on from the place
  walk_of-come : (more : List ℕ) → walk_of start (read ++ more) ≡ walk_of here.walk (here.begun ++ more)
  walk_of-come more =
      ap (λ (l : List ℕ). walk_of start (l ++ more)) come.cut
      ∙ (ap (walk_of start) (append_assoc come.lines here.begun more)
      ∙ (walk_of-append start come.lines (here.begun ++ more) come.whole
      ∙ ap (λ (w : Walk). walk_of w (here.begun ++ more)) come.walked))

  begun-ends : NoEnd here.begun
  begun-ends = no_end here.begun come.undecided.one_line

  -- the line goes on by a byte
  pub come-byte : (byte : ℕ) → byte ≢ 10 → length here.begun < MOST_LINE_BYTES → here.walk.lines + 1 ≤ MOST_LINES
      → HasCome before now show start (read ++ byte ∷ []) (place here.walk here.pictures (here.begun ++ byte ∷ []))
  come-byte byte other short last = record {
    lines = come.lines;
    cut = ap (λ (l : List ℕ). l ++ byte ∷ []) come.cut ∙ append_assoc come.lines here.begun (byte ∷ []);
    whole = come.whole;
    walked = come.walked;
    accepted = come.accepted;
    undecided = record {
      one_line =
          All-from_recursion (λ b. b ≢ 10) (here.begun ++ byte ∷ []) (no_end-append here.begun byte begun-ends other);
      short = (let e = length-append here.begun (byte ∷ []) in omega (arith, e, short));
      last = inr last;
    };
    shown = come.shown;
    stands = come.stands;
  }

  -- what the line and its LF lead to
  walk_of-ended : (more : List ℕ) →
      walk_of start ((read ++ 10 ∷ []) ++ more) ≡ walk_of (after_text here.walk here.begun) more
  walk_of-ended more =
      ap (walk_of start) (append_assoc read (10 ∷ []) more)
      ∙ (walk_of-come (10 ∷ more) ∙ walk_of-line here.walk here.begun more begun-ends)

  -- the end of a script ends the line as an LF does
  pub walk_of-end : here.begun ≢ [] → walk_of start read ≡ walk_of start (read ++ 10 ∷ [])
  walk_of-end some =
      ap (walk_of start) (sym (append-nil read))
      ∙ (walk_of-come []
      ∙ (ap (walk_of here.walk) (append-nil here.begun)
      ∙ (ends here.begun begun-ends some
      ∙ sym (ap (walk_of start) (sym (append-nil (read ++ 10 ∷ []))) ∙ walk_of-ended []
      ∙ walk_of-nothing (after_text here.walk here.begun)))))
    where
      ends : (part : List ℕ) → NoEnd part → part ≢ [] → walk_of here.walk part ≡ after_text here.walk part
      ends [] one there = absurd (there refl)
      ends (b ∷ part) one there = walk_of-last here.walk b part one

  -- where no line has begun, what was read leads to the walk of the place
  pub walk_of-empty : here.begun ≡ [] → walk_of start read ≡ here.walk
  walk_of-empty none =
      ap (walk_of start) (sym (append-nil read))
      ∙ (walk_of-come [] ∙ (ap (λ (l : List ℕ). walk_of here.walk (l ++ [])) none ∙ walk_of-nothing here.walk))

  module _ (line : Line) (is : line_in (limits_of here.walk) here.begun ≡ Ok line) where
    walk_of-accepted : (more : List ℕ) →
        walk_of start ((read ++ 10 ∷ []) ++ more) ≡ walk_of (after_line line here.walk) more
    walk_of-accepted more = walk_of-ended more
        ∙ ap (λ (w : Walk). walk_of w more) (after_text-read here.walk here.begun (Ok line) come.accepted is)

    -- an accepted line was carried out, and its frame was shown, if it is one
    pub come-line : (now' : Sinks) (new : List Picture) →
        ArePictures show (last_members [] here.pictures) (shown_by line here.walk.state) new
        → Stands now now' (shown_acts show (1 + length here.walk.frames) new)
        → HasCome before now' show start (read ++ 10 ∷ []) (place (after_line line here.walk) (here.pictures ++ new) [])
    come-line now' new shown stands = record {
      lines = read ++ 10 ∷ [];
      cut = sym (append-nil (read ++ 10 ∷ []));
      whole = inr (read, refl);
      walked = ap (walk_of start) (sym (append-nil (read ++ 10 ∷ [])))
          ∙ (walk_of-accepted [] ∙ walk_of-nothing (after_line line here.walk));
      accepted = come.accepted;
      undecided = record {
        one_line = All-from_recursion (λ byte. byte ≢ 10) [] tt;
        short = omega arith;
        last = inl refl;
      };
      shown = ArePictures-append show [] here.walk.frames
          (shown_by line here.walk.state) here.pictures new come.shown shown;
      stands = (let P : List Act → Type 0 = λ l. Stands before now' l in
          let count : length here.pictures ≡ length here.walk.frames =
          pictures-count show [] here.walk.frames here.pictures come.shown in
          subst P (sym (shown_acts-append show 1 here.pictures new
          ∙ ap (λ (k : ℕ). shown_acts show 1 here.pictures ++ shown_acts show (1 + k) new) count))
          (stands-append before now now' (shown_acts show 1 here.pictures)
          (shown_acts show (1 + length here.walk.frames) new) come.stands stands));
    }

    module _ (two : BudgetsAreTwo) (frames : FramesExist) (stays : SetsStayClosed) (n : ℕ) (range : (1 ≤ n) × (n ≤ 14))
        (keeps : KeepsStates n start) (state : State) (shows : shown_by line here.walk.state ≡ state ∷ []) where
      -- a frame was cut short: the later frames need their pictures, though they were never made
      pub cuts-frame : (now' : Sinks) (files : ℕ) (p : Picture) → IsPicture show (last_members [] here.pictures) state p
          → IsCutShort now now' (picture_acts show (1 + length here.walk.frames) p) →
          Cuts before now' show files start (read ++ 10 ∷ [])
      cuts-frame now' files p picture cut = record {
        short = λ more.
            let walk : Walk = walk_of start ((read ++ 10 ∷ []) ++ more) in
            let grown = walk_of-grows (after_line line here.walk) more in
            let later : List State = grown.0 in
            let cut_frames : walk.frames ≡ (here.walk.frames ++ state ∷ []) ++ later =
            ap (λ (w : Walk). w.frames) (walk_of-accepted more)
            ∙ (grown.1 ∙ ap (λ (l : List State). (here.walk.frames ++ l) ++ later) shows) in
            let P : List State → Type 0 = λ l. AreStates n l in
            let are : AreStates n walk.frames = (walk_of-states two n start ((read ++ 10 ∷ []) ++ more) keeps).frames in
            let behind : AreStates n later =
            states-behind n (here.walk.frames ++ state ∷ []) later (subst P cut_frames are) in
            let upto : AreStates n (here.walk.frames ++ state ∷ []) =
            states-first n (here.walk.frames ++ state ∷ []) later (subst P cut_frames are) in
            let last : IsGridSet n (last_members [] here.pictures) =
            last_members-set stays show n [] here.walk.frames here.pictures (no-members n range)
            (states-first n here.walk.frames (state ∷ []) upto) come.shown in
            let set : IsGridSet n p.members = picture-set stays show n (last_members [] here.pictures) state p
            (states-behind n here.walk.frames (state ∷ []) upto).0 last picture in
            let rest = pictures_of frames show n p.members later set behind in
            let firsts : List Picture = here.pictures ++ p ∷ [] in
            let first_shown : ArePictures show [] (here.walk.frames ++ state ∷ []) firsts =
            ArePictures-append show [] here.walk.frames (state ∷ []) here.pictures (p ∷ []) come.shown (picture, tt) in
            let Q : List ℕ → Type 0 = λ l. ArePictures show l later rest.0 in
            let all_shown : ArePictures show [] ((here.walk.frames ++ state ∷ []) ++ later) (firsts ++ rest.0) =
            ArePictures-append show [] (here.walk.frames ++ state ∷ []) later firsts rest.0 first_shown
            (subst Q (sym (last_members-append [] here.pictures p)) rest.1) in
            let R : List State → Type 0 = λ l. ArePictures show [] l (firsts ++ rest.0) in
            let end : Outcome = frames_outcome show files walk (firsts ++ rest.0) in
            let tail : List Act = sum_acts show (firsts ++ rest.0) ++ stop_acts walk.stop in
            let count : length here.pictures ≡ length here.walk.frames =
            pictures-count show [] here.walk.frames here.pictures come.shown in
            let first_acts : shown_acts show 1 firsts
            ≡ shown_acts show 1 here.pictures ++ picture_acts show (1 + length here.walk.frames) p =
            shown_acts-append show 1 here.pictures (p ∷ [])
            ∙ (ap (λ (k : ℕ). shown_acts show 1 here.pictures ++ shown_acts show (1 + k) (p ∷ [])) count
            ∙ ap (λ (l : List Act). shown_acts show 1 here.pictures ++ l)
            (append-nil (picture_acts show (1 + length here.walk.frames) p))) in
            let acts : end.acts ≡ (shown_acts show 1 here.pictures ++ picture_acts show (1 + length here.walk.frames) p)
            ++ (shown_acts show (1 + length firsts) rest.0 ++ tail) =
            ap (λ (l : List Act). l ++ tail) (shown_acts-append show 1 firsts rest.0
            ∙ ap (λ (l : List Act). l ++ shown_acts show (1 + length firsts) rest.0) first_acts)
            ∙ append_assoc (shown_acts show 1 here.pictures ++ picture_acts show (1 + length here.walk.frames) p)
            (shown_acts show (1 + length firsts) rest.0) tail in
            let S : List Act → Type 0 = λ l. IsCutShort before now' l in (
              end,
              (firsts ++ rest.0, subst R (sym cut_frames) all_shown, refl),
              subst S (sym acts) (cut-longer before now' (shown_acts show 1 here.pictures ++ picture_acts show
                  (1 + length here.walk.frames) p) (shown_acts show (1 + length firsts) rest.0 ++ tail)
                  (cut-append before now now' (shown_acts show 1 here.pictures)
                  (picture_acts show (1 + length here.walk.frames) p) come.stands cut)),
            );
      }

  -- the acts of a refusal of the next line
  abbrev pub refusal_acts : ScriptFault → List Act
  refusal_acts why = ReportText (line_refusal (record { line = here.walk.lines + 1; fault = why })) ∷ []

  -- what was read settles that the next line is refused
  abbrev pub Settles : List ℕ → ScriptFault → Type 0
  Settles bytes why = (more : List ℕ) → walk_of start (bytes ++ more) ≡ refused_walk why here.walk

  -- a line that ended is refused
  pub settles-line : (why : ScriptFault) → line_in (limits_of here.walk) here.begun ≡ Err why →
      Settles (read ++ 10 ∷ []) why
  settles-line why is more =
      walk_of-ended more
      ∙ (ap (λ (w : Walk). walk_of w more) (after_text-read here.walk here.begun (Err why) come.accepted is)
      ∙ walk_of-refused here.walk why more)

  -- a line that has begun is refused, whatever follows
  pub settles-byte : (byte : ℕ) (why : ScriptFault) → byte ≢ 10
      → ((tail : List ℕ) → line_in (limits_of here.walk) ((here.begun ++ byte ∷ []) ++ tail) ≡ Err why) →
      Settles (read ++ byte ∷ []) why
  settles-byte byte why other refused more =
      ap (walk_of start) (append_assoc read (byte ∷ []) more)
      ∙ (walk_of-come (byte ∷ more)
      ∙ (ap (walk_of here.walk) (sym (append_assoc here.begun (byte ∷ []) more))
      ∙ begun here.begun begun-ends refused))
    where
      begun : (part : List ℕ) → NoEnd part →
          ((tail : List ℕ) → line_in (limits_of here.walk) ((part ++ byte ∷ []) ++ tail) ≡ Err why)
          → walk_of here.walk ((part ++ byte ∷ []) ++ more) ≡ refused_walk why here.walk
      begun [] one is = walk_of-begun here.walk why byte [] more come.accepted (other, tt) is
      begun (b ∷ part) one is = walk_of-begun here.walk why b (part ++ byte ∷ []) more come.accepted
          (one.0, no_end-append part byte one.1 other) is

  -- the refusal was written
  pub refuses : (now' : Sinks) (bytes : List ℕ) (why : ScriptFault) → Settles bytes why →
      Stands now now' (refusal_acts why) → Refuses before now' show start bytes
  refuses now' bytes why settled stands = record {
    walk = refused_walk why here.walk;
    pictures = here.pictures;
    settled = settled;
    refused = is_some;
    shown = come.shown;
    stands = stands-append before now now' (shown_acts show 1 here.pictures) (refusal_acts why) come.stands stands;
  }
    where
      is_some : IsSome (refused_walk why here.walk).stop
      is_some = refl

  -- the refusal was cut short
  pub cuts-refusal : (now' : Sinks) (files : ℕ) (bytes : List ℕ) (why : ScriptFault) →
      ((ps : List Picture) → sum_acts show ps ≡ []) → Settles bytes why
      → IsCutShort now now' (refusal_acts why) → Cuts before now' show files start bytes
  cuts-refusal now' files bytes why no_sum settled cut = record {
    short = λ more.
        let walk : Walk = refused_walk why here.walk in
        let P : Walk → Type 0 =
        λ w. (end : Outcome) × IsFramesOutcome show files w end × IsCutShort before now' end.acts in
        let Q : List Act → Type 0 = λ l. IsCutShort before now' l in
        let acts : shown_acts show 1 here.pictures ++ (sum_acts show here.pictures ++ stop_acts walk.stop)
        ≡ shown_acts show 1 here.pictures ++ refusal_acts why =
        ap (λ (l : List Act). shown_acts show 1 here.pictures ++ (l ++ refusal_acts why)) (no_sum here.pictures) in
        subst P (sym (settled more)) (
          frames_outcome show files walk here.pictures,
          (here.pictures, come.shown, refl),
          subst Q (sym acts)
              (cut-append before now now' (shown_acts show 1 here.pictures) (refusal_acts why) come.stands cut),
        );
  }

  -- what has been read when a read fails
  pub come-read : (s : Scripted) (grid : HeightField) → show ≡ s.show →
      ((bytes : List ℕ) → walk_of start bytes ≡ script_walk s grid bytes)
      → ScriptHasRead s grid read (shown_acts s.show 1 here.pictures)
  come-read s grid same is =
      let P : Show → Type 0 = λ t. ArePictures t [] here.walk.frames here.pictures in
      let at : here.walk ≡ script_walk s grid come.lines = sym come.walked ∙ is come.lines in
      let Q : Walk → Type 0 = λ w. w.stop ≡ None in
      let R : Walk → Type 0 = λ w. HasBegun w.lines here.begun in
      let S : Walk → Type 0 = λ w. ArePictures s.show [] w.frames here.pictures in
      record {
        lines = come.lines;
        begun = here.begun;
        pictures = here.pictures;
        cut = come.cut;
        whole = come.whole;
        accepted = subst Q at come.accepted;
        undecided = subst R at come.undecided;
        shown = subst S at (subst P same come.shown);
        done = refl;
      }
