-- Acts of frames that were cut short: which act was cut, and what stands of it.
use Rattle.std.proofs.Common.{◌≡◌, ◌⊎◌, ℕ, zero, suc, ◌+◌, ◌-◌, ◌^◌, ◌<◌, true, false, IsTrue, List, [], ◌∷◌, ◌++◌}
use Rattle.std.proofs.Common.{take, Option, Some, None, slice_get, refl, sym, ◌∙◌, ap, subst, inl, inr, arith}
use Rattle.std.proofs.Common.{append_assoc, append-nil}
use Rattle.std.specs.Prelude.{◌≢◌, Result}
use Rattle.std.proofs.lemmas.Option.{none-some}
use Rattle.mesh_defs.specs.HeightField.{HeightField}
use Rattle.mesh_defs.specs.State.{text_in}
use Rattle.roam_edge.specs.MeshSink.{WrittenMesh}
use Rattle.roam_edge.specs.Fault.{Rose}
use Rattle.obj_write.specs.Written.{mesh_with, IsPartOfMesh}
use Rattle.roam_edge.specs.Shelf.{bytes_of}
use Rattle.pgm_grid.specs.declared.fault.PgmFault.{PgmFault}
use Rattle.pgm_grid.specs.Laws.{TextsAreRead}
use Rattle.run_laws.specs.declared.status.Status.{Status}
use Rattle.run_laws.specs.declared.status.Status.TheVariants.{NoMemory, ReadFault, WriteFault}
use Rattle.run_laws.specs.Walk.{Refusal}
use Rattle.run_words.specs.Words.{Criterion, TriangleOrder, Output, Meshes, Measures, Sums, Show, Frames, Command}
use Rattle.run_laws.specs.Act.{Act, WholeMesh, ReportText, Sinks, StandsInPart, IsCutShort, meshes_of, report_of}
use Rattle.run_laws.specs.Picture.{Picture, shown_triangles}
use Rattle.run_laws.specs.Outcome.{Outcome, picture_acts, shown_acts, sum_acts, stop_acts, script_walk, IsFramesOutcome}
use Rattle.run_laws.specs.Outcome.{IsGridOutcome, IsOutcome}
use Rattle.run_laws.specs.ReportText.{mesh_line, measure_line, line_refusal}
use Rattle.run_laws.specs.CutShort.{is_by_frame, first_frames, StandsUnbegun, StandsInMesh, StandsInText, IsCutInMesh}
use Rattle.run_laws.specs.CutShort.{IsCutInLine, StandsInRun, SinksDecide, CutRunsStand, CutTextsStand}
use Rattle.run_laws.specs.CutShort.{WriteFaultsStand}
use Rattle.run_laws.proofs.PictureLemmas.{show_of}

heads : (a b : Act) (xs ys : List Act) → a ∷ xs ≡ b ∷ ys → a ≡ b
heads a b xs ys same = cc

tails : (a b : Act) (xs ys : List Act) → a ∷ xs ≡ b ∷ ys → xs ≡ ys
tails a b xs ys same = cc

-- a list with an entry in it is not empty
not-empty : (done : List Act) (next : Act) (owed : List Act) → [] ≡ done ++ next ∷ owed → ⊥
not-empty [] next owed same = cc
not-empty (d ∷ done) next owed same = cc

-- Which act was cut: one of a frame, of which the first has number k, or one behind them all.

-- two lists of acts, one behind the other, in one of which an act was cut
split-at : (xs ys done : List Act) (next : Act) (owed : List Act) → xs ++ ys ≡ done ++ next ∷ owed
    → ((more : List Act) × (xs ≡ done ++ next ∷ more))
    ⊎ ((mine : List Act) × (done ≡ xs ++ mine) × (ys ≡ mine ++ next ∷ owed))
split-at [] ys done next owed same = inr (done, refl, same)
split-at (x ∷ xs) ys [] next owed same = inl (xs, ap (λ (a : Act). a ∷ xs) (heads _ _ _ _ same))
split-at (x ∷ xs) ys (d ∷ done) next owed same =
    let first = heads _ _ _ _ same in
    elim (split-at xs ys done next owed (tails _ _ _ _ same)) [
      | inl here ↦ (let is = here.1 in inl (here.0, cc))
      | inr behind ↦ (let is = behind.1 in inr (behind.0, cc, behind.2))
    ]

-- the frame behind the first j was cut, with some of its acts done
record CutInFrame (show : Show) (k : ℕ) (pictures : List Picture) (done : List Act) (next : Act) : Type 0 where
  pub j : ℕ
  pub picture : Picture
  pub at : slice_get pictures j ≡ Some picture
  pub mine : List Act
  pub more : List Act
  pub before : done ≡ shown_acts show k (take j pictures) ++ mine
  pub cut : picture_acts show (k + j) picture ≡ mine ++ next ∷ more

-- what is behind the frames was cut, with some of its acts done
record CutBehind (show : Show) (k : ℕ) (pictures : List Picture) (behind done : List Act) (next : Act)
    (owed : List Act) : Type 0 where
  pub mine : List Act
  pub before : done ≡ shown_acts show k pictures ++ mine
  pub cut : behind ≡ mine ++ next ∷ owed

-- one frame more in front
later : (show : Show) (k : ℕ) (p : Picture) (ps : List Picture) (rest done : List Act) (next : Act) →
    done ≡ picture_acts show k p ++ rest
    → CutInFrame show (k + 1) ps rest next → CutInFrame show k (p ∷ ps) done next
later show k p ps rest done next is cut =
    let places : k + 1 + cut.j ≡ k + suc cut.j = omega arith in
    record {
      j = suc cut.j;
      picture = cut.picture;
      at = cut.at;
      mine = cut.mine;
      more = cut.more;
      before = is ∙ (ap (λ (l : List Act). picture_acts show k p ++ l) cut.before
          ∙ sym (append_assoc (picture_acts show k p) (shown_acts show (k + 1) (take cut.j ps)) cut.mine));
      cut = ap (λ n. picture_acts show n cut.picture) (sym places) ∙ cut.cut;
    }

cut_at : (show : Show) (k : ℕ) (pictures : List Picture) (behind done : List Act) (next : Act) (owed : List Act)
    → shown_acts show k pictures ++ behind ≡ done ++ next ∷ owed
    → CutInFrame show k pictures done next ⊎ CutBehind show k pictures behind done next owed
cut_at show k [] behind done next owed same = inr (record { mine = done; before = refl; cut = same })
cut_at show k (p ∷ ps) behind done next owed same =
    let number : k + 0 ≡ k = omega arith in
    elim (split-at (picture_acts show k p) (shown_acts show (k + 1) ps ++ behind) done next owed
    (sym (append_assoc (picture_acts show k p) (shown_acts show (k + 1) ps) behind) ∙ same)) [
      | inl here ↦ inl (record {
        j = zero;
        picture = p;
        at = refl;
        mine = done;
        more = here.0;
        before = refl;
        cut = ap (λ n. picture_acts show n p) number ∙ here.1;
      })
      | inr rest ↦ elim (cut_at show (k + 1) ps behind rest.0 next owed rest.2) [
        | inl cut ↦ inl (later show k p ps rest.0 done next rest.1 cut)
        | inr cut ↦ inr (record {
          mine = cut.mine;
          before = rest.1 ∙ (ap (λ (l : List Act). picture_acts show k p ++ l) cut.before
              ∙ sym (append_assoc (picture_acts show k p) (shown_acts show (k + 1) ps) cut.mine));
          cut = cut.cut;
        })
      ]
    ]

-- What stands of it.

some-one : {A : Type 0} (a b : A) → Some a ≡ Some b → a ≡ b
some-one a b same = cc

mesh_cases : (before now : Sinks) (acts : List Act) (prefix : List ℕ) (number : ℕ) (bytes : List ℕ)
    (meshes : Option (List WrittenMesh)) → before.meshes ≡ meshes
    → StandsInPart before now acts (WholeMesh prefix number bytes) → StandsUnbegun before now acts
    ⊎ StandsInMesh before now acts prefix number bytes
mesh_cases before now acts prefix number bytes None is part = inl (record {
  meshes = λ all told. absurd (none-some all (sym is ∙ told));
  report = part.1;
  failed = part.2;
  report_same = part.3;
})
mesh_cases before now acts prefix number bytes (Some known) is part =
    let stood = part.0 known is in
    mesh_cases_of before now acts prefix number bytes known is part.1 part.2 part.3 stood.0 stood.1 stood.2
  where
    mesh_cases_of : (before now : Sinks) (acts : List Act) (prefix : List ℕ) (number : ℕ) (bytes : List ℕ)
        (known : List WrittenMesh) → before.meshes ≡ Some known
        → ((all : List ℕ) → before.report ≡ Some all → now.report ≡ Some (all ++ report_of acts))
        → Rose before.mesh_faults now.mesh_faults → now.report_faults ≡ before.report_faults →
        (piece : List WrittenMesh)
        → IsPartOfMesh prefix number bytes piece
        → now.meshes ≡ Some (known ++ (meshes_of acts ++ piece)) → StandsUnbegun before now acts
        ⊎ StandsInMesh before now acts prefix number bytes
    mesh_cases_of before now acts prefix number bytes known is report rose same_report piece (inl nothing) came =
        inl (record {
          meshes = λ all told.
              let same = some-one known all (sym is ∙ told) in
              came ∙ ap (λ m. Some (known ++ m)) (ap (λ m. meshes_of acts ++ m) nothing ∙ append-nil (meshes_of acts))
              ∙ ap (λ m. Some (m ++ meshes_of acts)) same;
          report = report;
          failed = rose;
          report_same = same_report;
        })
    mesh_cases_of before now acts prefix number bytes known is report rose same_report piece (inr begun) came =
        inr (record {
          mesh = λ all told.
              let same = some-one known all (sym is ∙ told) in (
                begun.0,
                begun.1,
                came ∙ ap (λ m. Some (known ++ (meshes_of acts ++ m))) begun.2
                    ∙ ap (λ m. Some (m ++ (meshes_of acts ++ mesh_with prefix number begun.0 false ∷ []))) same,
              );
          report = report;
          failed = rose;
          report_same = same_report;
        })

text_case : (before now : Sinks) (acts : List Act) (bytes : List ℕ) → StandsInPart before now acts (ReportText bytes) →
    StandsInText before now acts bytes
text_case before now acts bytes part = record { meshes = part.0; report = part.1; failed = part.2; mesh_same = part.3 }

-- one text was cut short behind some acts
text_cut : (before now : Sinks) (acts : List Act) (bytes : List ℕ) (mine : List Act) (next : Act) (owed : List Act) →
    ReportText bytes ∷ [] ≡ mine ++ next ∷ owed
    → StandsInPart before now (acts ++ mine) next → StandsInText before now acts bytes
text_cut before now acts bytes [] next owed same part =
    let P : List Act → Type 0 = λ l. StandsInPart before now l (ReportText bytes) in
    text_case before now acts bytes (subst P (append-nil acts)
    (subst (λ (a : Act). StandsInPart before now (acts ++ []) a) (sym (heads _ _ _ _ same)) part))
text_cut before now acts bytes (d ∷ mine) next owed same part = absurd (not-empty mine next owed (tails _ _ _ _ same))

-- a mesh and a text behind it were cut short behind some acts
pub mesh_cut : (before now : Sinks) (acts : List Act) (prefix : List ℕ) (number : ℕ) (bytes line : List ℕ)
    (mine : List Act) (next : Act) (owed : List Act)
    → WholeMesh prefix number bytes ∷ (ReportText line ∷ []) ≡ mine ++ next ∷ owed →
    StandsInPart before now (acts ++ mine) next
    → StandsUnbegun before now acts ⊎ StandsInMesh before now acts prefix number bytes ⊎ StandsInText before now
    (acts ++ WholeMesh prefix number bytes ∷ []) line
mesh_cut before now acts prefix number bytes line [] next owed same part =
    let P : List Act → Type 0 = λ l. StandsInPart before now l (WholeMesh prefix number bytes) in
    elim (mesh_cases before now acts prefix number bytes before.meshes refl
    (subst P (append-nil acts) (subst (λ (a : Act). StandsInPart before now (acts ++ []) a)
    (sym (heads _ _ _ _ same)) part))) [
      | inl none ↦ inl none
      | inr some ↦ inr (inl some)
    ]
mesh_cut before now acts prefix number bytes line (d ∷ mine) next owed same part =
    let first = heads _ _ _ _ same in
    let P : List Act → Type 0 = λ l. StandsInPart before now l next in
    inr (inr (text_cut before now (acts ++ WholeMesh prefix number bytes ∷ []) line mine next owed (tails _ _ _ _ same)
    (subst P (ap (λ (a : Act). acts ++ a ∷ mine) (sym first)
    ∙ sym (append_assoc acts (WholeMesh prefix number bytes ∷ []) mine)) part)))

-- the same, with the prefix that is shown
with_prefix : (before now : Sinks) (acts : List Act) (prefix : List ℕ) (shown : Option (List ℕ)) (number : ℕ)
    (bytes line : List ℕ) → shown ≡ Some prefix
    → StandsUnbegun before now acts ⊎ StandsInMesh before now acts prefix number bytes ⊎ StandsInText before now
    (acts ++ WholeMesh prefix number bytes ∷ []) line
    → ((other : List ℕ) × (shown ≡ Some other)
    × (StandsUnbegun before now acts ⊎ StandsInMesh before now acts other number bytes))
    ⊎ StandsInText before now (acts ++ WholeMesh prefix number bytes ∷ []) line
with_prefix before now acts prefix shown number bytes line is (inl none) = inl (prefix, is, inl none)
with_prefix before now acts prefix shown number bytes line is (inr (inl some)) = inl (prefix, is, inr some)
with_prefix before now acts prefix shown number bytes line is (inr (inr text)) = inr text

-- the acts of a frame were cut short behind those of the frames before it
frame_cut : (before now : Sinks) (acts : List Act) (show : Show) (number : ℕ) (picture : Picture) (mine : List Act)
    (next : Act) (owed : List Act)
    → picture_acts show number picture ≡ mine ++ next ∷ owed → StandsInPart before now (acts ++ mine) next
    → IsCutInMesh before now acts show number picture ⊎ IsCutInLine before now acts show number picture
frame_cut before now acts show number picture mine next owed same part =
    by_parts show.criterion show.order show.output same
  where
    by_parts : (criterion : Criterion) (order : TriangleOrder) (output : Output)
        → picture_acts (show_of criterion order output) number picture ≡ mine ++ next ∷ owed
        → IsCutInMesh before now acts (show_of criterion order output) number picture
        ⊎ IsCutInLine before now acts (show_of criterion order output) number picture
    by_parts criterion order (Meshes prefix) same =
        let bytes : List ℕ =
        text_in picture.state (shown_triangles (show_of criterion order (Meshes prefix)) picture) in
        let line : List ℕ = mesh_line order criterion number picture in
        with_prefix before now acts prefix (Some prefix) number bytes line refl
        (mesh_cut before now acts prefix number bytes line mine next owed same part)
    by_parts criterion order Measures same =
        let line = text_cut before now acts (measure_line number picture) mine next owed same part in
        let P : List Act → Type 0 = λ l. StandsInText before now l (measure_line number picture) in
        inr (subst P (sym (append-nil acts)) line)
    by_parts criterion order (Sums n seed) same = absurd (not-empty mine next owed same)

-- where frames and a refusal were cut short, one of the four cases stands
pub cut_runs : CutRunsStand
cut_runs before now show pictures stop cut =
    elim (cut_at show 1 pictures (stop_acts stop) cut.done cut.next cut.owed cut.in_order) [
      | inl frame ↦ in_run frame.j frame.picture frame.at (in_frame frame)
      | inr last ↦ inr (inr (in_refusal stop last))
    ]
  where
    in_run : (j : ℕ) (picture : Picture) → slice_get pictures j ≡ Some picture
        → IsCutInMesh before now (first_frames show pictures j) show (j + 1) picture
        ⊎ IsCutInLine before now (first_frames show pictures j) show (j + 1) picture →
        StandsInRun before now show pictures stop
    in_run j picture at (inl mesh) = inl (j, picture, at, mesh)
    in_run j picture at (inr line) = inr (inl (j, picture, at, line))

    in_frame : (frame : CutInFrame show 1 pictures cut.done cut.next)
        → IsCutInMesh before now (first_frames show pictures frame.j) show (frame.j + 1) frame.picture
        ⊎ IsCutInLine before now (first_frames show pictures frame.j) show (frame.j + 1) frame.picture
    in_frame frame =
        let number : frame.j + 1 ≡ 1 + frame.j = omega arith in
        frame_cut before now (first_frames show pictures frame.j) show
        (frame.j + 1) frame.picture frame.mine cut.next frame.more
        (ap (λ n. picture_acts show n frame.picture) number ∙ frame.cut)
        (subst (λ (a : List Act). StandsInPart before now a cut.next) frame.before cut.standing)

    in_refusal : (why : Option Refusal) → CutBehind show 1 pictures (stop_acts why) cut.done cut.next cut.owed
        → (refusal : Refusal) × (why ≡ Some refusal)
        × StandsInText before now (shown_acts show 1 pictures) (line_refusal refusal)
    in_refusal None last = absurd (not-empty last.mine cut.next cut.owed last.cut)
    in_refusal (Some refusal) last = (
      refusal,
      refl,
      text_cut before now (shown_acts show 1 pictures) (line_refusal refusal) last.mine cut.next cut.owed last.cut
          (subst (λ (a : List Act). StandsInPart before now a cut.next) last.before cut.standing),
    )

-- where one text was cut short, a prefix of it stands
pub cut_texts : CutTextsStand
cut_texts before now bytes cut = text_cut before now [] bytes cut.done cut.next cut.owed cut.in_order cut.standing

-- A run in which a write failed.

write-fault-is : (status other : Status) → status ≡ WriteFault → other ≢ WriteFault → status ≢ other
write-fault-is status other failed not same = not (sym same ∙ failed)

-- frames that are shown one by one have no sums behind them
no-sums : (show : Show) (pictures : List Picture) → IsTrue (is_by_frame show) → sum_acts show pictures ≡ []
no-sums show pictures is = by_parts show.criterion show.order show.output is
  where
    by_parts : (criterion : Criterion) (order : TriangleOrder) (output : Output) →
        IsTrue (is_by_frame (show_of criterion order output))
        → sum_acts (show_of criterion order output) pictures ≡ []
    by_parts criterion order (Meshes prefix) is = refl
    by_parts criterion order Measures is = refl
    by_parts criterion order (Sums n seed) is = absurd (not_true is)
      where
        not_true : false ≡ true → ⊥
        not_true e = cc

-- where a write failed in a run that shows its frames one by one, one of the four cases stands
pub write_faults : TextsAreRead → WriteFaultsStand
write_faults read before now old new words files s grid status ends failed run by_frame =
    let e = ends.ends (write-fault-is status NoMemory failed (λ e. cc))
    (write-fault-is status ReadFault failed (λ e. cc)) in
    let P : Option Command → Type 0 = λ c. IsOutcome c files e.0 in
    let Q : Result HeightField PgmFault → Type 0 = λ r. IsGridOutcome (Frames s) r files e.0 in
    let script : List ℕ = bytes_of files s.script in
    let outcome : IsFramesOutcome s.show 2 (script_walk s grid script) e.0 =
    subst Q (read grid (bytes_of files run.grid_name) run.valid run.file_text) (subst P run.is_command e.1) in
    let R : List Act → Type 0 = λ acts. IsCutShort before now acts in
    let stop : Option Refusal = (script_walk s grid script).stop in
    let acts : e.0.acts ≡ shown_acts s.show 1 outcome.0 ++ stop_acts stop =
    ap (λ (o : Outcome). o.acts) outcome.2 ∙ ap (λ (l : List Act).
    shown_acts s.show 1 outcome.0 ++ (l ++ stop_acts stop)) (no-sums s.show outcome.0 by_frame) in
    record {
      pictures = outcome.0;
      shown = outcome.1;
      stands = cut_runs before now s.show outcome.0 stop (subst R acts (e.2.cut_short failed));
    }

-- Which sink failed.

not-rose : (old new : ℕ) → old < 2 ^ 64 - 1 → new ≡ old → Rose old new → ⊥
not-rose old new low same rose = omega (arith, rose, same, low)

module _ (before now : Sinks) (show : Show) (acts : List Act) (number : ℕ) (picture : Picture) where
  -- no mesh was cut short where the meshes did not fail
  mesh-failed : before.mesh_faults < 2 ^ 64 - 1 → now.mesh_faults ≡ before.mesh_faults →
      IsCutInMesh before now acts show number picture → ⊥
  mesh-failed low same cut = elim cut.2 [
    | inl none ↦ not-rose before.mesh_faults now.mesh_faults low same none.failed
    | inr some ↦ not-rose before.mesh_faults now.mesh_faults low same some.failed
  ]

-- where the count of the meshes did not move a line was cut short, and where that of the report did not, a mesh
pub sinks-decide : SinksDecide
sinks-decide before now show pictures stop (inl m) = (
  λ low same. absurd (mesh-failed before now show (first_frames show pictures m.0) (m.0 + 1) m.1 low same m.3),
  λ low same. m,
)
sinks-decide before now show pictures stop (inr (inl line)) = (
  λ low same. inl line,
  λ low same. absurd (not-rose before.report_faults now.report_faults low same line.3.failed),
)
sinks-decide before now show pictures stop (inr (inr last)) = (
  λ low same. inr last,
  λ low same. absurd (not-rose before.report_faults now.report_faults low same last.2.failed),
)
