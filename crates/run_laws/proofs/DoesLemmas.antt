-- What calls do to the outside of a run, and one call after another.
use Rattle.std.proofs.Common.{◌≡◌, ℕ, Bool, true, false, ◌||◌, nat_lt, IsTrue, List, [], ◌∷◌, ◌++◌, Some}
use Rattle.std.proofs.Common.{Result, Ok, Err, OnOk, OnErr, refl, sym, ◌∙◌, ap, append-nil, subst, inl, inr, arith}
use Rattle.roam_edge.specs.Fault.{HasCause, IsInTime, late_after}
use Rattle.roam_edge.specs.MeshSink.{WrittenMesh}
use Rattle.roam_edge.specs.Sink.{Appends}
use Rattle.obj_write.specs.Written.{mesh_with, Grows, IsPartOfMesh}
use Rattle.run_laws.specs.declared.status.Status.{Status}
use Rattle.run_laws.specs.declared.status.Status.TheVariants.{WriteFault}
use Rattle.run_laws.specs.Act.{Act, WholeMesh, ReportText, Sinks, meshes_of}
use Rattle.run_laws.specs.Cause.{NoFault, WritesHaveCause}
use Rattle.run_laws.specs.Promise.{is_complete}
use Rattle.run_laws.specs.Moment.{Moment, OnlyWrites, Does, SameMeshes}
use Rattle.run_laws.specs.Leaving.{EndsWith}
use Rattle.run_laws.proofs.ActLemmas.{grows-nothing, stands-append, cut-append, cut-longer, meshes_of-append}
use Rattle.run_laws.proofs.GridLemmas.{not-complete}

-- a call of an object that had not failed comes in time
pub late-in-time : (late last : Bool) (faults : ℕ) → last ≡ late_after late faults → IsInTime late faults last
late-in-time late last faults is not_late none =
    is ∙ (ap (λ (b : Bool). b || nat_lt 0 faults) not_late ∙ ap (λ (k : ℕ). nat_lt 0 k) none)

-- so does one that was not called
pub same-in-time : (late last : Bool) (faults : ℕ) → last ≡ late → IsInTime late faults last
same-in-time late last faults same not_late none = same ∙ not_late

-- the shelf was not called
pub record SameShelf (before now : Moment) : Type 0 where
  pub shelf : now.shelf ≡ before.shelf
  pub faults : now.shelf_faults ≡ before.shelf_faults
  pub late : now.shelf_late ≡ before.shelf_late

-- a sink was called, by what that came to
sink-called : {T E : Type 0} (before now : Moment) (answer : Result T E) → SameShelf before now
    → OnOk answer (now.under_way ≡ before.under_way)
    → WritesHaveCause before.sinks.mesh_faults now.sinks.mesh_faults
    before.sinks.report_faults now.sinks.report_faults answer
    → IsInTime before.mesh_late before.sinks.mesh_faults now.mesh_late
    → IsInTime before.report_late before.sinks.report_faults now.report_late → OnlyWrites before now answer
sink-called before now answer shelf idle faults meshes report = record {
  shelf = shelf.shelf;
  shelf_faults = shelf.faults;
  shelf_late = shelf.late;
  idle = idle;
  faults = faults;
  meshes_in_time = meshes;
  report_in_time = report;
}

-- a text was written to the report, or a part of it
pub does-text : {T E : Type 0} (before now : Moment) (text : List ℕ) (answer : Result T E) → SameShelf before now
    → now.sinks.meshes ≡ before.sinks.meshes → now.sinks.mesh_faults ≡ before.sinks.mesh_faults
    → now.under_way ≡ before.under_way → now.mesh_late ≡ before.mesh_late
    → Appends before.sinks.report now.sinks.report text answer
    → HasCause before.sinks.report_faults now.sinks.report_faults answer
    → IsInTime before.report_late before.sinks.report_faults now.report_late
    → Does before now (ReportText text ∷ []) answer
does-text before now text (Ok value) shelf meshes faults under_way late bytes cause in_time = record {
  only = sink-called before now (Ok value) shelf under_way
      (record { ok = record { meshes_same = faults; report_same = cause.ok }; err = tt })
      (same-in-time _ _ _ late) in_time;
  done = record {
    meshes_grow = λ all is. meshes ∙ grows-nothing before.sinks.meshes all is;
    report_grows = λ all is. bytes.ok all is ∙ ap (λ m. Some (all ++ m)) (sym (append-nil text));
    mesh_same = faults;
    report_same = cause.ok;
  };
  cut_short = tt;
  no_mesh = λ e. record { meshes = meshes; faults = faults; under_way = under_way; late = late };
}
does-text before now text (Err error) shelf meshes faults under_way late bytes cause in_time = record {
  only = sink-called before now (Err error) shelf tt
      (record {
        ok = tt;
        err = record { meshes_later = omega (arith, faults); report_later = cause.later; cause = inr cause.failed };
      })
      (same-in-time _ _ _ late) in_time;
  done = tt;
  cut_short = record {
    done = [];
    next = ReportText text;
    owed = [];
    in_order = refl;
    standing = ((λ all is. meshes ∙ grows-nothing before.sinks.meshes all is), bytes.failed, cause.failed, faults);
  };
  no_mesh = λ e. record { meshes = meshes; faults = faults; under_way = under_way; late = late };
}

-- a mesh was written, or a part of it
pub does-mesh : {T E : Type 0} (before now : Moment) (prefix : List ℕ) (number : ℕ)
    (bytes : List ℕ) (answer : Result T E)
    → SameShelf before now → before.under_way ≡ false
    → now.sinks.report ≡ before.sinks.report → now.sinks.report_faults ≡ before.sinks.report_faults →
    now.report_late ≡ before.report_late
    → OnOk answer (Grows before.sinks.meshes now.sinks.meshes (mesh_with prefix number bytes true ∷ []))
    → OnOk answer (now.under_way ≡ false)
    → OnErr answer ((all : List WrittenMesh) → before.sinks.meshes ≡ Some all
    → (part : List WrittenMesh) × IsPartOfMesh prefix number bytes part × (now.sinks.meshes ≡ Some (all ++ part)))
    → HasCause before.sinks.mesh_faults now.sinks.mesh_faults answer
    → IsInTime before.mesh_late before.sinks.mesh_faults now.mesh_late
    → Does before now (WholeMesh prefix number bytes ∷ []) answer
does-mesh before now prefix number bytes (Ok value) shelf idle report faults late grown idle_now part cause in_time =
    record {
      only = sink-called before now (Ok value) shelf (idle_now ∙ sym idle)
          (record { ok = record { meshes_same = cause.ok; report_same = faults }; err = tt })
          in_time (same-in-time _ _ _ late);
      done = record {
        meshes_grow = grown;
        report_grows = λ all is. report ∙ grows-nothing before.sinks.report all is;
        mesh_same = cause.ok;
        report_same = faults;
      };
      cut_short = tt;
      no_mesh = λ e. cc;
    }
does-mesh before now prefix number bytes (Err error) shelf idle report faults late grown idle_now part cause in_time =
    record {
      only = sink-called before now (Err error) shelf tt
          (record {
            ok = tt;
            err = record { meshes_later = cause.later; report_later = omega (arith, faults); cause = inl cause.failed };
          })
          in_time (same-in-time _ _ _ late);
      done = tt;
      cut_short = record {
        done = [];
        next = WholeMesh prefix number bytes;
        owed = [];
        in_order = refl;
        standing = (part, (λ all is. report ∙ grows-nothing before.sinks.report all is), cause.failed, faults);
      };
      no_mesh = λ e. cc;
    }

-- faults of one call behind another that did not fail
causes-then : {U G : Type 0} (before middle now : Sinks) (answer : Result U G) →
    NoFault before.mesh_faults middle.mesh_faults before.report_faults middle.report_faults
    → WritesHaveCause middle.mesh_faults now.mesh_faults middle.report_faults now.report_faults answer
    → WritesHaveCause before.mesh_faults now.mesh_faults before.report_faults now.report_faults answer
causes-then before middle now answer none cause =
    subst (λ (k : ℕ). WritesHaveCause k now.mesh_faults before.report_faults now.report_faults answer) none.meshes_same
    (subst (λ (k : ℕ). WritesHaveCause middle.mesh_faults now.mesh_faults k now.report_faults answer)
    none.report_same cause)

-- only the sinks were called, and then only they were again
pub only-then : {T E U G : Type 0} (before middle now : Moment) (one : T) (answer : Result U G)
    → OnlyWrites {T = T} {E = E} before middle (Ok one) → OnlyWrites middle now answer → OnlyWrites before now answer
only-then before middle now one answer did does = record {
  shelf = does.shelf ∙ did.shelf;
  shelf_faults = does.shelf_faults ∙ did.shelf_faults;
  shelf_late = does.shelf_late ∙ did.shelf_late;
  idle = on-ok answer (λ same. same ∙ did.idle) does.idle;
  faults = causes-then before.sinks middle.sinks now.sinks answer did.faults.ok does.faults;
  meshes_in_time =
      λ not_late none. does.meshes_in_time (did.meshes_in_time not_late none) (did.faults.ok.meshes_same ∙ none);
  report_in_time =
      λ not_late none. does.report_in_time (did.report_in_time not_late none) (did.faults.ok.report_same ∙ none);
}
  where
    on-ok : {U G P Q : Type 0} (answer : Result U G) → (P → Q) → OnOk answer P → OnOk answer Q
    on-ok (Ok value) give one = give one
    on-ok (Err error) give one = tt

-- where no mesh is among all acts, none is among the first ones or the others
none-first : (first second : List WrittenMesh) → first ++ second ≡ [] → first ≡ []
none-first [] second none = refl
none-first (mesh ∷ first) second none = absurd cc

none-second : (first second : List WrittenMesh) → first ++ second ≡ [] → second ≡ []
none-second [] second none = none
none-second (mesh ∷ first) second none = absurd cc

module _ (first second : List Act) (none : meshes_of (first ++ second) ≡ []) where
  joined : meshes_of first ++ meshes_of second ≡ []
  joined = sym (meshes_of-append first second) ∙ none

  no-first : meshes_of first ≡ []
  no-first = none-first (meshes_of first) (meshes_of second) joined

  no-second : meshes_of second ≡ []
  no-second = none-second (meshes_of first) (meshes_of second) joined

-- the sink of meshes was not called, and then it was not again
pub same-meshes-then : (before middle now : Moment) → SameMeshes before middle → SameMeshes middle now →
    SameMeshes before now
same-meshes-then before middle now one two = record {
  meshes = two.meshes ∙ one.meshes;
  faults = two.faults ∙ one.faults;
  under_way = two.under_way ∙ one.under_way;
  late = two.late ∙ one.late;
}

-- acts were done, and then others, or a part of them
pub does-then : {T E U G : Type 0} (before middle now : Moment) (first second : List Act)
    (one : T) (answer : Result U G)
    → Does {T = T} {E = E} before middle first (Ok one) → Does middle now second answer →
    Does before now (first ++ second) answer
does-then before middle now first second one (Ok value) did does = record {
  only = only-then before middle now one (Ok value) did.only does.only;
  done = stands-append before.sinks middle.sinks now.sinks first second did.done does.done;
  cut_short = tt;
  no_mesh = λ none. same-meshes-then before middle now
      (did.no_mesh (no-first first second none)) (does.no_mesh (no-second first second none));
}
does-then before middle now first second one (Err error) did does = record {
  only = only-then before middle now one (Err error) did.only does.only;
  done = tt;
  cut_short = cut-append before.sinks middle.sinks now.sinks first second did.done does.cut_short;
  no_mesh = λ none. same-meshes-then before middle now
      (did.no_mesh (no-first first second none)) (does.no_mesh (no-second first second none));
}

-- acts were cut short, and no others followed
pub does-cut : {T E U : Type 0} (before now : Moment) (first second : List Act) (error : E)
    → Does {T = T} {E = E} before now first (Err error) → Does {T = U} {E = E} before now (first ++ second) (Err error)
does-cut before now first second error did = record {
  only = sink-called before now (Err error)
      (record { shelf = did.only.shelf; faults = did.only.shelf_faults; late = did.only.shelf_late }) tt
      (record { ok = tt; err = did.only.faults.err }) did.only.meshes_in_time did.only.report_in_time;
  done = tt;
  cut_short = cut-longer before.sinks now.sinks first second did.cut_short;
  no_mesh = λ none. did.no_mesh (no-first first second none);
}

-- what was done, in other words
pub does-same : {T E : Type 0} (before now : Moment) (acts other : List Act) (answer : Result T E) → acts ≡ other
    → Does before now acts answer → Does before now other answer
does-same before now acts other answer same does = subst (λ (l : List Act). Does before now l answer) same does

-- the last acts of a run were done
pub ends-done : {T E : Type 0} (before now : Moment) (acts : List Act) (meant : Status) (one : T) →
    IsTrue (is_complete meant)
    → Does {T = T} {E = E} before now acts (Ok one) → EndsWith before now acts meant meant
ends-done before now acts meant one complete did = record {
  shelf = did.only.shelf;
  shelf_faults = did.only.shelf_faults;
  shelf_late = did.only.shelf_late;
  ends = inl refl;
  does = λ files. record {
    complete = λ e. (did.done, refl);
    cut_short = λ e. absurd (not-complete meant WriteFault refl complete e);
  };
  idle = λ not. did.only.idle;
  writes = record {
    write = λ e. absurd (not-complete meant WriteFault refl complete e);
    not_write = λ not. did.only.faults.ok;
  };
  meshes_in_time = did.only.meshes_in_time;
  report_in_time = did.only.report_in_time;
  no_mesh = did.no_mesh;
}

-- or they were cut short
pub ends-cut : {T E : Type 0} (before now : Moment) (acts : List Act) (meant : Status) (error : E)
    → Does {T = T} {E = E} before now acts (Err error) → EndsWith before now acts meant WriteFault
ends-cut before now acts meant error did = record {
  shelf = did.only.shelf;
  shelf_faults = did.only.shelf_faults;
  shelf_late = did.only.shelf_late;
  ends = inr refl;
  does = λ files. record { complete = λ e. cc; cut_short = λ e. did.cut_short };
  idle = λ not. absurd (not refl);
  writes = record { write = λ e. did.only.faults.err; not_write = λ not. absurd (not refl) };
  meshes_in_time = did.only.meshes_in_time;
  report_in_time = did.only.report_in_time;
  no_mesh = did.no_mesh;
}
