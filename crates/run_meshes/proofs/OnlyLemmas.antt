-- What the calls of a script leave as it was, one call after another.
use Rattle.std.proofs.Common.{◌≡◌, ◌≢◌, ◌⊎◌, ℕ, Bool, true, false, List, [], Option, Result, Ok, Err, inl, inr, refl}
use Rattle.std.proofs.Common.{sym, ◌∙◌, ap, subst}
use Rattle.roam_edge.specs.Fault.{Rose, IsInTime, next_count}
use Rattle.run_laws.specs.declared.status.Status.{Status}
use Rattle.run_laws.specs.declared.status.Status.TheVariants as ends
use Rattle.run_laws.specs.Act.{Sinks}
use Rattle.run_laws.specs.Cause.{NoFault, WriteFaults, StatusWritesHaveCause, StatusHasCause}
use Rattle.run_laws.specs.Promise.{HasEnded, ShelfState}
use Rattle.run_laws.specs.Maker.{IsScriptEnd}
use Rattle.run_laws.specs.Moment.{Moment, OnlyReads, OnlyWrites}
use Rattle.run_laws.specs.Leaving.{LeavesByScript}
use Rattle.run_meshes.specs.declared.script.Stop.{Stop}
use Rattle.run_meshes.specs.declared.script.Stop.TheVariants.{Refused, Failed}
use Rattle.run_meshes.specs.Taking.{status_for, NotFailed, StopsHaveCause, OnlyTakes, OnlyEnds, GoesOn}

abbrev taken : Result (Unit {0}) Stop
taken = Ok tt

abbrev stopped : Stop → Result (Unit {0}) Stop
stopped stop = Err stop

same-in-time : (late : Bool) (faults : ℕ) → IsInTime late faults late
same-in-time late faults not_late none = not_late

-- no sink was called
pub only-nothing : (now : Moment) → OnlyTakes now now taken
only-nothing now = record {
  shelf = refl;
  shelf_faults = refl;
  shelf_late = refl;
  idle = λ not. refl;
  faults = record { failed = λ e. cc; others = λ not. record { meshes_same = refl; report_same = refl } };
  meshes_in_time = same-in-time _ _;
  report_in_time = same-in-time _ _;
}

module _ {T E : Type 0} (before now : Moment) where
  -- acts were done, and the line was carried out or refused
  only-did : (answer : Result (Unit {0}) Stop) (one : T) → answer ≢ stopped Failed →
      OnlyWrites {T = T} {E = E} before now (Ok one)
      → OnlyTakes before now answer
  only-did answer one not did = record {
    shelf = did.shelf;
    shelf_faults = did.shelf_faults;
    shelf_late = did.shelf_late;
    idle = λ other. did.idle;
    faults = record { failed = λ e. absurd (not e); others = λ other. did.faults.ok };
    meshes_in_time = did.meshes_in_time;
    report_in_time = did.report_in_time;
  }

  pub only-shown : (one : T) → OnlyWrites {T = T} {E = E} before now (Ok one) → OnlyTakes before now taken
  only-shown one = only-did taken one (λ e. cc)

  pub only-refused : (one : T) → OnlyWrites {T = T} {E = E} before now (Ok one) → OnlyTakes before now (stopped Refused)
  only-refused one = only-did (stopped Refused) one (λ e. cc)

  -- a write failed
  pub only-cut : (error : E) → OnlyWrites {T = T} {E = E} before now (Err error) → OnlyTakes before now (stopped Failed)
  only-cut error did = record {
    shelf = did.shelf;
    shelf_faults = did.shelf_faults;
    shelf_late = did.shelf_late;
    idle = λ other. absurd (other refl);
    faults = record { failed = λ e. did.faults.err; others = λ other. absurd (other refl) };
    meshes_in_time = did.meshes_in_time;
    report_in_time = did.report_in_time;
  }

-- a script ended where bytes were taken, by what the status says of a failed write
ends-by : (before now : Moment) (answer : Result (Unit {0}) Stop) (status : Status) → OnlyTakes before now answer
    → (status ≢ ends.WriteFault → NotFailed answer) → (status ≡ ends.WriteFault → answer ≡ stopped Failed) →
    OnlyEnds before now status
ends-by before now answer status takes not_failed failed = record {
  shelf = takes.shelf;
  shelf_faults = takes.shelf_faults;
  shelf_late = takes.shelf_late;
  idle = λ not. takes.idle (not_failed not);
  faults = record {
    write = λ is. takes.faults.failed (failed is);
    not_write = λ not. takes.faults.others (not_failed not);
  };
  meshes_in_time = takes.meshes_in_time;
  report_in_time = takes.report_in_time;
}

-- with its bytes
pub ends-taken : (before now : Moment) → OnlyTakes before now taken → OnlyEnds before now ends.Done
ends-taken before now takes = ends-by before now taken ends.Done takes (λ not e. cc) (λ e. cc)

-- or with a stop
pub ends-stopped : (before now : Moment) (stop : Stop) → OnlyTakes before now (stopped stop) →
    OnlyEnds before now (status_for stop)
ends-stopped before now Refused takes =
    ends-by before now (stopped Refused) ends.ScriptRefused takes (λ not e. cc) (λ e. cc)
ends-stopped before now Failed takes =
    ends-by before now (stopped Failed) ends.WriteFault takes (λ not. absurd (not refl)) (λ e. refl)

none-failed : (before now : Sinks) → now ≡ before →
    NoFault before.mesh_faults now.mesh_faults before.report_faults now.report_faults
none-failed before now same = record {
  meshes_same = ap (λ (t : Sinks). t.mesh_faults) same;
  report_same = ap (λ (t : Sinks). t.report_faults) same;
}

-- the script was opened
pub goes-opened : (before now : Moment) → OnlyReads before now → now.shelf.opens ≡ next_count before.shelf.opens
    → now.shelf_faults ≡ before.shelf_faults →
    IsInTime before.shelf_late before.shelf_faults now.shelf_late → GoesOn before now
goes-opened before now only opens calm in_time = record {
  files = only.files;
  opens = opens;
  shelf_faults = calm;
  idle = only.under_way;
  faults = none-failed before.sinks now.sinks only.sinks;
  shelf_in_time = in_time;
  meshes_in_time = λ not_late none. only.mesh_late ∙ not_late;
  report_in_time = λ not_late none. only.report_late ∙ not_late;
}

module _ (before middle : Moment) (goes : GoesOn before middle) where
  -- a piece was read
  pub goes-read : (now : Moment) → OnlyReads middle now → now.shelf.opens ≡ middle.shelf.opens
      → now.shelf_faults ≡ middle.shelf_faults →
      IsInTime middle.shelf_late middle.shelf_faults now.shelf_late → GoesOn before now
  goes-read now only opens calm in_time =
      let none = none-failed middle.sinks now.sinks only.sinks in
      record {
        files = only.files ∙ goes.files;
        opens = opens ∙ goes.opens;
        shelf_faults = calm ∙ goes.shelf_faults;
        idle = only.under_way ∙ goes.idle;
        faults = record {
          meshes_same = none.meshes_same ∙ goes.faults.meshes_same;
          report_same = none.report_same ∙ goes.faults.report_same;
        };
        shelf_in_time =
            λ not_late no_fault. in_time (goes.shelf_in_time not_late no_fault) (goes.shelf_faults ∙ no_fault);
        meshes_in_time = λ not_late no_fault. only.mesh_late ∙ goes.meshes_in_time not_late no_fault;
        report_in_time = λ not_late no_fault. only.report_late ∙ goes.report_in_time not_late no_fault;
      }

  -- it was taken
  pub goes-taken : (now : Moment) → OnlyTakes middle now taken → GoesOn before now
  goes-taken now takes =
      let none = takes.faults.others (λ e. cc) in
      record {
        files = ap (λ (s : ShelfState). s.files) takes.shelf ∙ goes.files;
        opens = ap (λ (s : ShelfState). s.opens) takes.shelf ∙ goes.opens;
        shelf_faults = takes.shelf_faults ∙ goes.shelf_faults;
        idle = takes.idle (λ e. cc) ∙ goes.idle;
        faults = record {
          meshes_same = none.meshes_same ∙ goes.faults.meshes_same;
          report_same = none.report_same ∙ goes.faults.report_same;
        };
        shelf_in_time = λ not_late no_fault. takes.shelf_late ∙ goes.shelf_in_time not_late no_fault;
        meshes_in_time = λ not_late no_fault.
            takes.meshes_in_time (goes.meshes_in_time not_late no_fault) (goes.faults.meshes_same ∙ no_fault);
        report_in_time = λ not_late no_fault.
            takes.report_in_time (goes.report_in_time not_late no_fault) (goes.faults.report_same ∙ no_fault);
      }

  -- the script ended
  pub goes-ended : (now : Moment) (status : Status) → IsScriptEnd status → OnlyEnds middle now status →
      (status ≡ ends.Done → HasEnded middle.shelf)
      → LeavesByScript before now status
  goes-ended now status is only ended = record {
    files = ap (λ (s : ShelfState). s.files) only.shelf ∙ goes.files;
    opens = ap (λ (s : ShelfState). s.opens) only.shelf ∙ goes.opens;
    read_out = λ done. subst HasEnded (sym only.shelf) (ended done);
    idle = λ not. only.idle not ∙ goes.idle;
    causes = record {
      read = λ e. absurd (not-read status is e);
      not_read = λ not. only.shelf_faults ∙ goes.shelf_faults;
      writes =
          subst (λ (k : ℕ). StatusWritesHaveCause k now.sinks.mesh_faults before.sinks.report_faults
          now.sinks.report_faults status) goes.faults.meshes_same
          (subst (λ (k : ℕ). StatusWritesHaveCause middle.sinks.mesh_faults now.sinks.mesh_faults k
          now.sinks.report_faults status) goes.faults.report_same only.faults);
    };
    shelf_in_time = λ not_late no_fault. only.shelf_late ∙ goes.shelf_in_time not_late no_fault;
    meshes_in_time = λ not_late no_fault.
        only.meshes_in_time (goes.meshes_in_time not_late no_fault) (goes.faults.meshes_same ∙ no_fault);
    report_in_time = λ not_late no_fault.
        only.report_in_time (goes.report_in_time not_late no_fault) (goes.faults.report_same ∙ no_fault);
  }
    where
      not-read : (status : Status) → IsScriptEnd status → status ≡ ends.ReadFault → ⊥
      not-read status (inl a) e = cc
      not-read status (inr (inl a)) e = cc
      not-read status (inr (inr a)) e = cc

-- a call of the shelf failed
leaves-failed : (before now : Moment) → now.shelf.files ≡ before.shelf.files →
    now.shelf.opens ≡ next_count before.shelf.opens
    → now.under_way ≡ before.under_way →
    NoFault before.sinks.mesh_faults now.sinks.mesh_faults before.sinks.report_faults now.sinks.report_faults
    → Rose before.shelf_faults now.shelf_faults → IsInTime before.shelf_late before.shelf_faults now.shelf_late
    → IsInTime before.mesh_late before.sinks.mesh_faults now.mesh_late →
    IsInTime before.report_late before.sinks.report_faults now.report_late
    → LeavesByScript before now ends.ReadFault
leaves-failed before now files opens idle none rose shelf meshes report = record {
  files = files;
  opens = opens;
  read_out = λ e. cc;
  idle = λ not. idle;
  causes = record {
    read = λ e. rose;
    not_read = λ not. absurd (not refl);
    writes = record { write = λ e. cc; not_write = λ not. none };
  };
  shelf_in_time = shelf;
  meshes_in_time = meshes;
  report_in_time = report;
}

-- the script could not be opened
pub leaves-unopened : (before now : Moment) → OnlyReads before now → now.shelf.opens ≡ next_count before.shelf.opens
    → Rose before.shelf_faults now.shelf_faults → IsInTime before.shelf_late before.shelf_faults now.shelf_late
    → LeavesByScript before now ends.ReadFault
leaves-unopened before now only opens rose in_time =
    leaves-failed before now only.files opens only.under_way
    (none-failed before.sinks now.sinks only.sinks) rose in_time
    (λ not_late none. only.mesh_late ∙ not_late) (λ not_late none. only.report_late ∙ not_late)

-- or not be read further
pub leaves-unread : (before middle now : Moment) → GoesOn before middle → OnlyReads middle now →
    now.shelf.opens ≡ middle.shelf.opens
    → Rose middle.shelf_faults now.shelf_faults → IsInTime middle.shelf_late middle.shelf_faults now.shelf_late
    → LeavesByScript before now ends.ReadFault
leaves-unread before middle now goes only opens rose in_time =
    let none = none-failed middle.sinks now.sinks only.sinks in
    leaves-failed before now (only.files ∙ goes.files) (opens ∙ goes.opens) (only.under_way ∙ goes.idle)
    (record {
      meshes_same = none.meshes_same ∙ goes.faults.meshes_same;
      report_same = none.report_same ∙ goes.faults.report_same;
    })
    (subst (λ (k : ℕ). Rose k now.shelf_faults) goes.shelf_faults rose)
    (λ not_late no_fault. in_time (goes.shelf_in_time not_late no_fault) (goes.shelf_faults ∙ no_fault))
    (λ not_late no_fault. only.mesh_late ∙ goes.meshes_in_time not_late no_fault)
    (λ not_late no_fault. only.report_late ∙ goes.report_in_time not_late no_fault)

-- a stop is an end of a script, and not that of a run which is done
pub stop-end : (stop : Stop) → IsScriptEnd (status_for stop)
stop-end Refused = inr (inl refl)
stop-end Failed = inr (inr refl)

pub stop-not-done : (stop : Stop) → status_for stop ≡ ends.Done → ⊥
stop-not-done Refused e = cc
stop-not-done Failed e = cc
