-- What a run promises: how it follows from what its commands promise, and what follows from it.
use Rattle.std.proofs.Math.Nat.{min-eq_left}
use Rattle.std.proofs.Common.{◌≡◌, ◌≢◌, ◌↔◌, ℕ, ◌+◌, ◌-◌, ◌^◌, ◌<◌, ◌≤◌, false, true, IsTrue, List, [], ◌∷◌}
use Rattle.std.proofs.Common.{Option, None, Some, refl, sym, ◌∙◌, ap, subst, inl, inr, arith}
use Rattle.roam_edge.specs.Fault.{Rose, next_count}
use Rattle.roam_edge.specs.Shelf.{NamedFile}
use Rattle.run_laws.specs.declared.status.Status.{Status}
use Rattle.run_laws.specs.declared.status.Status.TheVariants.{Done, NoMemory, Usage, GridRefused, ScriptRefused}
use Rattle.run_laws.specs.declared.status.Status.TheVariants.{ReadFault, WriteFault, Rejected}
use Rattle.run_words.specs.Words.{Command, command_of}
use Rattle.run_laws.specs.Act.{Act, ReportText, IsCutShort}
use Rattle.run_laws.specs.Cause.{StatusHasCause}
use Rattle.run_laws.specs.Outcome.{EngineEnd, Outcome, IsOutcome}
use Rattle.run_laws.specs.Promise.{AreFiles, EndsAs, EndsRight, is_complete, may_end, CommandReadFault, CommandNoMemory}
use Rattle.run_laws.specs.Promise.{LeavesAtReadFault, LeavesAtNoMemory}
use Rattle.run_laws.specs.CutShort.{CutTextsStand, WriteFaultsStand}
use Rattle.run_laws.specs.Laws.{AcceptedIsDone, OutcomesAreUnique, EnginesAreUnique}
use Rattle.run_laws.specs.Leaving.{CommandEnds}
use Rattle.run_laws.specs.Moment.{Moment}
use Rattle.run_laws.specs.Statement.{EndsByStatus, IsCaused}
use Rattle.run_laws.specs.StatementLaws.{OutcomeFollows, EngineFollows, RunFaultFollows, TextFaultFollows}
use Rattle.run_laws.specs.StatementLaws.{CompleteFollows, FaultsFollow}
use Rattle.run_laws.proofs.GridLemmas.{not-complete}

not-true : false ≡ true → ⊥
not-true e = cc

-- From what a command promises.

module _ (before now : Moment) (command : Command) (status : Status) (left : Option EngineEnd) where
  -- how a command ends, from its outcome
  pub ends-by-status : ((files : List NamedFile) → AreFiles before.shelf.files (Some command) files
      → CommandEnds before.sinks now.sinks before.shelf now.shelf command files status left)
      → (status ≡ ReadFault → CommandReadFault before.sinks now.sinks before.shelf now.shelf command)
      → (status ≡ NoMemory → CommandNoMemory before.sinks now.sinks before.shelf now.shelf command)
      → EndsByStatus before now (Some command) status left
  ends-by-status outcome read memory = record {
    complete = λ is files are.
        let e =
        (outcome files are).ends (not-complete status NoMemory refl is) (not-complete status ReadFault refl is) in
        let all = e.2.complete is in
        record {
          end = e.0;
          is_outcome = e.1;
          ends_so = all.1;
          stands = all.0;
          opened = e.2.opened;
          engine = e.3 is;
        };
    write_fault = λ is files are.
        let not_memory = other-status status NoMemory is (λ e. cc) in
        let e = (outcome files are).ends not_memory (other-status status ReadFault is (λ e. cc)) in
        record { end = e.0; is_outcome = e.1; cut_short = e.2.cut_short is; opened = e.2.opened };
    read_fault = λ is. (command, refl, read is);
    no_memory = λ is. (command, refl, memory is);
  }
    where
      other-status : (status other : Status) → status ≡ WriteFault → other ≢ WriteFault → status ≢ other
      other-status status other failed not same = not (sym same ∙ failed)

-- the status is Usage exactly where the words are no command
usage-none : (command : Option Command) (status : Status) → IsTrue (may_end command status) →
    (status ≡ Usage) ↔ (command ≡ None)
usage-none None Done allows = absurd (not-true allows)
usage-none None NoMemory allows = absurd (not-true allows)
usage-none None Usage allows = ((λ e. refl), (λ e. refl))
usage-none None GridRefused allows = absurd (not-true allows)
usage-none None ScriptRefused allows = absurd (not-true allows)
usage-none None ReadFault allows = absurd (not-true allows)
usage-none None WriteFault allows = absurd (not-true allows)
usage-none None Rejected allows = absurd (not-true allows)
usage-none (Some command) Done allows = ((λ e. cc), (λ e. cc))
usage-none (Some command) NoMemory allows = ((λ e. cc), (λ e. cc))
usage-none (Some command) Usage allows = absurd (not-true allows)
usage-none (Some command) GridRefused allows = ((λ e. cc), (λ e. cc))
usage-none (Some command) ScriptRefused allows = ((λ e. cc), (λ e. cc))
usage-none (Some command) ReadFault allows = ((λ e. cc), (λ e. cc))
usage-none (Some command) WriteFault allows = ((λ e. cc), (λ e. cc))
usage-none (Some command) Rejected allows = ((λ e. cc), (λ e. cc))

-- a status is a failed read or none
by-read : (A : Type 0) (status : Status) → (status ≡ ReadFault → A) → (status ≢ ReadFault → A) → A
by-read A Done is not = not (λ e. cc)
by-read A NoMemory is not = not (λ e. cc)
by-read A Usage is not = not (λ e. cc)
by-read A GridRefused is not = not (λ e. cc)
by-read A ScriptRefused is not = not (λ e. cc)
by-read A ReadFault is not = is refl
by-read A WriteFault is not = not (λ e. cc)
by-read A Rejected is not = not (λ e. cc)

-- a status is a failed write or none
by-write : (A : Type 0) (status : Status) → (status ≡ WriteFault → A) → (status ≢ WriteFault → A) → A
by-write A Done is not = not (λ e. cc)
by-write A NoMemory is not = not (λ e. cc)
by-write A Usage is not = not (λ e. cc)
by-write A GridRefused is not = not (λ e. cc)
by-write A ScriptRefused is not = not (λ e. cc)
by-write A ReadFault is not = not (λ e. cc)
by-write A WriteFault is not = is refl
by-write A Rejected is not = not (λ e. cc)

least-same : (a b : ℕ) → b ≡ a → a ≤ b
least-same a b same = omega (arith, same)

not-less : (a b : ℕ) → b ≡ a → a < b → ⊥
not-less a b same less = omega (arith, same, less)

-- a count that rose and did not stand at its greatest value is greater
rose-less : (before now : ℕ) → before < 2 ^ 64 - 1 → Rose before now → before < now
rose-less before now low rose =
    let next : next_count before ≡ before + 1 = min-eq_left (omega (arith, low)) in
    omega (arith, next, rose)

-- the causes, in words that show where no count stands at its greatest value
pub is-caused : (before now : Moment) (command : Option Command) (status : Status)
    → IsTrue (may_end command status)
    → StatusHasCause before.shelf_faults now.shelf_faults before.sinks.mesh_faults now.sinks.mesh_faults
    before.sinks.report_faults now.sinks.report_faults status
    → before.shelf_faults < 2 ^ 64 - 1 → before.sinks.mesh_faults < 2 ^ 64 - 1 → before.sinks.report_faults < 2 ^ 64 - 1
    → IsCaused before now command status
is-caused before now command status allows cause shelf meshes report = record {
  allowed = allows;
  usage = usage-none command status allows;
  read = (
    (λ is. rose-less _ _ shelf (cause.read is)),
    λ less. by-read (status ≡ ReadFault) status (λ is. is) (λ not. absurd (not-less _ _ (cause.not_read not) less)),
  );
  write = (
    (λ is. elim (cause.writes.write is).cause [
      | inl rose ↦ inl (rose-less _ _ meshes rose)
      | inr rose ↦ inr (rose-less _ _ report rose)
    ]),
    λ either. by-write (status ≡ WriteFault) status (λ is. is) (λ not. absurd (elim either [
      | inl less ↦ not-less _ _ (cause.writes.not_write not).meshes_same less
      | inr less ↦ not-less _ _ (cause.writes.not_write not).report_same less
    ])),
  );
  shelf_no_less = by-read (before.shelf_faults ≤ now.shelf_faults) status
      (λ is. (let less = rose-less _ _ shelf (cause.read is) in omega (arith, less)))
      (λ not. least-same _ _ (cause.not_read not));
  mesh_no_less = by-write (before.sinks.mesh_faults ≤ now.sinks.mesh_faults) status
      (λ is. (cause.writes.write is).meshes_later)
      (λ not. least-same _ _ (cause.writes.not_write not).meshes_same);
  report_no_less = by-write (before.sinks.report_faults ≤ now.sinks.report_faults) status
      (λ is. (cause.writes.write is).report_later)
      (λ not. least-same _ _ (cause.writes.not_write not).report_same);
}

-- What follows.

module _ (before now : Moment) (words : List (List ℕ)) (left : Option EngineEnd) (files : List NamedFile)
    (are : AreFiles before.shelf.files (command_of words) files) where
  abbrev Right : Status → Type 0
  Right status = EndsRight before.sinks now.sinks before.shelf now.shelf words files status

  ended : (status : Status) (end : Outcome) → IsOutcome (command_of words) files end
      → EndsAs before.sinks now.sinks before.shelf now.shelf end status → Right status
  ended status end is ends = record { ends = λ m r. (end, is, ends) }

  all-right : (status : Status) → IsTrue (is_complete status) → status ≢ WriteFault
      → EndsByStatus before now (command_of words) status left → Right status
  all-right status is not ends =
      let d = ends.complete is files are in
      ended status d.end d.is_outcome (record {
        opened = d.opened;
        complete = λ whole. (d.stands, d.ends_so);
        cut_short = λ failed. absurd (not failed);
      })

  cut-right : EndsByStatus before now (command_of words) WriteFault left → Right WriteFault
  cut-right ends =
      let d = ends.write_fault refl files are in
      ended WriteFault d.end d.is_outcome (record {
        opened = d.opened;
        complete = λ whole. absurd (not-true whole);
        cut_short = λ failed. d.cut_short;
      })

  right : (status : Status) → EndsByStatus before now (command_of words) status left → Right status
  right Done ends = all-right Done refl (λ e. cc) ends
  right NoMemory ends = record { ends = λ m r. absurd (m refl) }
  right Usage ends = all-right Usage refl (λ e. cc) ends
  right GridRefused ends = all-right GridRefused refl (λ e. cc) ends
  right ScriptRefused ends = all-right ScriptRefused refl (λ e. cc) ends
  right ReadFault ends = record { ends = λ m r. absurd (r refl) }
  right WriteFault ends = cut-right ends
  right Rejected ends = all-right Rejected refl (λ e. cc) ends

-- unless memory ran out or a read failed, the run ends as an outcome of its words and files
pub outcome-follows : OutcomeFollows
outcome-follows before now words status left files ends are = right before now words left files are status ends

-- each outcome of the words and files tells what engine a complete run leaves
pub engine-follows : EnginesAreUnique → EngineFollows
engine-follows unique before now words status left files ends are end is complete =
    let d = ends.complete complete files are in
    d.engine ∙ unique words files d.end end d.is_outcome is

-- where a write failed in a run that shows its frames one by one, one of the four cases stands
pub run-fault-follows : WriteFaultsStand → RunFaultFollows
run-fault-follows stand before now words status left files s grid ends told failed run by_frame =
    stand before.sinks now.sinks before.shelf now.shelf words files s grid status
    (outcome-follows before now words status left files ends (λ some. told)) failed run by_frame

-- where a write failed and all that was owed is one text, a prefix of it stands
pub text-fault-follows : CutTextsStand → OutcomesAreUnique → TextFaultFollows
text-fault-follows stand unique before now words status left files ends are failed one end text is acts =
    let d = ends.write_fault failed files are in
    let same : d.end.acts ≡ ReportText text ∷ [] =
    ap (λ (o : Outcome). o.acts) (unique words files d.end end one d.is_outcome is)
    ∙ acts in
    stand before.sinks now.sinks text
    (subst (λ (a : List Act). IsCutShort before.sinks now.sinks a) same d.cut_short)

module _ (done : AcceptedIsDone) where
  -- where words and files are accepted and no count rose, the run is done or memory ran out
  pub complete-follows : CompleteFollows
  complete-follows before now words Done left files ends cause are accepted shelf meshes report = inl refl
  complete-follows before now words NoMemory left files ends cause are accepted shelf meshes report = inr refl
  complete-follows before now words ReadFault left files ends cause are accepted shelf meshes report =
      absurd (not-less _ _ shelf (cause.read.0 refl))
  complete-follows before now words WriteFault left files ends cause are accepted shelf meshes report =
      elim (cause.write.0 refl) [
        | inl less ↦ absurd (not-less _ _ meshes less)
        | inr less ↦ absurd (not-less _ _ report less)
      ]
  complete-follows before now words Usage left files ends cause are accepted shelf meshes report =
      let d = ends.complete refl files are in
      inl (d.ends_so ∙ done words files d.end accepted d.is_outcome)
  complete-follows before now words GridRefused left files ends cause are accepted shelf meshes report =
      let d = ends.complete refl files are in
      inl (d.ends_so ∙ done words files d.end accepted d.is_outcome)
  complete-follows before now words ScriptRefused left files ends cause are accepted shelf meshes report =
      let d = ends.complete refl files are in
      inl (d.ends_so ∙ done words files d.end accepted d.is_outcome)
  complete-follows before now words Rejected left files ends cause are accepted shelf meshes report =
      let d = ends.complete refl files are in
      inl (d.ends_so ∙ done words files d.end accepted d.is_outcome)

unmoved : (a b : ℕ) → a ≤ b → ((a < b) → ⊥) → b ≡ a
unmoved a b later not = omega (arith, later, not)

-- a count of faults rose exactly where the status tells of that failure, and the others are as before
pub faults-follow : FaultsFollow
faults-follow before now command status cause = record {
  read = λ is. (let less = cause.read.0 is in omega (arith, less));
  not_read = λ not. unmoved _ _ cause.shelf_no_less (λ less. not (cause.read.1 less));
  writes = record {
    write = λ is. record {
      meshes_later = cause.mesh_no_less;
      report_later = cause.report_no_less;
      cause = elim (cause.write.0 is) [ inl less ↦ inl (omega (arith, less)) | inr less ↦ inr (omega (arith, less)) ];
    };
    not_write = λ not. record {
      meshes_same = unmoved _ _ cause.mesh_no_less (λ less. not (cause.write.1 (inl less)));
      report_same = unmoved _ _ cause.report_no_less (λ less. not (cause.write.1 (inr less)));
    };
  };
}

-- where a read failed, or memory ran out, what stands does so of the command that the words are
pub read-leaves : (before now : Moment) (words : List (List ℕ)) (status : Status) (left : Option EngineEnd)
    → EndsByStatus before now (command_of words) status left
    → status ≡ ReadFault → LeavesAtReadFault before.sinks now.sinks before.shelf now.shelf words
read-leaves before now words status left ends is =
    let at = ends.read_fault is in
    record { command = at.0; is_command = at.1; leaves = at.2 }

-- the same where memory ran out
pub memory-leaves : (before now : Moment) (words : List (List ℕ)) (status : Status) (left : Option EngineEnd)
    → EndsByStatus before now (command_of words) status left
    → status ≡ NoMemory → LeavesAtNoMemory before.sinks now.sinks before.shelf now.shelf words
memory-leaves before now words status left ends is =
    let at = ends.no_memory is in
    record { command = at.0; is_command = at.1; leaves = at.2 }
