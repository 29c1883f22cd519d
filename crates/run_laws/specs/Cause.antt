-- That a failure has its cause outside, in the counts of faults. This project's own words.
use Rattle.std.specs.Prelude.{◌≡◌, ◌≢◌, ℕ, ◌≤◌, ◌⊎◌, Result, OnOk, OnErr}
use Rattle.roam_edge.specs.Fault.{Rose}
use Rattle.run_laws.specs.declared.status.Status.{Status}
use Rattle.run_laws.specs.declared.status.Status.TheVariants.{ReadFault, WriteFault}

-- no count changed
pub record NoFault (meshes meshes' report report' : ℕ) : Type 0 where
  pub meshes_same : meshes' ≡ meshes
  pub report_same : report' ≡ report

-- a count rose, and none fell
pub record WriteFaults (meshes meshes' report report' : ℕ) : Type 0 where
  pub meshes_later : meshes ≤ meshes'
  pub report_later : report ≤ report'
  pub cause : Rose meshes meshes' ⊎ Rose report report'

-- a call that only writes fails exactly where a count rose
pub record WritesHaveCause {T E : Type 0} (meshes meshes' report report' : ℕ) (answer : Result T E) : Type 0 where
  pub ok : OnOk answer (NoFault meshes meshes' report report')
  pub err : OnErr answer (WriteFaults meshes meshes' report report')

-- a status tells of a failed write exactly where a count of the sinks rose, and else both are as before
pub record StatusWritesHaveCause (meshes meshes' report report' : ℕ) (status : Status) : Type 0 where
  pub write : status ≡ WriteFault → WriteFaults meshes meshes' report report'
  pub not_write : status ≢ WriteFault → NoFault meshes meshes' report report'

-- A status tells of a failed read exactly where the shelf's count rose, and of a failed write exactly
-- where a count of the sinks rose; every other count is as before.
pub record StatusHasCause (shelf shelf' meshes meshes' report report' : ℕ) (status : Status) : Type 0 where
  pub read : status ≡ ReadFault → Rose shelf shelf'
  pub not_read : status ≢ ReadFault → shelf' ≡ shelf
  pub writes : StatusWritesHaveCause meshes meshes' report report' status
