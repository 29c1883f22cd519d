-- Each clause is a lemma.
use Rattle.mesh_laws.proofs.FrameRunLemmas.{frame_run_of, frame_run_unique, frame_set, frame_size, frame_closure}
use Rattle.mesh_laws.proofs.FrameRunLemmas.{frame_no_merge, frame_no_split, frame_bound, frame_still, finished_frame}
use Rattle.mesh_laws.proofs.ChosenLemmas.{loose_of}
use Rattle.mesh_laws.proofs.steps.frame_run_laws.Goals as goal

pub returns-clause-ends : goal.returns-clause-ends
returns-clause-ends c = frame_run_of

pub returns-clause-unique : goal.returns-clause-unique
returns-clause-unique c = frame_run_unique

pub returns-clause-set : goal.returns-clause-set
returns-clause-set c = frame_set

pub returns-clause-size : goal.returns-clause-size
returns-clause-size c = frame_size

pub returns-clause-closure : goal.returns-clause-closure
returns-clause-closure c = frame_closure

pub returns-clause-no_merge : goal.returns-clause-no_merge
returns-clause-no_merge c = frame_no_merge

pub returns-clause-no_split : goal.returns-clause-no_split
returns-clause-no_split c = frame_no_split

pub returns-clause-bound : goal.returns-clause-bound
returns-clause-bound c = frame_bound

pub returns-clause-still : goal.returns-clause-still
returns-clause-still c = frame_still

pub returns-clause-loose : goal.returns-clause-loose
returns-clause-loose c = loose_of

pub returns-clause-frame : goal.returns-clause-frame
returns-clause-frame c n budget priority start last added removed set frame falling low =
    finished_frame n budget priority last
    (frame_set n budget priority start last added removed set frame) falling low frame.finished
