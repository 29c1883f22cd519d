use Rattle.std.proofs.Common.{ℕ, List, Option, map, string_bytes, option_map, rules}
use Rattle.run_words.specs.Words.{Command, command_of}
use Rattle.run_laws.specs.Outcome.{EngineEnd}
use Rattle.run_laws.specs.Moment.{Moment, moment}
use Rattle.run_laws.specs.Statement.{KeepsBestMeshes, CertifiesMesh, EndsByStatus, LeavesOutside, IsCaused}
use Rattle.run_laws.proofs.StatementLemmas.{outcome-follows, read-leaves, memory-leaves, is-caused}
use Rattle.run_engine.specs.EngineSeen.{engine_seen}
use Rattle.roam_run.proofs.LeftLemmas.{loan-ended}
use Rattle.roam_run.proofs.run.roam.Goals as goal

pub returns-clause-best : goal.returns-clause-best
returns-clause-best g c =
    let run = c.run_of_words in
    let line : List (List ℕ) = map string_bytes c.args.words.now in
    let left : Option EngineEnd = option_map engine_seen run.result.engine in
    let before : Moment = moment g.F.Shelf g.M.MeshSink g.R.Sink c.args.shelf.now c.args.meshes.now c.args.report.now in
    let ends = run.ensures.runs.ends in
    loan-ended g.F.Shelf g.M.MeshSink g.R.Sink (λ now. KeepsBestMeshes before now line run.result.status)
    run.new.outside.shelf.now _ run.new.outside.meshes.now _ run.new.outside.report.now _ (search rules) (search rules)
    (search rules) (record {
      of_script = λ files all s grid told_files told_meshes is_run shown.
          c.run_laws.ensures.headline line files s grid _ _ _ _ all run.result.status is_run
          shown told_files told_meshes
          (outcome-follows _ _ line run.result.status left files ends (λ some. told_files))
          (read-leaves _ _ line run.result.status left ends) (memory-leaves _ _ line run.result.status left ends);
      of_fit = λ files all f grid told_files told_meshes is_run.
          c.fitting_laws.ensures.fitted line files f grid _ _ _ _ all run.result.status is_run told_meshes
          (outcome-follows _ _ line run.result.status left files ends (λ some. told_files))
          (read-leaves _ _ line run.result.status left ends) (memory-leaves _ _ line run.result.status left ends);
      of_keep = λ files all k grid points told_files told_meshes is_run found.
          c.fitting_laws.ensures.kept line files k grid points _ _ _ _ all run.result.status is_run found told_meshes
          (outcome-follows _ _ line run.result.status left files ends (λ some. told_files))
          (read-leaves _ _ line run.result.status left ends) (memory-leaves _ _ line run.result.status left ends);
    })

pub returns-clause-certified : goal.returns-clause-certified
returns-clause-certified g c =
    let run = c.run_of_words in
    let line : List (List ℕ) = map string_bytes c.args.words.now in
    let left : Option EngineEnd = option_map engine_seen run.result.engine in
    let before : Moment = moment g.F.Shelf g.M.MeshSink g.R.Sink c.args.shelf.now c.args.meshes.now c.args.report.now in
    let ends = run.ensures.runs.ends in
    loan-ended g.F.Shelf g.M.MeshSink g.R.Sink (λ now. CertifiesMesh before now line run.result.status)
    run.new.outside.shelf.now _ run.new.outside.meshes.now _ run.new.outside.report.now _ (search rules) (search rules)
    (search rules) (record {
      of_check = λ files check grid told_files is_check done.
          c.run_laws.ensures.certified line files check grid _ _ _ _ run.result.status is_check
          (outcome-follows _ _ line run.result.status left files ends (λ some. told_files)) done;
      of_check_fit = λ files check grid told_files is_check done.
          c.fitting_laws.ensures.certified line files check grid _ _ _ _ run.result.status is_check
          (outcome-follows _ _ line run.result.status left files ends (λ some. told_files)) done;
      of_check_kept = λ files check grid told_files is_check done.
          c.fitting_laws.ensures.certified_kept line files check grid _ _ _ _ run.result.status is_check
          (outcome-follows _ _ line run.result.status left files ends (λ some. told_files)) done;
    })

pub returns-clause-certificate : goal.returns-clause-certificate
returns-clause-certificate g c = c.run_laws.ensures.certificate (map string_bytes c.args.words.now)

pub returns-clause-ends : goal.returns-clause-ends
returns-clause-ends g c =
    let run = c.run_of_words in
    let said : Option Command = command_of (map string_bytes c.args.words.now) in
    let left : Option EngineEnd = option_map engine_seen run.result.engine in
    let before : Moment = moment g.F.Shelf g.M.MeshSink g.R.Sink c.args.shelf.now c.args.meshes.now c.args.report.now in
    loan-ended g.F.Shelf g.M.MeshSink g.R.Sink (λ now. EndsByStatus before now said run.result.status left)
    run.new.outside.shelf.now _ run.new.outside.meshes.now _ run.new.outside.report.now _ (search rules)
    (search rules) (search rules)
    run.ensures.runs.ends

pub returns-clause-leaves : goal.returns-clause-leaves
returns-clause-leaves g c =
    let run = c.run_of_words in
    let said : Option Command = command_of (map string_bytes c.args.words.now) in
    let left : Option EngineEnd = option_map engine_seen run.result.engine in
    let before : Moment = moment g.F.Shelf g.M.MeshSink g.R.Sink c.args.shelf.now c.args.meshes.now c.args.report.now in
    loan-ended g.F.Shelf g.M.MeshSink g.R.Sink (λ now. LeavesOutside before now said run.result.status left)
    run.new.outside.shelf.now _ run.new.outside.meshes.now _ run.new.outside.report.now _ (search rules)
    (search rules) (search rules)
    run.ensures.runs.leaves

pub returns-clause-accepted : goal.returns-clause-accepted
returns-clause-accepted g c files end = c.run_laws.ensures.done (map string_bytes c.args.words.now) files end

pub returns-clause-causes : goal.returns-clause-causes
returns-clause-causes g c =
    let run = c.run_of_words in
    let said : Option Command = command_of (map string_bytes c.args.words.now) in
    let before : Moment = moment g.F.Shelf g.M.MeshSink g.R.Sink c.args.shelf.now c.args.meshes.now c.args.report.now in
    loan-ended g.F.Shelf g.M.MeshSink g.R.Sink (λ now. IsCaused before now said run.result.status)
    run.new.outside.shelf.now _ run.new.outside.meshes.now _ run.new.outside.report.now _ (search rules)
    (search rules) (search rules)
    (is-caused _ _ said run.result.status run.ensures.runs.allowed run.ensures.runs.causes
    c.requires.shelf_faults c.requires.mesh_faults c.requires.report_faults)
