use Rattle.std.proofs.Common.{◌≡◌, ◌++◌, ℕ, List, [], length, take, drop, refl, rules, arith, sym, ap, subst, ◌∙◌}
use Rattle.std.proofs.lemmas.Grind.{common_steps}
use Rattle.roam_edge.specs.Shelf.{bytes_of}
use Rattle.run_laws.specs.declared.status.Status.{Status}
use Rattle.run_laws.specs.Act.{Sinks}
use Rattle.run_laws.specs.Promise.{ShelfState}
use Rattle.run_laws.specs.Maker.{EndsScript, ScriptHasCome}
use Rattle.run_meshes.specs.StageView.{IsScriptAt}
use Rattle.run_laws.proofs.StepLemmas.{place, come-begin}
use Rattle.run_laws.proofs.FileLemmas.{file-cut, piece-read, read-end, has-ended, stops-unopened, stops-behind}
use Rattle.run_meshes.proofs.EndLemmas.{begins-at, ended-file, piece-file, ends-stop}
use Rattle.run_laws.proofs.DoesLemmas.{late-in-time}
use Rattle.run_meshes.proofs.OnlyLemmas.{goes-opened, goes-read, goes-taken, goes-ended, leaves-unopened, leaves-unread}
use Rattle.run_meshes.proofs.OnlyLemmas.{ends-stopped, stop-end, stop-not-done}
use Rattle.run_meshes.proofs.script.run_script.Goals as goal

pub returns-in_default-clause-read_fault : goal.returns-in_default-clause-read_fault
returns-in_default-clause-read_fault g c is show start begins all told_files =
    stops-unopened _ (bytes_of all c.args.name.now) _ _ (grind (arith, common_steps))
    (subst (λ (t : Sinks). ScriptHasCome (g.O.Outside.moment c.args.outside.now).sinks t show start [])
    (sym c.in_default.ensures.only.sinks)
    (place start [] [], come-begin _ show start begins.goes begins.none))

pub pieces-init : goal.pieces-init
pieces-init g c = record {
  carried = λ show start begins. (
    [],
    record {
      place = subst (λ (t : Sinks). IsScriptAt (g.O.Outside.moment c.args.outside.now).sinks t show
          (g.K.FrameMaker.follows c.args.frames.now) start [] c.new-stage.result)
          (sym c.in-Ok.ensures.only.sinks)
          (begins-at _ show _ start c.new-stage.result begins c.new-stage.ensures.lines c.new-stage.ensures.part);
      in_file = λ all is. (bytes_of all c.args.name.now, c.in-Ok.ensures.opened.chosen all is, refl);
    },
  );
  told_rest = λ all is. (bytes_of all c.args.name.now, c.in-Ok.ensures.opened.chosen all is);
  ready = rw c.new-stage.ensures.lines c.requires.ready;
  stage = (let n = c.new-stage.ensures.lines in let e = ap (λ (l : List ℕ). length l) c.new-stage.ensures.part in
      record { few_lines = omega (arith, n); short = omega (arith, e) });
  open_file = search rules;
  same = search rules;
  goes_on = goes-opened _ _ c.in-Ok.ensures.only c.in-Ok.ensures.count c.in-Ok.ensures.faults.ok
      (late-in-time _ _ _ c.in-Ok.ensures.late);
}

pub returns-in_default-read-clause-read_fault : goal.returns-in_default-read-clause-read_fault
returns-in_default-read-clause-read_fault g c is show start begins all told_files =
    let old = c.pieces.invariant.carried show start begins in
    stops-behind _ _ _ _ _ c.args.name.now old.0 old.1.in_file c.in_default-read.ensures.bytes.kept
    (c.in_default-read.ensures.ends.failed ∙ c.pieces.invariant.open_file)
    (subst (λ (t : Sinks). ScriptHasCome (g.O.Outside.moment c.args.outside.now).sinks t show start old.0)
    (sym c.in_default-read.ensures.only.sinks)
    (old.1.place.here, old.1.place.come)) all told_files

pub returns-then-count-eq0-clause-ends : goal.returns-then-count-eq0-clause-ends
returns-then-count-eq0-clause-ends g c show start begins all told_files read =
    let old = c.pieces.invariant.carried show start begins in
    let same : bytes_of all c.args.name.now ≡ old.0 = ended-file _ _ show _ start c.pieces.stage _ _ _ old.0 old.1
    (λ unread is. (c.in-Ok-read.ensures.bytes.empty unread is).0 c.if-count-eq0.true) all told_files in
    let P = λ (l : List ℕ). EndsScript (g.O.Outside.moment c.args.outside.now).sinks
    (g.O.Outside.moment c.end_script.new.outside).sinks show (g.K.FrameMaker.follows
    c.end_script.new.frames) start l c.end_script.result in
    subst P (sym same) (c.end_script.ensures.ends _ show start old.0 begins.starts
    (subst (λ (t : Sinks). IsScriptAt (g.O.Outside.moment c.args.outside.now).sinks t show
    (g.K.FrameMaker.follows c.pieces.frames) start old.0 c.pieces.stage)
    (sym c.in-Ok-read.ensures.only.sinks) old.1.place))

pub returns-then-count-eq0-clause-leaves : goal.returns-then-count-eq0-clause-leaves
returns-then-count-eq0-clause-leaves g c =
    let read = c.in-Ok-read.ensures in
    let ended = has-ended _ _ _ _ _ (read.ends.at_end c.if-count-eq0.true) read.bytes.told
    (λ all is_told. c.pieces.invariant.told_rest all
    (sym (read.only.files ∙ c.pieces.invariant.goes_on.files) ∙ is_told))
    (read-end _ _ c.in-Ok-read.count c.if-count-eq0.true read.bytes.takes
    (λ unread told. (read.bytes.empty unread told).0 c.if-count-eq0.true)) in
    goes-ended _ _ (goes-read _ _ c.pieces.invariant.goes_on _ read.only read.count read.faults.ok
    (late-in-time _ _ _ read.late)) _ _
    c.end_script.ensures.status c.end_script.ensures.only (λ done. ended)

pub returns-in-Err-clause-leaves : goal.returns-in-Err-clause-leaves
returns-in-Err-clause-leaves g c =
    let read = c.in-Ok-read.ensures in
    rw c.status_of.ensures (goes-ended _ _ (goes-read _ _ c.pieces.invariant.goes_on _ read.only read.count
    read.faults.ok (late-in-time _ _ _ read.late)) _ _
    (stop-end c.in-Err.stop) (ends-stopped _ _ c.in-Err.stop c.in-Err.ensures.only)
    (λ done. absurd (stop-not-done c.in-Err.stop done)))

pub returns-in_default-clause-leaves : goal.returns-in_default-clause-leaves
returns-in_default-clause-leaves g c =
    let tried = c.in_default.ensures in
    leaves-unopened _ _ tried.only tried.count tried.faults.failed (late-in-time _ _ _ tried.late)

pub returns-in_default-read-clause-leaves : goal.returns-in_default-read-clause-leaves
returns-in_default-read-clause-leaves g c =
    let read = c.in_default-read.ensures in
    leaves-unread _ _ _ c.pieces.invariant.goes_on read.only read.count read.faults.failed
    (late-in-time _ _ _ read.late)

pub returns-in-Err-clause-ends : goal.returns-in-Err-clause-ends
returns-in-Err-clause-ends g c show start begins all told_files read =
    let old = c.pieces.invariant.carried show start begins in
    let file = piece-file _ _ show _ start c.pieces.stage _ _ _ old.0
    (take c.in-Ok-read.count c.read.new.buf) c.in-Ok-read.count old.1
    (piece-read _ c.in-Ok-read.count _ _ c.in-Ok-read.ensures.bytes.within c.in-Ok-read.ensures.bytes.gives)
    all told_files in
    let P = λ (l : List ℕ). EndsScript (g.O.Outside.moment c.args.outside.now).sinks
    (g.O.Outside.moment c.take_piece.new.outside).sinks show (g.K.FrameMaker.follows
    c.take_piece.new.frames) start l c.status_of.result in
    let stop = ends-stop _ _ show (g.K.FrameMaker.follows c.take_piece.new.frames) start begins.alone
    (old.0 ++ take c.in-Ok-read.count c.read.new.buf) file.0 c.take_piece.new.stage c.in-Err.stop
    (c.in-Err.ensures.outcome _ show start old.0 begins.starts
    (subst (λ (t : Sinks). IsScriptAt (g.O.Outside.moment c.args.outside.now).sinks t show
    (g.K.FrameMaker.follows c.pieces.frames) start old.0 c.pieces.stage)
    (sym c.in-Ok-read.ensures.only.sinks) old.1.place)) in
    let Q = λ (status : Status). EndsScript (g.O.Outside.moment c.args.outside.now).sinks
    (g.O.Outside.moment c.take_piece.new.outside).sinks show (g.K.FrameMaker.follows
    c.take_piece.new.frames) start
    ((old.0 ++ take c.in-Ok-read.count c.read.new.buf) ++ file.0) status in
    subst P (sym file.1) (subst Q (sym c.status_of.ensures) stop)

pub pieces-preserved : goal.pieces-preserved
pieces-preserved g c = record {
  carried = λ show start begins.
      let old = c.pieces.invariant.carried show start begins in (
        old.0 ++ take c.in-Ok-read.count c.read.new.buf,
        record {
          place = (c.in_default-take_piece.ensures.outcome _ show start old.0 begins.starts
              (subst (λ (t : Sinks). IsScriptAt (g.O.Outside.moment c.args.outside.now).sinks t show
              (g.K.FrameMaker.follows c.pieces.frames) start old.0 c.pieces.stage)
              (sym c.in-Ok-read.ensures.only.sinks) old.1.place)).ok;
          in_file = λ all is.
              let there = old.1.in_file all is in (
                drop c.in-Ok-read.count there.0,
                ap (λ (e : ShelfState). e.rest) c.in_default-take_piece.ensures.only.shelf
                    ∙ c.in-Ok-read.ensures.bytes.takes there.0 there.1,
                file-cut (bytes_of all c.args.name.now) old.0
                    (take c.in-Ok-read.count c.read.new.buf) there.0 c.in-Ok-read.count there.2
                    (piece-read _ c.in-Ok-read.count _ _ c.in-Ok-read.ensures.bytes.within
                    c.in-Ok-read.ensures.bytes.gives there.0 there.1),
              );
        },
      );
  told_rest = λ all is. (let there = c.pieces.invariant.told_rest all is in (
    drop c.in-Ok-read.count there.0,
    ap (λ (e : ShelfState). e.rest) c.in_default-take_piece.ensures.only.shelf
        ∙ c.in-Ok-read.ensures.bytes.takes there.0 there.1,
  ));
  ready = c.in_default-take_piece.ensures.ready;
  stage = c.in_default-take_piece.ensures.stage;
  open_file = search rules;
  same = g.met.O.Outside.is_same_then _ _ _ c.pieces.invariant.same
      (g.met.O.Outside.is_same_then _ _ _ c.in-Ok-read.ensures.same c.in_default-take_piece.ensures.same);
  goes_on =
      goes-taken _ _ (goes-read _ _ c.pieces.invariant.goes_on _ c.in-Ok-read.ensures.only c.in-Ok-read.ensures.count
      c.in-Ok-read.ensures.faults.ok (late-in-time _ _ _ c.in-Ok-read.ensures.late)) _
      c.in_default-take_piece.ensures.only;
}
