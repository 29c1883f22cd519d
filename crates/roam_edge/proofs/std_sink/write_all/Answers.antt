use Rattle.std.proofs.Common.{rules, arith, ◌-◌, ◌++◌, length, take, drop, sym, length-take, length-drop}
use Rattle.std.proofs.Common.{take-append-drop}
use Rattle.roam_edge.proofs.SinkLemmas.{told_more}
use Rattle.roam_edge.proofs.std_sink.write_all.Goals as goal

pub loop-done-preserved : goal.loop-done-preserved
loop-done-preserved g c = record {
  within =
      let short = c.in-Ok.ensures.size.1 in
      omega (
        arith,
        short,
        length-take (length c.args.piece.now - c.loop-done.done) (drop c.loop-done.done c.args.piece.now),
        length-drop c.loop-done.done c.args.piece.now,
      );
  unchanged = search rules;
  handed = λ all told.
      told_more _ all c.args.piece.now c.loop-done.done c.in-Ok.count
      (c.in-Ok.ensures.bytes.ok (all ++ take c.loop-done.done c.args.piece.now)
      (c.loop-done.invariant.handed all told));
}

pub returns-in-Err-clause-bytes : goal.returns-in-Err-clause-bytes
returns-in-Err-clause-bytes g c = record {
  ok = search rules;
  failed = λ all told. (
    take c.loop-done.done c.args.piece.now,
    record {
      back = drop c.loop-done.done c.args.piece.now;
      joined = sym (take-append-drop c.loop-done.done c.args.piece.now);
    },
    c.in-Err.ensures.bytes.failed (all ++ take c.loop-done.done c.args.piece.now)
        (c.loop-done.invariant.handed all told),
  );
}
