use Rattle.std.proofs.Common.{◌≡◌, ℕ, ◌+◌, ◌-◌, take, drop, suc, sym, ◌∙◌, subst, arith, ap, length}
use Rattle.std.specs.List.{flat_map}
use Rattle.std.proofs.lemmas.List.{take_all}
use Rattle.std.proofs.lemmas.Bool.{le-ltb}
use Rattle.std.proofs.lemmas.Result.{err_from_is_err_and}
use Rattle.roam_gen.specs.Generated.{made_lines}
use Rattle.roam_gen.specs.Written.{line_text, script_text}
use Rattle.roam_gen.specs.Rows.{Wrote}
use Rattle.roam_gen.proofs.ScriptLemmas.{lines-at, texts-more, texts-split}
use Rattle.roam_gen.proofs.SinkLemmas.{wrote-more, wrote-all, wrote-part}
use Rattle.std.proofs.lemmas.List.FromFn.{length-map-range_with_len}
use Rattle.roam_gen.specs.LineAt.{line_at}
use Rattle.roam_gen.proofs.writing.write_script.Goals as goal

pub returns-in_err-write-clause-bytes : goal.returns-in_err-write-clause-bytes
returns-in_err-write-clause-bytes g c =
    let p = err_from_is_err_and c.from_residual.result c.from_residual.ensures.1 in
    let lines = made_lines c.args.n c.args.seed in
    let k = c.loop-i.i - 1 in
    rw p.1
    (wrote-part _ (g.S.Sink.contents c.loop-i.out) _ (flat_map line_text (take k lines)) c.as_slice.result.now
    (flat_map line_text (drop (suc k) lines))
    (script_text c.args.n c.args.seed) _ _ c.loop-i.invariant.written c.in_err-write.ensures.bytes
    (texts-split lines k c.gen_line.result c.as_slice.result.now c.gen_line.ensures.value
    (c.as_slice.ensures.value ∙ c.bytes_of.ensures)))

pub loop-i-preserved : goal.loop-i-preserved
loop-i-preserved g c =
    let lines = made_lines c.args.n c.args.seed in
    let k = c.loop-i.i - 1 in
    let e : k + 1 ≡ c.loop-i.i + 1 - 1 = omega arith in
    let before = g.S.Sink.contents c.args.out.now in
    let now = g.S.Sink.contents c.write.new.self in
    let text = texts-more lines k c.gen_line.result c.as_slice.result.now c.gen_line.ensures.value
    (c.as_slice.ensures.value ∙ c.bytes_of.ensures) in
    record {
      written = subst (λ (m : ℕ). Wrote before now (flat_map line_text (take m lines))) e
          (subst (Wrote before now) (sym text) (wrote-more before (g.S.Sink.contents c.loop-i.out) now
          (flat_map line_text (take k lines)) c.as_slice.result.now _
          c.loop-i.invariant.written c.in_ok-write.ensures.bytes));
      calm = c.in_ok-write.ensures.faults.ok ∙ c.loop-i.invariant.calm;
      in_time = λ late calm.
          rw (c.in_ok-write.ensures.late, c.loop-i.invariant.in_time late calm, c.loop-i.invariant.calm ∙ calm)
          (le-ltb 0 0 (omega arith));
    }

pub returns-clause-bytes : goal.returns-clause-bytes
returns-clause-bytes g c =
    let lines = made_lines c.args.n c.args.seed in
    let count : length lines ≡ 105 =
    ap length (lines-at c.args.n c.args.seed) ∙ length-map-range_with_len (line_at c.args.n c.args.seed) 1 105 in
    let all : take (c.loop-i.i - 1) lines ≡ lines = take_all (c.loop-i.i - 1) lines (omega (arith, count)) in
    let before = g.S.Sink.contents c.args.out.now in
    let now = g.S.Sink.contents c.loop-i.out in
    wrote-all before now (script_text c.args.n c.args.seed) _
    (subst (λ l. Wrote before now (flat_map line_text l)) all c.loop-i.invariant.written)
