use Rattle.std.proofs.Common.{◌≡◌, ℕ, ◌+◌, ◌-◌, ◌*◌, ◌^◌, length, sym, ap, ◌∙◌, subst, arith}
use Rattle.std.specs.List.{flat_map}
use Rattle.std.proofs.lemmas.Bool.{le-ltb}
use Rattle.std.proofs.lemmas.Result.{err_from_is_err_and}
use Rattle.mesh_defs.specs.HeightField.{side_of}
use Rattle.text_laws.specs.Words.{two_bytes}
use Rattle.roam_gen.specs.Generated.{made_grid}
use Rattle.roam_gen.specs.Rows.{Wrote, HasOctaves}
use Rattle.roam_gen.proofs.OctaveLemmas.{width-small}
use Rattle.roam_gen.proofs.RowLemmas.{samples_from, samples-row, samples-split, samples-grid, row-samples}
use Rattle.roam_gen.proofs.SinkLemmas.{wrote-more, wrote-all, wrote-part}
use Rattle.roam_gen.proofs.writing.write_rows.Given.{Over}
use Rattle.roam_gen.proofs.writing.write_rows.Goals as goal
use Rattle.roam_gen.proofs.writing.write_rows.Goals.{After-as_slice}

pub row_bytes-requires : goal.row_bytes-requires
row_bytes-requires g c =
    let small = width-small c.args.n c.requires.n_high in
    let kept = c.fill_row.auto.row in
    let still = c.loop-above.auto.row in
    omega (arith, small, kept, still, c.requires.length)

-- what is written of a row is its samples
row_text : (g : Over) (c : After-as_slice g) →
    c.as_slice.result.now ≡ samples_from c.args.n c.args.seed (c.loop-above.above * side_of c.args.n) (side_of c.args.n)
row_text g c =
    let n = c.args.n in
    let above = c.loop-above.above in
    let long : length c.fill_row.new.row ≡ side_of n =
    c.fill_row.auto.row ∙ c.loop-above.auto.row ∙ c.requires.length in
    let row : HasOctaves c.fill_row.new.row (n + 1) n c.args.seed (2 ^ n - above) =
    subst (λ (m : ℕ). HasOctaves c.fill_row.new.row (n + 1) n c.args.seed (m - above))
    c.last_of-last.ensures.value c.fill_row.ensures in
    c.as_slice.ensures.value ∙ c.row_bytes.ensures ∙ row-samples n c.args.seed above c.fill_row.new.row long row

pub returns-in_err-write-clause-bytes : goal.returns-in_err-write-clause-bytes
returns-in_err-write-clause-bytes g c =
    let p = err_from_is_err_and c.from_residual.result c.from_residual.ensures.1 in
    let n = c.args.n in
    let above = c.loop-above.above in
    let piece = c.as_slice.result.now in
    rw p.1
    (wrote-part _ (g.S.Sink.contents c.loop-above.out) _ (samples_from n c.args.seed 0 (above * side_of n)) piece
    (samples_from n c.args.seed (0 + (above + 1) * side_of n) ((side_of n - (above + 1)) * side_of n))
    (flat_map two_bytes (made_grid n c.args.seed).heights) _ _ c.loop-above.invariant.written
    c.in_err-write.ensures.bytes
    (samples-grid n c.args.seed ∙ samples-split n c.args.seed above piece (omega (arith, c.last_of-last.ensures.value))
    (row_text g (goal.at.returns-in_err-write-clause-bytes g c).After-as_slice)))

pub loop-above-preserved : goal.loop-above-preserved
loop-above-preserved g c =
    let n = c.args.n in
    let above = c.loop-above.above in
    let piece = c.as_slice.result.now in
    let before = g.S.Sink.contents c.args.out.now in
    let now = g.S.Sink.contents c.write.new.self in
    record {
      written = subst (Wrote before now)
          (sym (samples-row n c.args.seed above piece (row_text g (goal.at.loop-above-preserved g c).After-as_slice)))
          (wrote-more before (g.S.Sink.contents c.loop-above.out) now
          (samples_from n c.args.seed 0 (above * side_of n)) piece _
          c.loop-above.invariant.written c.in_ok-write.ensures.bytes);
      calm = c.in_ok-write.ensures.faults.ok ∙ c.loop-above.invariant.calm;
      in_time = λ late calm.
          rw (c.in_ok-write.ensures.late, c.loop-above.invariant.in_time late calm, c.loop-above.invariant.calm ∙ calm)
          (le-ltb 0 0 (omega arith));
    }

pub returns-clause-bytes : goal.returns-clause-bytes
returns-clause-bytes g c =
    let n = c.args.n in
    let end : c.loop-above.above ≡ side_of n = omega (arith, c.last_of-last.ensures.value) in
    let before = g.S.Sink.contents c.args.out.now in
    let now = g.S.Sink.contents c.loop-above.out in
    let all = ap (λ m. samples_from n c.args.seed 0 (m * side_of n)) end ∙ sym (samples-grid n c.args.seed) in
    wrote-all before now (flat_map two_bytes (made_grid n c.args.seed).heights) _
    (subst (Wrote before now) all c.loop-above.invariant.written)
