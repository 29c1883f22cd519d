use Rattle.std.proofs.Common.{◌≡◌, ℕ, ◌+◌, ◌-◌, Some, ◌∙◌, ap, subst, arith, slice_get}
use Rattle.roam_script.specs.declared.line.Line.{Line}
use Rattle.roam_gen.specs.Generated.{made_lines}
use Rattle.roam_gen.specs.LineAt.{line_at}
use Rattle.run_engine.proofs.SumLemmas.{made-ranges, gone-other, gone-frame}
use Rattle.run_engine.proofs.generated.take_line.Goals as goal

-- the line at this place is the one that was made
same-place : (n seed k : ℕ) (line : Line) → slice_get (made_lines n seed) (k + 1 - 1) ≡ Some line →
    slice_get (made_lines n seed) k ≡ Some line
same-place n seed k line is =
    let P : ℕ → Type 0 = λ i. slice_get (made_lines n seed) i ≡ Some line in
    let e : k + 1 - 1 ≡ k = omega arith in
    subst P e is

pub apply_line-requires : goal.apply_line-requires
apply_line-requires c =
    let here = c.requires.here in
    record {
      other = c.in_default.not-Frame;
      ranges = made-ranges c.args.n c.args.engine.now c.gen_line.result
          (line_at c.args.n c.args.seed (c.args.k + 1)) here.level here.heights c.gen_line.ensures.there
          (c.generator_laws.ensures.ranges c.args.n c.args.seed (c.args.k + 1) c.requires.n_high (omega arith)
          (let e = c.requires.k in omega (arith, e)));
      near = here.camera;
      far = (let e = c.requires.k in let o = here.few.gone in omega (arith, e, o));
    }

pub returns-in-Frame : goal.returns-in-Frame
returns-in-Frame c =
    let add = c.add.ensures in
    gone-frame c.args.n c.args.seed c.args.k c.args.engine.now c.args.sums.now c.requires.here c.frame.new.self
    c.frame.result c.add.new.self
    (same-place c.args.n c.args.seed c.args.k c.gen_line.result c.gen_line.ensures.value
    ∙ ap Some c.in-Frame.is) c.frame.ensures.done
    add.frames add.triangles add.few add.worst add.blocked

pub returns-in_default : goal.returns-in_default
returns-in_default c =
    gone-other c.args.n c.args.seed c.args.k c.args.engine.now c.args.sums.now c.requires.here
    c.apply_line.new.engine c.gen_line.result
    (line_at c.args.n c.args.seed (c.args.k + 1))
    (same-place c.args.n c.args.seed c.args.k c.gen_line.result c.gen_line.ensures.value)
    c.in_default.not-Frame c.gen_line.ensures.there
    (c.generator_laws.ensures.ranges c.args.n c.args.seed (c.args.k + 1) c.requires.n_high (omega arith)
    (let e = c.requires.k in omega (arith, e)))
    c.apply_line.ensures
