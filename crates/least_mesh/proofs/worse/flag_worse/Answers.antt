-- One address a turn.
use Rattle.std.proofs.Common.{◌≡◌, ◌+◌, ◌*◌, ◌^◌, length, ap, subst, sym, ◌∙◌, arith}
use Rattle.mesh_defs.specs.State.{priority_seen}
use Rattle.mesh_laws.specs.Least.{is_worse}
use Rattle.least_mesh.specs.Asked.{AreWantedFlagged}
use Rattle.least_mesh.proofs.AskedLemmas.{asked-none, asked-yes, asked-no, asked-all}
use Rattle.least_mesh.proofs.worse.flag_worse.Goals.{then-is_worse, else-is_worse}
use Rattle.least_mesh.proofs.worse.flag_worse.Goals as goal

pub loop-number-init : goal.loop-number-init
loop-number-init c =
    let p = priority_seen c.args.scene.now in
    record {
      flagged = asked-none c.args.scene.now.grid.n c.args.tolerance
          (length c.args.flags.now) p c.clear.new.flags c.clear.ensures;
      asked = omega arith;
      count = omega arith;
    }

pub loop-number-preserved : goal.loop-number-preserved
loop-number-preserved c =
    let p = priority_seen c.args.scene.now in
    let wanted = is_worse c.args.scene.now.grid.n c.args.tolerance p in
    let more = c.is_worse.ensures.asked in
    let asked = c.loop-number.invariant.asked in
    let no_less = c.is_worse.ensures.count in
    let count = c.loop-number.invariant.count in
    let grid : c.n.result ≡ c.args.scene.now.grid.n = c.n.ensures.value in
    let end : c.end-number-end.result ≡ 2 ^ (2 * c.args.scene.now.grid.n + 1) = c.end-number-end.ensures.value
    ∙ ap (λ k. 2 ^ (2 * k + 1)) grid in
    let test = c.loop-number-test.true in
    let long = c.loop-number.auto.flags in
    let room = c.requires.room in
    elim c.if-is_worse.branch [
      | then-is_worse w ↦ record {
        flagged = subst (λ l. AreWantedFlagged wanted l (c.loop-number.number + 1)) (sym w.flags-is)
            (asked-yes wanted c.loop-number.flags c.loop-number.number c.loop-number.invariant.flagged (omega arith)
            (sym c.is_worse.ensures.value ∙ w.if-is_worse.true));
        asked = omega arith;
        count = omega arith;
      }
      | else-is_worse w ↦ record {
        flagged = subst (λ l. AreWantedFlagged wanted l (c.loop-number.number + 1)) (sym w.flags-is)
            (asked-no wanted c.loop-number.flags c.loop-number.number c.loop-number.invariant.flagged
            (sym c.is_worse.ensures.value ∙ w.if-is_worse.false));
        asked = omega arith;
        count = omega arith;
      }
    ]

pub returns-clause-worse : goal.returns-clause-worse
returns-clause-worse c =
    let p = priority_seen c.args.scene.now in
    let end = c.end-number-end.ensures in
    let grid : c.n.result ≡ c.args.scene.now.grid.n = c.n.ensures.value in
    let value : c.end-number-end.result ≡ 2 ^ (2 * c.args.scene.now.grid.n + 1) =
    end.value ∙ ap (λ k. 2 ^ (2 * k + 1)) grid in
    let most = c.loop-number.auto.number-end end.low in
    let last = c.loop-number-test.false in
    asked-all c.args.scene.now.grid.n c.args.tolerance c.loop-number.number p c.loop-number.flags (omega arith)
    c.loop-number.invariant.flagged
