-- The reasons lead to the flags; and after a pass that split nothing no leaf is off. Each pass but the last splits a
-- leaf.
use Rattle.std.proofs.Common.{◌≡◌, ◌+◌, ◌-◌, ◌*◌, ◌^◌, false, cond}
use Rattle.mesh_laws.specs.Sweep.{is_flagged}
use Rattle.fit_certify.specs.Settling.{IsReady, IsSame, HasLed, IsSettled, leaf_count}
use Rattle.fit_certify.proofs.settle.settle.Given as goal

abbrev pub invariant-loop-again : goal.invariant-loop-again
invariant-loop-again l = record {
  same : IsSame l.initial.settling l.settling;
  ready : IsReady l.bounds l.settling;
  leads : HasLed l.bounds (is_flagged l.fn.flags) l.settling;
  within : l.again ≡ false → IsSettled l.bounds l.settling;
}

abbrev pub decreases-loop-again : goal.decreases-loop-again
decreases-loop-again l = cond l.again 1 0 + 2 * (2 * 4 ^ l.bounds.grid.now.n - leaf_count l.bounds l.settling)
