use Rattle.std.proofs.Common.{ℕ, ◌≤◌, subst}
use Rattle.mesh_defs.specs.State.{priority_in}
use Rattle.mesh_defs.specs.Falling.{IsFalling}
use Rattle.run_laws.proofs.laws.state_laws.Goals as goal

pub returns-clause-frames : goal.returns-clause-frames
returns-clause-frames c state before set low =
    let n : ℕ = state.grid.n in
    let priority : ℕ → ℕ = priority_in state in
    let falling : IsFalling n priority = c.falling_laws.ensures n state.grid.heights state.view in
    let run = c.frame_run_laws.ensures.ends n state.budget priority before set falling low in
    let frame = c.frame_run_laws.ensures.frame n state.budget priority before run.0 run.1 run.2 set run.3 falling low in (
      run.0,
      frame.0,
      frame.1,
      run.1,
      run.2,
      c.frame_run_laws.ensures.set n state.budget priority before run.0 run.1 run.2 set run.3,
      frame.2,
      run.3,
    )

pub returns-clause-runs : goal.returns-clause-runs
returns-clause-runs c = c.frame_run_laws.ensures.unique

pub returns-clause-sets : goal.returns-clause-sets
returns-clause-sets c = c.frame_run_laws.ensures.set

pub returns-clause-levels : goal.returns-clause-levels
returns-clause-levels c grid bytes is =
    let header = c.grids_and_texts.ensures.headers grid bytes is in
    let P : ℕ → Type 0 = λ k. (1 ≤ k) × (k ≤ 11) in
    subst P header.4 (header.3.accepts.valid.level.low, header.3.accepts.valid.level.high)

pub returns-clause-budgets : goal.returns-clause-budgets
returns-clause-budgets c limits bytes most is = (c.line_laws.ensures.ranges limits bytes _ is).0
