-- The frame is of the grid that was read, at the tolerance and the budget of the goal.
use Rattle.std.proofs.Common.{ℕ, refl, ◌∙◌, ap}
use Rattle.run_words.specs.Words.{Goal}
use Rattle.run_words.specs.FitView.{goal_seen}
use Rattle.run_meshes.specs.FittedSeen.{tolerance_for}
use Rattle.run_meshes.proofs.FittedLemmas.{framed-fitted}
use Rattle.run_meshes.proofs.fitted.Fitted.make.Goals as goal

pub returns : goal.returns
returns c =
    let wanted : Goal = goal_seen c.args.goal in
    let frame = c.frame-note.ensures in
    record {
      fitted = framed-fitted
          (record { grid = c.args.grid; fit = c.frame-note.new.self; note = c.frame-note.result }) wanted
          c.args.grid c.args.grid
          c.tolerance_in.result c.in_ok-fit.fit.budget (rw c.n-n.ensures.value at c.n-n.ensures.high)
          refl refl
          (frame.n ∙ c.in_ok-fit.ensures.n ∙ c.n-n.ensures.value)
          (c.tolerance_in.ensures ∙ ap (λ (k : ℕ). tolerance_for k wanted) c.n-n.ensures.value)
          (c.in_ok-fit.ensures.budget ∙ c.budget_of.ensures.value)
          (record {
            least = frame.least;
            fewest = frame.fewest;
            best = frame.best;
            in_order = frame.order;
            deviation = frame.deviation;
            triangles = frame.triangles;
            vertices = frame.vertices;
            within = frame.within;
          });
    }
