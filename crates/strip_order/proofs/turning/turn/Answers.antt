-- Where the exit is not the next edge, it is the one before: over the edge of the entry there is no other leaf.
use Rattle.mesh_laws.specs.declared.edge.Edge.TheVariants.{LeftLeg, Base, RightLeg}
use Rattle.mesh_laws.proofs.StripTurnLemmas.{IsLeftTurn-found}
use Rattle.strip_order.proofs.turning.turn.Goals as goal

pub returns-in_default : goal.returns-in_default
returns-in_default c = record {
  left = λ _. IsLeftTurn-found c.args.n c.args.before c.args.t c.args.after c.requires.mesh.0 c.shared_edge-entry.result
      c.shared_edge-exit.result
      LeftLeg c.corners-corners.result c.corners.result c.corners-2.result c.requires.mesh.1 c.requires.mesh.2.0
      c.requires.mesh.2.1.1 c.requires.other
      c.corners-corners.ensures.value c.corners.ensures.value c.corners-2.ensures.value c.shared_edge-entry.ensures
      c.shared_edge-exit.ensures
      c.in_default.is-0 c.in_default.not-Base-1;
  right = λ e. absurd (cc);
}

pub returns-in_default-2 : goal.returns-in_default-2
returns-in_default-2 c = record {
  left = λ _. IsLeftTurn-found c.args.n c.args.before c.args.t c.args.after c.requires.mesh.0 c.shared_edge-entry.result
      c.shared_edge-exit.result
      Base c.corners-corners.result c.corners.result c.corners-2.result c.requires.mesh.1 c.requires.mesh.2.0
      c.requires.mesh.2.1.1 c.requires.other
      c.corners-corners.ensures.value c.corners.ensures.value c.corners-2.ensures.value c.shared_edge-entry.ensures
      c.shared_edge-exit.ensures
      c.in_default.is-0 c.in_default.not-RightLeg-1;
  right = λ e. absurd (cc);
}

pub returns-in_default-3 : goal.returns-in_default-3
returns-in_default-3 c = record {
  left = λ _. IsLeftTurn-found c.args.n c.args.before c.args.t c.args.after c.requires.mesh.0 c.shared_edge-entry.result
      c.shared_edge-exit.result
      RightLeg c.corners-corners.result c.corners.result c.corners-2.result c.requires.mesh.1 c.requires.mesh.2.0
      c.requires.mesh.2.1.1 c.requires.other
      c.corners-corners.ensures.value c.corners.ensures.value c.corners-2.ensures.value c.shared_edge-entry.ensures
      c.shared_edge-exit.ensures
      c.in_default.is-0 c.in_default.not-LeftLeg-1;
  right = λ e. absurd (cc);
}
