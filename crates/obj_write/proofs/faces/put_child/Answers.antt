use Rattle.obj_write.proofs.FaceLemmas.{child-apex}
use Rattle.obj_write.proofs.faces.put_child.Goals as goal

pub corner_between-face-requires-clause-v0 : goal.corner_between-face-requires-clause-v0
corner_between-face-requires-clause-v0 c =
    (c.base_of.ensures.v0 c.args.n c.args.numbers.now c.requires.of_parent).place_is

pub corner_between-face-requires-clause-v1 : goal.corner_between-face-requires-clause-v1
corner_between-face-requires-clause-v1 c =
    (c.base_of.ensures.v1 c.args.n c.args.numbers.now c.requires.of_parent).place_is

pub returns-clause-face : goal.returns-clause-face
returns-clause-face c = record {
  apex_is = child-apex c.args.n c.args.t c.args.numbers.now c.args.parent.now c.requires.child
      c.requires.of c.requires.of_parent;
  v0_is = c.base_of.ensures.v0 c.args.n c.args.numbers.now c.requires.of_parent;
  v1_is = c.base_of.ensures.v1 c.args.n c.args.numbers.now c.requires.of_parent;
  middle_is = c.corner_between-face.ensures;
}
