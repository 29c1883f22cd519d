use Rattle.std.proofs.Common.{arith}
use Rattle.mesh_laws.specs.Slots.{address_at}
use Rattle.triangle_pool.proofs.HalveLemmas.{mate_within, inner_linked}
use Rattle.triangle_pool.proofs.links.link_inner.Goals as goal

pub overflow_mul-mate : goal.overflow_mul-mate
overflow_mul-mate c =
    let w = mate_within c.args.pairs.now c.args.s c.args.k
    (address_at c.args.pairs.now c.args.s) c.args.mate c.requires.ready c.if-mate-eq-NOWHERE.false in
    omega arith

pub turn-requires : goal.turn-requires
turn-requires c =
    let w = mate_within c.args.pairs.now c.args.s c.args.k
    (address_at c.args.pairs.now c.args.s) c.args.mate c.requires.ready c.if-mate-eq-NOWHERE.false in
    omega arith

pub overflow_mul-mate-2 : goal.overflow_mul-mate-2
overflow_mul-mate-2 c =
    let w = mate_within c.args.pairs.now c.args.s c.args.k
    (address_at c.args.pairs.now c.args.s) c.args.mate c.requires.ready c.if-mate-eq-NOWHERE.false in
    omega arith

pub overflow_add-mate : goal.overflow_add-mate
overflow_add-mate c =
    let w = mate_within c.args.pairs.now c.args.s c.args.k
    (address_at c.args.pairs.now c.args.s) c.args.mate c.requires.ready c.if-mate-eq-NOWHERE.false in
    omega arith

pub turn-requires-2 : goal.turn-requires-2
turn-requires-2 c =
    let w = mate_within c.args.pairs.now c.args.s c.args.k
    (address_at c.args.pairs.now c.args.s) c.args.mate c.requires.ready c.if-mate-eq-NOWHERE.false in
    omega arith

pub returns : goal.returns
returns c = record {
  inner = inner_linked c.args.pairs.now c.args.nodes.now c.turn.new.nodes c.turn-2.new.nodes c.args.s c.args.k
      (address_at c.args.pairs.now c.args.s) c.args.mate
      c.requires.pairs c.requires.ready c.if-mate-eq-NOWHERE.false c.requires.length c.turn.auto.nodes
      c.turn.ensures c.turn-2.ensures;
}
