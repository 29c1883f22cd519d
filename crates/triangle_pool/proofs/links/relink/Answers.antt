use Rattle.std.proofs.Common.{ℕ, ◌%◌, arith, refl, subst, nat_eq}
use Rattle.triangle_pool.specs.Links.{IsAcross}
use Rattle.mesh_laws.proofs.SlotLemmas.{live_within}
use Rattle.triangle_pool.proofs.RelinkLemmas.{across_live, relinked_nowhere, relinked_turn}
use Rattle.triangle_pool.proofs.links.relink.Goals as goal

pub returns-then-x-eq-NOWHERE : goal.returns-then-x-eq-NOWHERE
returns-then-x-eq-NOWHERE c = record {
  relinked = relinked_nowhere c.args.pairs.now c.args.nodes.now c.args.f c.args.to c.requires.pairs c.requires.low
      (let P : ℕ → Type 0 = λ x. IsAcross c.args.pairs.now c.args.f x in
      subst P c.if-x-eq-NOWHERE.true c.requires.across);
}

pub address-requires-clause-live : goal.address-requires-clause-live
address-requires-clause-live c =
    (across_live c.args.pairs.now c.args.f c.args.x c.requires.pairs c.requires.low c.requires.across
    c.if-x-eq-NOWHERE.false).0

pub address-requires-clause-within : goal.address-requires-clause-within
address-requires-clause-within c =
    live_within c.args.pairs.now c.args.x (across_live c.args.pairs.now c.args.f c.args.x c.requires.pairs
    c.requires.low c.requires.across c.if-x-eq-NOWHERE.false).0

pub level-requires-clause-low : goal.level-requires-clause-low
level-requires-clause-low c =
    let live = (across_live c.args.pairs.now c.args.f c.args.x c.requires.pairs c.requires.low c.requires.across
    c.if-x-eq-NOWHERE.false).0 in
    omega arith

pub turn-requires : goal.turn-requires
turn-requires c =
    let within = live_within c.args.pairs.now c.args.x (across_live c.args.pairs.now c.args.f c.args.x c.requires.pairs
    c.requires.low c.requires.across c.if-x-eq-NOWHERE.false).0 in
    omega arith

pub returns : goal.returns
returns c = record {
  relinked = relinked_turn c.args.pairs.now c.args.nodes.now c.turn.new.nodes c.args.x c.args.f c.args.to
      (nat_eq c.level.result c.level-2.result) (nat_eq (c.args.f % 2) 0)
      c.requires.pairs c.requires.low c.requires.across c.if-x-eq-NOWHERE.false
      (let within = live_within c.args.pairs.now c.args.x (across_live c.args.pairs.now c.args.f c.args.x
      c.requires.pairs c.requires.low c.requires.across c.if-x-eq-NOWHERE.false).0 in
      omega arith)
      (rw (c.level.ensures, c.level-2.ensures, c.address.ensures) refl) refl c.turn.ensures;
}
