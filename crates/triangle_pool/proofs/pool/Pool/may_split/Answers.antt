use Rattle.std.proofs.Common.{◌≡◌, ap, arith}
use Rattle.std.proofs.lemmas.Bool.{eq-eqb, eqb-true, true≢false}
use Rattle.mesh_defs.specs.Triangle.{level_of}
use Rattle.mesh_laws.specs.Slots.{address_at}
use Rattle.mesh_laws.proofs.SlotLemmas.{coarse_link}
use Rattle.triangle_pool.proofs.pool.Pool.may_split.Goals as goal

pub tri-requires : goal.tri-requires
tri-requires c = record {
  live = (coarse_link c.args.self.now.n c.args.self.now.pairs c.args.s.0 c.in-Some.across.0 c.in-Some.ensures.valid
      c.requires.leaf (λ z. true≢false (c.in-Some.ensures.border.1 z)) c.in-Some.ensures.owner).live;
}

pub returns-in-Some : goal.returns-in-Some
returns-in-Some c =
    let link = coarse_link c.args.self.now.n c.args.self.now.pairs c.args.s.0 c.in-Some.across.0 c.in-Some.ensures.valid
    c.requires.leaf (λ z. true≢false (c.in-Some.ensures.border.1 z)) c.in-Some.ensures.owner in
    let across : level_of c.tri.result ≡ level_of (address_at c.args.self.now.pairs c.in-Some.across.0) =
    ap level_of c.tri.ensures.value in
    let own : level_of c.tri-in-Some.result ≡ level_of (address_at c.args.self.now.pairs c.args.s.0) =
    ap level_of c.tri-in-Some.ensures.value in
    let across_level = c.level.ensures.value in let own_level = c.level-in-Some.ensures.value in (
      (λ equal _. link.same (λ less. let same = eqb-true c.level.result c.level-in-Some.result equal in omega arith)),
      (λ live. eq-eqb c.level.result c.level-in-Some.result (let same = link.even (live link.some) in omega arith)),
    )
