-- One test after the other.
use Rattle.std.proofs.Common.{◌≡◌, suc, ◌+◌, ◌-◌, ◌^◌, ap, subst, arith}
use Rattle.std.proofs.lemmas.Grind.{common_steps}
use Rattle.mosaic_laws.specs.Tile.{IsTile}
use Rattle.page_store.specs.Store.{Store, cuts_of}
use Rattle.page_store.proofs.AboveLemmas.{above-tile}
use Rattle.page_store.proofs.table.Table.load_fault.Goals as goal

pub lacks_beside-requires-clause-in_square : goal.lacks_beside-requires-clause-in_square
lacks_beside-requires-clause-in_square c =
    let n : c.self.inside.n ≡ c.args.self.now.n = ap (λ (s : Store). s.n) c.self.view_is in
    let large : c.self.inside.large ≡ c.args.self.now.large = ap (λ (s : Store). s.large) c.self.view_is in
    let tile = c.is_square.ensures.value.0 c.if-not-is_square.false in
    let e : c.self.inside.large - c.self.inside.n - c.args.q ≡ suc (cuts_of c.args.self.now (c.args.q + 1)) =
    omega (arith, c.if-q-self.false) in
    above-tile (cuts_of c.args.self.now (c.args.q + 1)) c.args.square
    (subst (λ k. IsTile (2 ^ k) (2 ^ k) c.args.square) e tile)

pub returns-in-Some-clause-some : goal.returns-in-Some-clause-some
returns-in-Some-clause-some c =
    let n : c.self.inside.n ≡ c.args.self.now.n = ap (λ (s : Store). s.n) c.self.view_is in
    let large : c.self.inside.large ≡ c.args.self.now.large = ap (λ (s : Store). s.large) c.self.view_is in
    let tile = c.is_square.ensures.value.0 c.if-not-is_square.false in
    let e : c.self.inside.large - c.self.inside.n - c.args.q ≡ cuts_of c.args.self.now c.args.q = omega arith in (
      (omega (arith, c.if-q-self.false), subst (λ k. IsTile (2 ^ k) (2 ^ k) c.args.square) e tile),
      grind (arith, common_steps),
      grind (arith, common_steps),
      grind (arith, common_steps),
      grind (arith, common_steps),
      c.lacks_beside.ensures.no c.if-lacks_beside.false,
      c.in-Some.ensures.some,
    )
