-- There is no page but in a square of the terrain.
use Rattle.std.proofs.Common.{◌≡◌, ◌-◌, ◌^◌, ap, sym, arith, subst}
use Rattle.std.proofs.lemmas.Bool.{both_ways}
use Rattle.mosaic_laws.specs.Tile.{IsTile}
use Rattle.page_store.specs.Store.{Store, IsTable, cuts_of}
use Rattle.page_store.proofs.TableLemmas.{IsSquare, page_at-none}
use Rattle.page_store.proofs.table.Table.page.Goals as goal

pub returns-then-q-self : goal.returns-then-q-self
returns-then-q-self c =
    let i : IsTable c.args.self.now = subst IsTable c.self.view_is c.self.invariant in
    let n : c.self.inside.n ≡ c.args.self.now.n = ap (λ (s : Store). s.n) c.self.view_is in
    let large : c.self.inside.large ≡ c.args.self.now.large = ap (λ (s : Store). s.large) c.self.view_is in
    let fits = i.fits in
    record {
      value = sym (page_at-none c.args.self.now c.args.q c.args.square (λ (square : IsSquare c.args.self.now c.args.q
          c.args.square).
          let coarse = square.coarse in omega (arith, c.if-q-self.true)));
    }

pub returns-then-not-is_square : goal.returns-then-not-is_square
returns-then-not-is_square c =
    let n : c.self.inside.n ≡ c.args.self.now.n = ap (λ (s : Store). s.n) c.self.view_is in
    let large : c.self.inside.large ≡ c.args.self.now.large = ap (λ (s : Store). s.large) c.self.view_is in
    let e : c.self.inside.large - c.self.inside.n - c.args.q ≡ cuts_of c.args.self.now c.args.q = omega arith in
    record {
      value = sym (page_at-none c.args.self.now c.args.q c.args.square
          (λ (square : IsSquare c.args.self.now c.args.q c.args.square).
          both_ways c.is_square.result c.if-not-is_square.true
          (c.is_square.ensures.value.1 (subst (λ k. IsTile (2 ^ k) (2 ^ k) c.args.square) (sym e) square.tile))));
    }
