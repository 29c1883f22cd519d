-- A step up, and the end at the coarsest page.
use Rattle.std.proofs.Common.{◌≡◌, suc, ◌-◌, ◌^◌, ap₂, sym, arith, subst}
use Rattle.mosaic_laws.specs.Tile.{IsTile}
use Rattle.page_laws.specs.Pages.{square_above}
use Rattle.page_store.specs.Store.{top_of}
use Rattle.page_store.specs.Change.{AreOthersJoined}
use Rattle.page_store.proofs.AboveLemmas.{above-tile, above-step, above-all, page-grids, grids-then}
use Rattle.page_store.proofs.table.Table.join_above.Goals as goal

pub loop-cuts-preserved : goal.loop-cuts-preserved
loop-cuts-preserved c =
    let s = c.loop-cuts.self in
    let e : c.loop-cuts.cuts ≡ suc (c.loop-cuts.cuts - 1) = omega arith in
    let i = c.loop-cuts.invariant in
    let joined = c.join_page.ensures.joined in
    let top : top_of c.join_page.new.self ≡ top_of c.loop-cuts.self = ap₂ (λ l m. l - m) joined.large joined.n in
    let coarse = i.coarse in
    let others : AreOthersJoined c.loop-cuts.self (top_of c.loop-cuts.self - suc (c.loop-cuts.cuts - 1))
    c.loop-cuts.square =
    subst (λ k. AreOthersJoined c.loop-cuts.self (top_of c.loop-cuts.self - k) c.loop-cuts.square) e i.joined in
    record {
      coarse = omega arith;
      in_square = above-tile (c.loop-cuts.cuts - 1) c.loop-cuts.square
          (subst (λ k. IsTile (2 ^ k) (2 ^ k) c.loop-cuts.square) e i.in_square);
      joined = subst (λ m. AreOthersJoined c.join_page.new.self (m - (c.loop-cuts.cuts - 1)) (square_above
          c.loop-cuts.square))
          (sym top)
          (above-step c.loop-cuts.self c.join_page.new.self (c.loop-cuts.cuts - 1) c.loop-cuts.square (omega arith)
          others
          joined);
      grids = grids-then i.grids (page-grids joined);
      valid = c.join_page.ensures.valid;
    }

pub returns-clause-joined : goal.returns-clause-joined
returns-clause-joined c =
    let e : c.loop-cuts.cuts ≡ 0 = omega (arith, c.loop-cuts-test.false) in
    above-all c.loop-cuts.self c.loop-cuts.square
    (subst (λ k. AreOthersJoined c.loop-cuts.self (top_of c.loop-cuts.self - k) c.loop-cuts.square) e
    c.loop-cuts.invariant.joined)
