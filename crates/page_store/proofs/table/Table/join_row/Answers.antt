-- A page more of the row.
use Rattle.std.proofs.Common.{◌≡◌, ◌-◌, ap, subst, arith}
use Rattle.mesh_defs.specs.declared.point.Point.{Point}
use Rattle.wedgie_tree.specs.Edits.{area_between}
use Rattle.page_store.specs.Store.{Store, top_of}
use Rattle.page_store.specs.Change.{IsPageJoined}
use Rattle.page_store.proofs.AboveLemmas.{page-grids, grids-then}
use Rattle.page_store.proofs.RejoinLemmas.{join-square}
use Rattle.page_store.proofs.table.Table.join_row.Goals as goal

pub loop-x-preserved : goal.loop-x-preserved
loop-x-preserved c =
    let large : c.self.inside.large ≡ c.args.self.now.large = ap (λ (s : Store). s.large) c.self.view_is in
    let n : c.self.inside.n ≡ c.args.self.now.n = ap (λ (s : Store). s.n) c.self.view_is in
    let i = c.loop-x.invariant in
    let same-large = i.grids.large in
    let same-n = i.grids.n in
    let coarse = c.requires.coarse in
    let e : top_of c.loop-x.self - (c.self.inside.large - c.self.inside.n - c.args.q) ≡ c.args.q = omega arith in
    let t : Point = record { x = c.loop-x.x; y = c.args.y } in
    let joined : IsPageJoined c.loop-x.self c.join_page.new.self c.args.q (record { x = c.loop-x.x; y = c.args.y }) =
    subst (λ k. IsPageJoined c.loop-x.self c.join_page.new.self k (record { x = c.loop-x.x; y = c.args.y })) e
    c.join_page.ensures.joined in
    record {
      grids = grids-then i.grids (page-grids joined);
      joined = join-square c.loop-x.self c.join_page.new.self
          (area_between c.args.low.x c.args.low.y c.args.high.x c.args.high.y) c.args.q c.args.y c.loop-x.x joined i.joined;
      valid = c.join_page.ensures.valid;
    }
