-- By the finest page.
use Rattle.std.proofs.Common.{◌≡◌, ◌+◌, ◌-◌, ◌*◌, ◌≤◌, refl, sym, ◌∙◌, ap, subst, arith}
use Rattle.mesh_defs.specs.declared.point.Corners.{Corners}
use Rattle.mesh_defs.specs.Triangle.{level_of}
use Rattle.page_store.specs.Store.{Store, IsTable}
use Rattle.page_store.specs.Locate.{IsPageTriangle, page_triangle}
use Rattle.page_store.proofs.LocateLemmas.{HasCorners, apex-point, v0-point, v1-point, reach-last, reach-from}
use Rattle.page_store.proofs.LocateLemmas.{told-corners, told-triangle, told-placed}
use Rattle.page_store.proofs.table.Table.locate.Goals.{After-corners}
use Rattle.page_store.proofs.table.Table.locate.Goals as goal

pub returns-then-level-found-clause-reach : goal.returns-then-level-found-clause-reach
returns-then-level-found-clause-reach c =
    let n : c.self.inside.n ≡ c.args.self.now.n = ap (λ (s : Store). s.n) c.self.view_is in
    let level = c.level.ensures.value in
    let more = c.if-level-found.true in (
      λ no. absurd cc,
      λ reach.
          let last = reach-last (subst IsTable c.self.view_is c.self.invariant) c.finest-found.ensures.found
          (omega (arith, c.number-address.ensures.value, c.number-address.ensures.low)) c.finest-found.ensures.finest
          reach in
          absurd (omega arith),
    )

module _ (c : After-corners) where
  low : 2 ≤ c.args.tri
  low = omega (arith, c.number-address.ensures.value, c.number-address.ensures.low)

  last : level_of c.args.tri ≤ 2 * (c.finest-found.result.cuts + c.self.inside.n)
  last = let level = c.level.ensures.value in let less = c.if-level-found.false in omega arith

  there : HasCorners c.self.inside.n (c.self.inside.large - c.self.inside.n - c.finest-found.result.cuts)
      c.finest-found.result.part.square c.corners.result
  there =
      told-corners (subst IsTable c.self.view_is c.self.invariant) c.finest-found.ensures.found low
      (ap (λ (s : Store). s.large) c.self.view_is) (ap (λ (s : Store). s.n) c.self.view_is) c.corners.ensures.value last

pub local_corners-corners-requires-clause-apex : goal.local_corners-corners-requires-clause-apex
local_corners-corners-requires-clause-apex c = apex-point (there c)

pub local_corners-corners-requires-clause-v0 : goal.local_corners-corners-requires-clause-v0
local_corners-corners-requires-clause-v0 c = v0-point (there c)

pub local_corners-corners-requires-clause-v1 : goal.local_corners-corners-requires-clause-v1
local_corners-corners-requires-clause-v1 c = v1-point (there c)

pub returns-clause-reach : goal.returns-clause-reach
returns-clause-reach c =
    let n : c.self.inside.n ≡ c.args.self.now.n = ap (λ (s : Store). s.n) c.self.view_is in
    let level = c.level.ensures.value in
    let less = c.if-level-found.false in (
      λ yes. reach-from (subst IsTable c.self.view_is c.self.invariant) c.finest-found.ensures.found
          (low (goal.at.returns-clause-reach c).After-corners) c.finest-found.ensures.finest (omega arith),
      λ reach. refl,
    )

-- what is told is the triangle of the definition
told : (c : goal.After-local_corners-corners) → record {
  q = c.self.inside.large - c.self.inside.n - c.finest-found.result.cuts;
  square = c.finest-found.result.part.square;
  corners = c.local_corners-corners.result;
} ≡ page_triangle c.args.self.now c.args.tri
told c =
    ap (λ (corners : Corners). record {
      q = c.self.inside.large - c.self.inside.n - c.finest-found.result.cuts;
      square = c.finest-found.result.part.square;
      corners = corners;
    }) c.local_corners-corners.ensures
    ∙ told-triangle (subst IsTable c.self.view_is c.self.invariant) c.finest-found.ensures.found
    (omega (arith, c.number-address.ensures.value, c.number-address.ensures.low))
    (ap (λ (s : Store). s.large) c.self.view_is) (ap (λ (s : Store). s.n) c.self.view_is) c.corners.ensures.value
    c.finest-found.ensures.finest

pub returns-clause-value : goal.returns-clause-value
returns-clause-value c = told c

pub returns-clause-placed : goal.returns-clause-placed
returns-clause-placed c =
    let h = (goal.at.returns-clause-placed c).After-corners in
    subst (IsPageTriangle c.args.self.now c.args.tri) (sym (told c))
    (told-placed (subst IsTable c.self.view_is c.self.invariant) c.finest-found.ensures.found (low h)
    (ap (λ (s : Store). s.large) c.self.view_is) (ap (λ (s : Store). s.n) c.self.view_is) c.corners.ensures.value
    c.finest-found.ensures.finest (last h))
