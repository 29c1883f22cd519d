-- By the level in the finest page.
use Rattle.std.proofs.Common.{◌≡◌, ℕ, ◌+◌, ◌-◌, ◌*◌, ◌%◌, ◌^◌, ◌<◌, ◌≤◌, ap, sym, ◌∙◌, arith, subst, cond}
use Rattle.mesh_defs.specs.Triangle.{level_of, corners_of}
use Rattle.mosaic_laws.specs.Glue.{local_of, quarter_of, prefix_of}
use Rattle.page_wedges.specs.Page.{own_wedge, half_in}
use Rattle.page_store.specs.Store.{Store, IsTable}
use Rattle.page_store.specs.Locate.{local_corners}
use Rattle.page_store.proofs.LocateLemmas.{HasCorners, apex-point, v0-point, v1-point, told-corners, told-local, known-last}
use Rattle.page_store.proofs.WalkLemmas.{found-small}
use Rattle.page_store.proofs.ValueLemmas.{HalfLaw, thin, local-bits, found-side, half-value, quarter-value, own-value}
use Rattle.page_store.proofs.ValueLemmas.{own-level}
use Rattle.page_store.proofs.table.Table.wedge_in.Goals.{After-level, After-local}
use Rattle.page_store.proofs.table.Table.wedge_in.Goals as goal

pub quarter-requires : goal.quarter-requires
quarter-requires c = record {
  in_square = (found-small (subst IsTable c.self.view_is c.self.invariant) c.requires.found).quarter;
}

pub local-requires-clause-in_square : goal.local-requires-clause-in_square
local-requires-clause-in_square c =
    (found-small (subst IsTable c.self.view_is c.self.invariant) c.requires.found).quarter

-- the address in the page's grid, as the code makes it
is-local : (p : ℕ) {x k number level a : ℕ} → 2 ≤ x → number ≡ x → level ≡ level_of x → 2 * p + 2 ≤ level_of x →
    a ≡ 2 ^ (level - 2 * p - 1) * (4 + k) + number % 2 ^ (level - 2 * p - 1) →
    quarter_of p (prefix_of p (2 * x)) ≡ k → a ≡ local_of p x
is-local p {x} {k} {number} {level} low same deep more is part =
    let e : level - 2 * p - 1 ≡ level_of x - (2 * p + 1) = omega arith in
    is
    ∙ ap (λ j. 2 ^ (level - 2 * p - 1) * (4 + k) + j % 2 ^ (level - 2 * p - 1)) same
    ∙ ap (λ j. 2 ^ j * (4 + k) + x % 2 ^ j) e
    ∙ sym (local-bits p x k low (omega arith) part)

-- the corners are points of the page
module _ (c : After-level) where
  large-is : c.self.inside.large ≡ c.args.self.now.large
  large-is = ap (λ (s : Store). s.large) c.self.view_is

  n-is : c.self.inside.n ≡ c.args.self.now.n
  n-is = ap (λ (s : Store). s.n) c.self.view_is

  terrain-is : c.args.corners ≡ corners_of c.self.inside.large c.args.tri
  terrain-is = c.requires.of_tri ∙ ap (λ m. corners_of m c.args.tri) (sym large-is)

  table : IsTable c.args.self.now
  table = subst IsTable c.self.view_is c.self.invariant

  some : 2 ≤ c.args.tri
  some = omega (arith, c.number-number.ensures.value, c.number-number.ensures.low)

  last : level_of c.args.tri ≤ 2 * (c.args.found.cuts + c.self.inside.n)
  last = known-last table c.requires.found some large-is n-is terrain-is c.requires.finest c.requires.known

  there : HasCorners c.self.inside.n (c.self.inside.large - c.self.inside.n - c.args.found.cuts)
      c.args.found.part.square c.args.corners
  there = told-corners table c.requires.found some large-is n-is terrain-is last

  inside : 2 * c.args.found.cuts < level_of c.args.tri →
      local_corners c.self.inside.n (c.self.inside.large - c.self.inside.n - c.args.found.cuts)
      c.args.found.part.square c.args.corners ≡ corners_of c.args.self.now.n (local_of c.args.found.cuts c.args.tri)
  inside deep = told-local table c.requires.found some large-is n-is terrain-is last deep

pub local_corners-inside-requires-clause-apex : goal.local_corners-inside-requires-clause-apex
local_corners-inside-requires-clause-apex c =
    apex-point (there (goal.at.local_corners-inside-requires-clause-apex c).After-level)

pub local_corners-inside-requires-clause-v0 : goal.local_corners-inside-requires-clause-v0
local_corners-inside-requires-clause-v0 c =
    v0-point (there (goal.at.local_corners-inside-requires-clause-v0 c).After-level)

pub local_corners-inside-requires-clause-v1 : goal.local_corners-inside-requires-clause-v1
local_corners-inside-requires-clause-v1 c =
    v1-point (there (goal.at.local_corners-inside-requires-clause-v1 c).After-level)

module _ (c : After-local) where
  low : 2 ≤ c.args.tri
  low = omega (arith, c.number-number.ensures.value, c.number-number.ensures.low)

  deeper : 2 * c.args.found.cuts + 2 ≤ level_of c.args.tri
  deeper = omega (arith, c.level.ensures.value, c.requires.found.deep, c.in_default)

  own : c.local.result ≡ local_of c.args.found.cuts c.args.tri
  own = is-local c.args.found.cuts low c.number-number.ensures.value c.level.ensures.value deeper c.local.ensures.value
      c.requires.found.part

pub own-requires : goal.own-requires
own-requires c =
    let h = (goal.at.own-requires c).After-local in
    let i : IsTable c.args.self.now = subst IsTable c.self.view_is c.self.invariant in
    let deep = deeper h in
    let side = found-side i c.requires.found (low h) in
    let fits = own-level i c.requires.found (low h) (omega arith) c.requires.finest c.requires.known in
    let same : level_of c.local.result ≡ level_of (local_of c.args.found.cuts c.args.tri) = ap level_of (own h) in
    record {
      level = omega arith;
      of_tri = c.local_corners-inside.ensures
          ∙ inside (goal.at.own-requires c).After-level (omega arith)
          ∙ ap (λ m. corners_of m (local_of c.args.found.cuts c.args.tri)) (sym side)
          ∙ ap (corners_of c.args.found.page.now.field.n) (sym (own h));
    }

pub returns-in-0-clause-value : goal.returns-in-0-clause-value
returns-in-0-clause-value c =
    let i : IsTable c.args.self.now = subst IsTable c.self.view_is c.self.invariant in
    let low : 2 ≤ c.args.tri = omega (arith, c.number-number.ensures.value, c.number-number.ensures.low) in
    let deep = c.requires.found.deep in
    let level : level_of c.args.tri ≡ 2 * c.args.found.cuts = omega (arith, c.level.ensures.value, c.in-0.is) in
    let law : HalfLaw = record { half = c.terrain_laws.ensures.half } in
    c.half.ensures.value
    ∙ ap (λ b. half_in c.args.found.page.now (cond b 1 0)) c.is_upper.ensures.value
    ∙ half-value i c.requires.found low level law c.requires.joined c.requires.known

pub returns-in-0-clause-thin : goal.returns-in-0-clause-thin
returns-in-0-clause-thin c =
    thin c.args.tri (subst IsTable c.self.view_is c.self.invariant) (returns-in-0-clause-value c)

pub returns-in-1-clause-value : goal.returns-in-1-clause-value
returns-in-1-clause-value c =
    let i : IsTable c.args.self.now = subst IsTable c.self.view_is c.self.invariant in
    let low : 2 ≤ c.args.tri = omega (arith, c.number-number.ensures.value, c.number-number.ensures.low) in
    let level : level_of c.args.tri ≡ 2 * c.args.found.cuts + 1 = omega (arith, c.level.ensures.value, c.in-1.is) in
    c.quarter.ensures.value
    ∙ quarter-value i c.requires.found low (omega arith) c.requires.joined level

pub returns-in-1-clause-thin : goal.returns-in-1-clause-thin
returns-in-1-clause-thin c =
    thin c.args.tri (subst IsTable c.self.view_is c.self.invariant) (returns-in-1-clause-value c)

pub returns-in_default-clause-value : goal.returns-in_default-clause-value
returns-in_default-clause-value c =
    let h = (goal.at.returns-in_default-clause-value c).After-local in
    let deep = deeper h in
    c.own.ensures.value
    ∙ ap (own_wedge c.args.found.page.now.field) (own h)
    ∙ own-value (subst IsTable c.self.view_is c.self.invariant) c.requires.found (low h) (omega arith) c.requires.finest
    c.requires.known deep
