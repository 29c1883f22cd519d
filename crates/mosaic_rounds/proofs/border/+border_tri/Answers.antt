-- A quarter, or a grandchild of the triangle that has twice the base.
use Rattle.std.proofs.Common.{◌≡◌, ℕ, ◌/◌, ◌<◌, ◌≤◌, IsTrue, arith}
use Rattle.mesh_defs.specs.Triangle.{level_of}
use Rattle.mosaic_rounds.specs.Border.{is_border, place_of}
use Rattle.mosaic_rounds.proofs.BorderLemmas.{border-first, side-first, place-first, border-coarse}
use Rattle.mosaic_rounds.proofs.border.+border_tri.Goals as goal

pub returns-then-place-eq1-clause-border : goal.returns-then-place-eq1-clause-border
returns-then-place-eq1-clause-border i c =
    let small = c.requires.side in
    let is = c.quarter.ensures.value in border-first c.quarter.result (omega arith) (omega arith)

pub returns-then-place-eq1-clause-side : goal.returns-then-place-eq1-clause-side
returns-then-place-eq1-clause-side i c =
    let small = c.requires.side in
    let is = c.quarter.ensures.value in
    let e = side-first c.quarter.result (omega arith) (omega arith) in omega arith

pub returns-then-place-eq1-clause-place : goal.returns-then-place-eq1-clause-place
returns-then-place-eq1-clause-place i c =
    let small = c.requires.side in
    let is = c.quarter.ensures.value in
    let e = place-first c.quarter.result (omega arith) (omega arith) in
    let one = c.if-place-eq1.true in omega arith

-- the triangle above has half the place
above-coarse : (b place : ℕ) → 4 ≤ b → IsTrue (is_border b) → place_of b ≡ place / 2 → place < 16384 → level_of b < 26
above-coarse b place big is half small = border-coarse 13 b (omega arith) is (omega arith)

pub left-requires : goal.left-requires
left-requires i c =
    let b = c.border_tri-above.ensures in
    let e = above-coarse c.border_tri-above.result c.args.place b.big b.border b.place c.requires.place.1 in omega arith

pub right-requires : goal.right-requires
right-requires i c =
    let b = c.border_tri-above.ensures in
    let e = above-coarse c.border_tri-above.result c.args.place b.big b.border b.place c.requires.place.1 in
    let next = c.left.ensures.level in omega arith

pub right-requires-else-place-backwards-eq0 : goal.right-requires-else-place-backwards-eq0
right-requires-else-place-backwards-eq0 i c =
    let b = c.border_tri-above.ensures in
    let e = above-coarse c.border_tri-above.result c.args.place b.big b.border b.place c.requires.place.1 in omega arith

pub left-requires-else-place-backwards-eq0 : goal.left-requires-else-place-backwards-eq0
left-requires-else-place-backwards-eq0 i c =
    let b = c.border_tri-above.ensures in
    let e = above-coarse c.border_tri-above.result c.args.place b.big b.border b.place c.requires.place.1 in
    let next = c.right-else-place-backwards-eq0.ensures.level in omega arith
