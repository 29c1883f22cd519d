-- A terrain of which all pages of the finest resolution are loaded: all is known, and the priorities are those of the
-- height field.
use Rattle.std.proofs.Common.{◌≡◌, ℕ, zero, suc, ◌+◌, ◌-◌, ◌*◌, ◌/◌, ◌^◌, ◌<◌, ◌≤◌, Bool, true, false, IsTrue, List, cond, pos}
use Rattle.std.proofs.Common.{refl, sym, ◌∙◌, ap, ap₂, subst, arith, ⊎_elim}
use Rattle.std.proofs.lemmas.Bool.{cases_Bool, cases_lt}
use Rattle.mesh_defs.specs.declared.point.Corners.{Corners}
use Rattle.mesh_defs.specs.Triangle.{level_of, corners_of, IsAddress, IsSplittable, IsMate}
use Rattle.mesh_defs.specs.Thickness.{height_of}
use Rattle.mesh_defs.specs.BoundingBox.{BoundingBox, box_of, distance_of, least_of_3, greatest_of_3}
use Rattle.mesh_defs.specs.View.{View, mark_of}
use Rattle.mesh_defs.specs.Priority.{above, seen_ratio, priority_of}
use Rattle.bintree_laws.proofs.LevelLemmas.{level_of-left, level_of-right, level-le}
use Rattle.mosaic_laws.specs.Tile.{IsTile}
use Rattle.page_laws.specs.declared.wedge.KnownWedge.{KnownWedge}
use Rattle.page_laws.specs.Opened.{with_known_mate}
use Rattle.page_laws.specs.Pages.{Pages, cuts_to, is_known, IsPyramid}
use Rattle.page_laws.specs.Loaded.{joined_wedge, known_wedge_under, known_wedge, known_box, known_priority}
use Rattle.page_laws.specs.Loaded.{AreLoadedHeights}
use Rattle.page_laws.proofs.LoadedLemmas.{under-known, wedge-heights}
use Rattle.page_laws.proofs.OpenLemmas.{mate-parts, mate-from}
use Rattle.page_laws.proofs.PyramidLemmas.{known-page, known-splittable, parent-known, square-tile}
use Rattle.world_loop.proofs.FieldLemmas.{WedgeLaws, field_wedge, own-field}
use Rattle.page_priority.specs.Loaded.{LoadedState, is_open, loaded_priority}
use Rattle.world_loop.specs.World.{AreAllLoaded}

-- ---- all is known

module _ (w : Pages) (s : IsPyramid w) (all : AreAllLoaded w) where
  -- a triangle that is so many levels above the finest pages, or in one
  known-above-pages : (levels x : ℕ) → 2 ≤ x → level_of x + levels ≡ 2 * cuts_to w 0 → IsTrue (is_known w x)
  known-above-pages zero x low fits =
      let some = s.some in
      known-page w 0 x low (omega arith) record {
        first = omega arith;
        last = omega arith;
        page = all _ (square-tile w s 0 x low (omega arith));
      }
  known-above-pages (suc levels) x low fits =
      let l = level_of-left x low in
      let half : 2 * x / 2 ≡ x = omega arith in
      subst (λ z. IsTrue (is_known w z)) half
      (parent-known w s (2 * x) (known-above-pages levels (2 * x) (omega arith) (omega arith)) (omega arith))

  known-everywhere : (x : ℕ) → IsSplittable w.large x → IsTrue (is_known w x)
  known-everywhere x split =
      let some = s.some in
      let fits = s.fits in
      let coarse = split.coarse in
      ⊎_elim
      (λ (less : level_of x < 2 * cuts_to w 0).
      known-above-pages (2 * cuts_to w 0 - level_of x) x split.low (omega arith))
      (λ (more : 2 * cuts_to w 0 ≤ level_of x).
      known-page w 0 x split.low (omega arith) record {
        first = more;
        last = omega arith;
        page = all _ (square-tile w s 0 x split.low more);
      })
      (cases_lt (level_of x) (2 * cuts_to w 0))

  open-everywhere : (x : ℕ) → IsSplittable w.large x → IsTrue (with_known_mate (is_known w) x)
  open-everywhere x split = mate-from (is_known w) x w.large split (known-everywhere x split)
      (λ b mate.
      let level = mate.level in
      let coarse = split.coarse in
      known-everywhere b record { low = mate.address.low; coarse = omega arith })

-- ---- the wedges

-- what is known beyond the finest triangles does not matter
under-splittable : (levels n : ℕ) (height : _) (known : ℕ → Bool) (a : ℕ) → 2 ≤ a → level_of a + levels ≡ 2 * n →
    ((b : ℕ) → IsSplittable n b → IsTrue (known b)) →
    known_wedge_under levels n height known a ≡ known_wedge_under levels n height (λ b. true) a
under-splittable zero n height known a low fits all = refl
under-splittable (suc levels) n height known a low fits all =
    let l = level_of-left a low in
    let r = level_of-right a low in
    under-known n height known levels a (all a record { low = low; coarse = omega arith })
    ∙ ap₂ (joined_wedge height (corners_of n a))
    (under-splittable levels n height known (2 * a) (omega arith) (omega arith) all)
    (under-splittable levels n height known (2 * a + 1) (omega arith) (omega arith) all)
    ∙ sym (under-known n height (λ b. true) levels a refl)

wedge-everywhere : (n : ℕ) (height : _) (known : ℕ → Bool) (a : ℕ) → 2 ≤ a → level_of a ≤ 2 * n →
    ((b : ℕ) → IsSplittable n b → IsTrue (known b)) →
    known_wedge n height known a ≡ known_wedge n height (λ b. true) a
unfolding known_wedge
wedge-everywhere n height known a low fits all =
    under-splittable (2 * n - level_of a) n height known a low (omega arith) all

-- ---- the priorities

-- by a wedge
abbrev wedge_priority : ℕ → View → ℕ → KnownWedge → ℕ
wedge_priority n view a k =
    let c : Corners = corners_of n a in
    let box : BoundingBox = record {
      x0 = pos (view.spacing * least_of_3 c.apex.x c.v0.x c.v1.x);
      x1 = pos (view.spacing * greatest_of_3 c.apex.x c.v0.x c.v1.x);
      y0 = pos (view.spacing * least_of_3 c.apex.y c.v0.y c.v1.y);
      y1 = pos (view.spacing * greatest_of_3 c.apex.y c.v0.y c.v1.y);
      z0 = pos k.low;
      z1 = pos k.high;
    } in
    above view.threshold (seen_ratio (mark_of view.planes box) k.thickness (distance_of box view.camera))

known-wedge_priority : (n : ℕ) (height : _) (known : ℕ → Bool) (view : View) (a : ℕ) →
    known_priority n height known view a ≡ wedge_priority n view a (known_wedge n height known a)
unfolding known_priority known_box
known-wedge_priority n height known view a = refl

field-wedge_priority : (n : ℕ) (heights : List ℕ) (view : View) (a : ℕ) →
    wedge_priority n view a (field_wedge n heights a) ≡ priority_of n heights view a
unfolding priority_of box_of
field-wedge_priority n heights view a = refl

pub whole-priority : WedgeLaws → (s : LoadedState) (heights : List ℕ) (a : ℕ) → IsPyramid s.pages →
    AreAllLoaded s.pages → AreLoadedHeights s.pages s.height heights → IsAddress s.pages.large a →
    (level_of a ≡ 2 * s.pages.large → priority_of s.pages.large heights s.view a ≡ 0) →
    loaded_priority s a ≡ priority_of s.pages.large heights s.view a
whole-priority laws s heights a pyramid all agree address finest =
    let n : ℕ = s.pages.large in
    let fits = level-le n a address in
    ⊎_elim
    (λ (coarse : level_of a < 2 * n).
    let split : IsSplittable n a = record { low = address.low; coarse = coarse } in
    ap (λ b. cond b (known_priority n s.height (is_known s.pages) s.view a) 0) (open-everywhere s.pages pyramid all a split)
    ∙ known-wedge_priority n s.height (is_known s.pages) s.view a
    ∙ ap (wedge_priority n s.view a)
    (sym (wedge-heights s.pages pyramid (height_of n heights) s.height agree a (known-everywhere s.pages pyramid all a split))
    ∙ wedge-everywhere n (height_of n heights) (is_known s.pages) a address.low fits (known-everywhere s.pages pyramid all)
    ∙ own-field laws n heights a address.low fits)
    ∙ field-wedge_priority n heights s.view a)
    (λ (last : 2 * n ≤ level_of a). ⊎_elim
    (λ (is : is_open s a ≡ true).
    let split = known-splittable s.pages pyramid a (mate-parts (is_known s.pages) a is) in
    let coarse = split.coarse in
    absurd (omega arith))
    (λ (not : is_open s a ≡ false).
    ap (λ b. cond b (known_priority n s.height (is_known s.pages) s.view a) 0) not ∙ sym (finest (omega arith)))
    (cases_Bool (is_open s a)))
    (cases_lt (level_of a) (2 * n))
