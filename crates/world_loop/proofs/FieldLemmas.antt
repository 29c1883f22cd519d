-- The wedge of a triangle of a height field that is known everywhere: its thickness, least and greatest height.
use Rattle.std.proofs.Common.{◌≡◌, ℕ, zero, suc, ◌+◌, ◌-◌, ◌*◌, ◌≤◌, min, max, true, List, refl, sym, ◌∙◌, ap₂, arith}
use Rattle.mesh_defs.specs.Triangle.{level_of, corners_of, IsSplittable}
use Rattle.mesh_defs.specs.Thickness.{height_of, deviation, thickness_of}
use Rattle.mesh_defs.specs.BoundingBox.{low_of, high_of, least_of_3, greatest_of_3}
use Rattle.bintree_laws.proofs.LevelLemmas.{level_of-left, level_of-right}
use Rattle.page_laws.specs.Loaded.{joined_wedge, known_wedge}
use Rattle.page_laws.specs.declared.wedge.KnownWedge.{KnownWedge}
use Rattle.page_laws.proofs.LoadedLemmas.{wedge-finest, wedge-known}

-- what holds of thickness and heights, as `wedge_laws` of `wedgie_tree` says
pub record WedgeLaws : Type 0 where
  pub finest_thickness : (n : ℕ) (heights : List ℕ) (a : ℕ) → level_of a ≡ 2 * n → thickness_of n heights a ≡ 0
  pub finest_low : (n : ℕ) (heights : List ℕ) (a : ℕ) → 2 ≤ a → level_of a ≡ 2 * n →
      low_of n heights a ≡ least_of_3 (height_of n heights (corners_of n a).apex)
      (height_of n heights (corners_of n a).v0) (height_of n heights (corners_of n a).v1)
  pub finest_high : (n : ℕ) (heights : List ℕ) (a : ℕ) → 2 ≤ a → level_of a ≡ 2 * n →
      high_of n heights a ≡ greatest_of_3 (height_of n heights (corners_of n a).apex)
      (height_of n heights (corners_of n a).v0) (height_of n heights (corners_of n a).v1)
  pub thickness : (n : ℕ) (heights : List ℕ) (a : ℕ) → IsSplittable n a →
      thickness_of n heights a ≡ max (thickness_of n heights (2 * a)) (thickness_of n heights (2 * a + 1))
      + deviation n heights (corners_of n a)
  pub low : (n : ℕ) (heights : List ℕ) (a : ℕ) → IsSplittable n a →
      low_of n heights a ≡ min (low_of n heights (2 * a)) (low_of n heights (2 * a + 1))
  pub high : (n : ℕ) (heights : List ℕ) (a : ℕ) → IsSplittable n a →
      high_of n heights a ≡ max (high_of n heights (2 * a)) (high_of n heights (2 * a + 1))

-- these three as a wedge
abbrev pub field_wedge : ℕ → List ℕ → ℕ → KnownWedge
field_wedge n heights a = record {
  thickness = thickness_of n heights a;
  low = low_of n heights a;
  high = high_of n heights a;
}

-- equal parts make equal wedges
pub same_wedge : (i j k l m o : ℕ) → i ≡ l → j ≡ m → k ≡ o →
    ◌≡◌ {A = KnownWedge} (record { thickness = i; low = j; high = k }) (record { thickness = l; low = m; high = o })
same_wedge i j k l m o e f g = rw (e, f, g) refl

own-under : WedgeLaws → (levels n : ℕ) (heights : List ℕ) (a : ℕ) → 2 ≤ a → level_of a + levels ≡ 2 * n →
    known_wedge n (height_of n heights) (λ b. true) a ≡ field_wedge n heights a
own-under laws zero n heights a low fits =
    let finest : level_of a ≡ 2 * n = omega arith in
    wedge-finest n (height_of n heights) (λ b. true) a finest
    ∙ sym (same_wedge (thickness_of n heights a) (low_of n heights a) (high_of n heights a) 0
    (least_of_3 (height_of n heights (corners_of n a).apex) (height_of n heights (corners_of n a).v0)
    (height_of n heights (corners_of n a).v1))
    (greatest_of_3 (height_of n heights (corners_of n a).apex) (height_of n heights (corners_of n a).v0)
    (height_of n heights (corners_of n a).v1))
    (laws.finest_thickness n heights a finest) (laws.finest_low n heights a low finest)
    (laws.finest_high n heights a low finest))
own-under laws (suc levels) n heights a low fits =
    let split : IsSplittable n a = record { low = low; coarse = omega arith } in
    let l = level_of-left a low in
    let r = level_of-right a low in
    wedge-known n (height_of n heights) (λ b. true) a split refl
    ∙ ap₂ (joined_wedge (height_of n heights) (corners_of n a))
    (own-under laws levels n heights (2 * a) (omega arith) (omega arith))
    (own-under laws levels n heights (2 * a + 1) (omega arith) (omega arith))
    ∙ sym (same_wedge (thickness_of n heights a) (low_of n heights a) (high_of n heights a)
    (max (thickness_of n heights (2 * a)) (thickness_of n heights (2 * a + 1)) + deviation n heights (corners_of n a))
    (min (low_of n heights (2 * a)) (low_of n heights (2 * a + 1)))
    (max (high_of n heights (2 * a)) (high_of n heights (2 * a + 1)))
    (laws.thickness n heights a split) (laws.low n heights a split) (laws.high n heights a split))

-- the wedge of a triangle of the field
pub own-field : WedgeLaws → (n : ℕ) (heights : List ℕ) (a : ℕ) → 2 ≤ a → level_of a ≤ 2 * n →
    known_wedge n (height_of n heights) (λ b. true) a ≡ field_wedge n heights a
own-field laws n heights a low fits = own-under laws (2 * n - level_of a) n heights a low (omega arith)
