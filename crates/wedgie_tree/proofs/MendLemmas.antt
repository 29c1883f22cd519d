-- Mending the table: which entries are right after a change of heights, and what the walk may leave out.
use Rattle.std.proofs.Common.{◌≡◌, ℕ, zero, suc, ◌+◌, ◌*◌, ◌^◌, ◌<◌, ◌≤◌, true, List, sym, arith, subst, slice_index_or}
use Rattle.mesh_defs.specs.declared.point.Corners.{Corners}
use Rattle.mesh_defs.specs.HeightField.{HeightField, height_at}
use Rattle.mesh_defs.specs.State.{Area, is_in_area}
use Rattle.mesh_defs.specs.Triangle.{level_of, corners_of, IsSplittable}
use Rattle.wedgie_tree.specs.declared.wedge.Wedge.{Wedge}
use Rattle.wedgie_tree.specs.Table.{HasEntry, AllUnder, IsTable, IsRightOff, IsInTable, kept_levels}
use Rattle.bintree_laws.specs.Areas.{MeetsArea, IsInRectangle}
use Rattle.wedgie_tree.specs.Edits.{IsClearOf, area_between}
use Rattle.wedgie_tree.proofs.AreaLemmas.{AddressLaws}
use Rattle.bintree_laws.proofs.AreaLemmas.{made-area}
use Rattle.wedgie_tree.proofs.EditLemmas.{IsInRectangle-held, held-x, held-y, held-left, held-right, IsWedge-same}

-- a triangle whose rectangle shares no point with the area holds none of its points
pub IsClearOf-apart : AddressLaws → (n a : ℕ) (area : Area) (c : Corners) → c ≡ corners_of n a →
    2 ≤ a → level_of a ≤ 2 * n →
    (MeetsArea c area → ⊥) → IsClearOf n area a
IsClearOf-apart laws n a area c is some fits apart = λ r held in_area.
    let within : IsInRectangle (corners_of n a) r = IsInRectangle-held laws n a r some fits held in
    let P : Corners → Type 0 = λ d. IsInRectangle d r in
    apart (r, record { in_rectangle = subst P (sym is) within; in_area = in_area })

-- a kept triangle is splittable
IsSplittable-kept : (n a : ℕ) → IsInTable n a → IsSplittable n a
IsSplittable-kept n a kept = record { low = kept.low; coarse = omega (arith, kept.coarse) }

-- where a triangle holds no point of the area, all entries under it are right
pub AllUnder-clear : AddressLaws → (g : HeightField) (area : Area) (table : List Wedge) → IsRightOff g area table →
    (levels a : ℕ) → 2 ≤ a → level_of a + levels ≤ kept_levels g.n → IsClearOf g.n area a →
    AllUnder levels (HasEntry g table) a
AllUnder-clear laws g area table right zero a some level clear = tt
AllUnder-clear laws g area table right (suc levels) a some level clear =
    let kept : IsInTable g.n a = record { low = some; coarse = omega arith } in
    let split : IsSplittable g.n a = IsSplittable-kept g.n a kept in (
      right a kept clear,
      AllUnder-clear laws g area table right levels (2 * a) (omega arith) (omega (arith, laws.left a some))
          (λ r held. clear r (held-left laws g.n a split r held)),
      AllUnder-clear laws g area table right levels (2 * a + 1) (omega arith) (omega (arith, laws.right a some))
          (λ r held. clear r (held-right laws g.n a split r held)),
    )

-- entries that are right stay right along a walk
pub IsRightOff-kept : (g : HeightField) (area : Area) (one two : List Wedge) →
    ((a : ℕ) → HasEntry g one a → HasEntry g two a) →
    IsRightOff g area one → IsRightOff g area two
IsRightOff-kept g area one two keeps right = λ a kept clear. keeps a (right a kept clear)

-- after heights of an area changed, the entries of the triangles that hold none of its points are right
pub IsRightOff-edited : AddressLaws → (g h : HeightField) (area : Area) (table : List Wedge) →
    g.n ≡ h.n → IsTable g table →
    ((i j : ℕ) → i ≤ 2 ^ g.n → j ≤ 2 ^ g.n → (is_in_area area i j ≡ true → ⊥) →
    height_at g.n h.heights i j ≡ height_at g.n g.heights i j) → IsRightOff h area table
IsRightOff-edited laws g h area table same right others = λ a kept clear d.
    let some : 2 ≤ a = kept.low in
    let coarse : level_of a < kept_levels h.n = kept.coarse in
    let fits : level_of a ≤ 2 * g.n = omega (arith, same) in
    let before : IsInTable g.n a = record { low = some; coarse = omega (arith, same) } in
    let Clear : ℕ → Type 0 = λ n. IsClearOf n area a in
    let free : IsClearOf g.n area a = subst Clear (sym same) clear in
    IsWedge-same laws g h a (slice_index_or table a d) same some fits
    (λ r held.
    sym (others r.x r.y (held-x laws g.n a r some fits held) (held-y laws g.n a r some fits held) (free r held)))
    (right.each a before d)

-- after one height was set
pub IsRightOff-set : AddressLaws → (g h : HeightField) (area : Area) (one two : List Wedge) (x y : ℕ) →
    area ≡ area_between x y x y →
    two ≡ one → h.n ≡ g.n → IsTable g one → ((i j : ℕ) → i ≤ 2 ^ g.n → j ≤ 2 ^ g.n → (i ≡ x → j ≡ y → ⊥) →
    height_at g.n h.heights i j ≡ height_at g.n g.heights i j) → IsRightOff h area two
IsRightOff-set laws g h area one two x y is same_table same right others =
    let At : Area → Type 0 = λ a. IsRightOff h a two in
    let Of : List Wedge → Type 0 = λ t. IsRightOff h (area_between x y x y) t in
    subst At (sym is) (subst Of (sym same_table) (IsRightOff-edited laws g h (area_between x y x y) one (sym same) right
    (λ i j i_in j_in out. others i j i_in j_in (λ at_x at_y. out (made-area (area_between x y x y) i j
    (record { left = omega arith; right = omega arith; bottom = omega arith; top = omega arith }))))))

-- the same after a row was put
pub IsRightOff-row : AddressLaws → (g h : HeightField) (area : Area) (one two : List Wedge) (x y count last : ℕ) →
    area ≡ area_between x y last y → last + 1 ≡ x + count → two ≡ one → h.n ≡ g.n → IsTable g one →
    ((i j : ℕ) → i ≤ 2 ^ g.n → j ≤ 2 ^ g.n → (j ≡ y → x ≤ i → i < x + count → ⊥) →
    height_at g.n h.heights i j ≡ height_at g.n g.heights i j) → IsRightOff h area two
IsRightOff-row laws g h area one two x y count last is ends same_table same right others =
    let At : Area → Type 0 = λ a. IsRightOff h a two in
    let Of : List Wedge → Type 0 = λ t. IsRightOff h (area_between x y last y) t in
    subst At (sym is)
    (subst Of (sym same_table) (IsRightOff-edited laws g h (area_between x y last y) one (sym same) right
    (λ i j i_in j_in out. others i j i_in j_in (λ at_y from to. out (made-area (area_between x y last y) i j
    (record { left = omega arith; right = omega arith; bottom = omega arith; top = omega arith }))))))

-- the same after an area was raised
pub IsRightOff-area : AddressLaws → (g h : HeightField) (area : Area) (one two : List Wedge) → two ≡ one → h.n ≡ g.n →
    IsTable g one → ((i j : ℕ) → i ≤ 2 ^ g.n → j ≤ 2 ^ g.n → (is_in_area area i j ≡ true → ⊥) →
    height_at g.n h.heights i j ≡ height_at g.n g.heights i j) → IsRightOff h area two
IsRightOff-area laws g h area one two same_table same right others =
    let Of : List Wedge → Type 0 = λ t. IsRightOff h area t in
    subst Of (sym same_table) (IsRightOff-edited laws g h area one (sym same) right others)
