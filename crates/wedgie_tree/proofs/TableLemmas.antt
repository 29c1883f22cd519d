-- Filling the table: what is right stays right, and what was filled under both children is filled.
use Rattle.std.proofs.Common.{◌≡◌, ◌≢◌, ℕ, zero, suc, ◌+◌, ◌-◌, ◌*◌, ◌/◌, ◌^◌, ◌<◌, ◌≤◌, List, length, set, refl, sym}
use Rattle.std.proofs.Common.{arith, ⊎_elim, subst, get_or-set_other, get_or-set_same}
use Rattle.std.proofs.lemmas.Bool.{cases_eq}
use Rattle.mesh_defs.specs.HeightField.{HeightField, IsHeightField}
use Rattle.mesh_defs.specs.Triangle.{level_of}
use Rattle.wedgie_tree.specs.declared.wedge.Wedge.{Wedge}
use Rattle.wedgie_tree.specs.Table.{IsWedge, HasEntry, AllUnder, IsTable, kept_levels}
use Rattle.bintree_laws.proofs.LevelLemmas.{left-or-right}
use Rattle.wedgie_tree.proofs.AreaLemmas.{AddressLaws, coarsest, deeper}

-- the entry that was written
HasEntry-written : (g : HeightField) (table : List Wedge) (i : ℕ) (w : Wedge) → i < length table → IsWedge g i w →
    HasEntry g (set table i w) i
HasEntry-written g table i w fits right d = rw get_or-set_same right

-- entries that are right stay right
pub HasEntry-set : (g : HeightField) (table : List Wedge) (i : ℕ) (w : Wedge) → i < length table → IsWedge g i w →
    (a : ℕ) → HasEntry g table a → HasEntry g (set table i w) a
HasEntry-set g table i w fits right a has = ⊎_elim {C = HasEntry g (set table i w) a}
    (λ same. let P : ℕ → Type 0 = λ b. HasEntry g (set table i w) b in
    subst P (sym same) (HasEntry-written g table i w fits right))
    (λ other. λ d. let apart : a ≢ i = other in rw get_or-set_other (has d))
    (cases_eq a i)

AllUnder-map : (levels : ℕ) (P Q : ℕ → Type 0) → ((a : ℕ) → P a → Q a) → (a : ℕ) → AllUnder levels P a →
    AllUnder levels Q a
AllUnder-map zero P Q h a all = tt
AllUnder-map (suc levels) P Q h a all =
    (h a all.0, AllUnder-map levels P Q h (2 * a) all.1, AllUnder-map levels P Q h (2 * a + 1) all.2)

-- the entries of both children and their descendants, and then the own entry
pub AllUnder-filled : (g : HeightField) (kept a left right i : ℕ) (one two : List Wedge) (w : Wedge) → left ≡ 2 * a →
    right ≡ 2 * a + 1 → level_of left ≡ level_of a + 1 → level_of right ≡ level_of a + 1 → level_of a < kept →
    AllUnder (kept - level_of left) (HasEntry g one) left → ((b : ℕ) → HasEntry g one b → HasEntry g two b) →
    AllUnder (kept - level_of right) (HasEntry g two) right → i ≡ a → i < length two → IsWedge g a w →
    AllUnder (kept - level_of a) (HasEntry g (set two i w)) a
AllUnder-filled g kept a left right i one two w is_left is_right level_left level_right coarse under_left stays
    under_right is fits wedge =
    let levels : ℕ = kept - (level_of a + 1) in
    let own : kept - level_of a ≡ suc levels = omega arith in
    let Own : ℕ → Type 0 = λ b. IsWedge g b w in
    let here : IsWedge g i w = subst Own (sym is) wedge in
    let Entry : ℕ → Type 0 = HasEntry g (set two i w) in
    let later : (b : ℕ) → HasEntry g two b → Entry b = HasEntry-set g two i w fits here in
    let Left : ℕ → ℕ → Type 0 = λ k b. AllUnder k (HasEntry g one) b in
    let one_left : AllUnder levels (HasEntry g one) (2 * a) =
    rw (level_left, is_left) at under_left in
    let two_right : AllUnder levels (HasEntry g two) (2 * a + 1) =
    rw (level_right, is_right) at under_right in
    let own_entry : Entry a = subst Entry is (HasEntry-written g two i w fits here) in
    rw own (
      own_entry,
      AllUnder-map levels (HasEntry g one) Entry (λ b h. later b (stays b h)) (2 * a) one_left,
      AllUnder-map levels (HasEntry g two) Entry later (2 * a + 1) two_right,
    )

-- ---- from the bases down to each splittable triangle

AllUnder-reach : AddressLaws → (kept : ℕ) (P : ℕ → Type 0) → AllUnder kept P 2 → AllUnder kept P 3 → (level a : ℕ) →
    2 ≤ a → level_of a ≡ level → level < kept → AllUnder (kept - level) P a
AllUnder-reach laws kept P two three zero a low is coarse =
    let first : a < 4 = coarsest laws a low is in
    let all : kept - 0 ≡ kept = omega arith in
    rw all (⊎_elim {C = AllUnder kept P a}
    (λ same. let Q : ℕ → Type 0 = λ b. AllUnder kept P b in subst Q (sym same) two)
    (λ other. let same : a ≡ 3 = omega arith in
    let Q : ℕ → Type 0 = λ b. AllUnder kept P b in subst Q (sym same) three)
    (cases_eq a 2))
AllUnder-reach laws kept P two three (suc level) a low is coarse =
    let four : 4 ≤ a = deeper laws a level low is in
    let above : AllUnder (kept - level) P (a / 2) = AllUnder-reach laws kept P two three level (a / 2) (omega arith)
    (omega (arith, laws.parent a four)) (omega arith) in
    let more : kept - level ≡ suc (kept - suc level) = omega arith in
    let Levels : ℕ → Type 0 = λ k. AllUnder k P (a / 2) in
    let parts : AllUnder (suc (kept - suc level)) P (a / 2) = subst Levels more above in
    let Q : ℕ → Type 0 = λ b. AllUnder (kept - suc level) P b in
    ⊎_elim {C = AllUnder (kept - suc level) P a}
    (λ e. subst Q (sym e) parts.1) (λ e. subst Q (sym e) parts.2) (left-or-right a)

-- what holds under both bases holds of each triangle of the levels above
pub AllUnder-each : AddressLaws → (kept : ℕ) (P : ℕ → Type 0) → AllUnder kept P 2 → AllUnder kept P 3 → (a : ℕ) →
    2 ≤ a → level_of a < kept → P a
AllUnder-each laws kept P two three a low coarse =
    let reached : AllUnder (kept - level_of a) P a =
    AllUnder-reach laws kept P two three (level_of a) a low refl coarse in
    let more : kept - level_of a ≡ suc (kept - suc (level_of a)) = omega arith in
    let Levels : ℕ → Type 0 = λ k. AllUnder k P a in
    let parts : AllUnder (suc (kept - suc (level_of a))) P a = subst Levels more reached in
    parts.0

-- a table that was filled under the lower base and then under the upper one
pub IsTable-filled : AddressLaws → (g : HeightField) (lower upper : ℕ) (one two : List Wedge) → lower ≡ 2 → upper ≡ 3 →
    level_of lower ≡ 0 → level_of upper ≡ 0 → AllUnder (kept_levels g.n - level_of lower) (HasEntry g one) lower →
    ((b : ℕ) → HasEntry g one b → HasEntry g two b) →
    AllUnder (kept_levels g.n - level_of upper) (HasEntry g two) upper →
    IsHeightField g → length two ≡ 2 ^ (kept_levels g.n + 1) → IsTable g two
IsTable-filled laws g lower upper one two is_2 is_3 lower_level upper_level under_lower stays under_upper valid count =
    let all : kept_levels g.n - 0 ≡ kept_levels g.n = omega arith in
    let one_lower : AllUnder (kept_levels g.n) (HasEntry g one) 2 = rw (lower_level, all, is_2) at under_lower in
    let two_upper : AllUnder (kept_levels g.n) (HasEntry g two) 3 = rw (upper_level, all, is_3) at under_upper in
    let two_lower : AllUnder (kept_levels g.n) (HasEntry g two) 2 =
    AllUnder-map (kept_levels g.n) (HasEntry g one) (HasEntry g two) stays 2 one_lower in
    record {
      valid = valid;
      count = count;
      each = λ a kept. AllUnder-each laws (kept_levels g.n) (HasEntry g two) two_lower two_upper a kept.low kept.coarse;
    }
