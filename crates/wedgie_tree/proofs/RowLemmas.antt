-- Changes of heights a point and a row at a time: what stands after some of the steps.
use Rattle.std.proofs.Common.{◌≡◌, ℕ, ◌+◌, ◌-◌, ◌*◌, ◌^◌, ◌<◌, ◌≤◌, true, List, map, length, get_or, slice_index, All}
use Rattle.std.proofs.Common.{◌++◌, ◌∷◌, [], ℤ, pos, negsuc, ◌+ℤ◌, refl, sym, ap, ◌∙◌, arith, ⊎_elim, subst}
use Rattle.std.proofs.lemmas.Bool.{cases_lt, cases_eq}
use Rattle.std.proofs.Math.Pow.{pow_mono}
use Rattle.std.proofs.lemmas.Int.{ints}
use Rattle.std.proofs.lemmas.List.Elements.{All-push}
use Rattle.std.proofs.lemmas.List.{length-map, get_or-map, length-append, get_or_append_left, get_or-append-add}
use Rattle.mesh_defs.specs.HeightField.{HeightField, IsHeightField, side_of, height_at}
use Rattle.mesh_defs.specs.State.{Area, is_in_area, clamped, raised_heights}
use Rattle.roam_lanes.specs.Raising.{raised, brought_into}
use Rattle.wedgie_tree.specs.Edits.{with_row}
use Rattle.bintree_laws.proofs.AreaLemmas.{IsBetweenEnds, read-area, made-area}
use Rattle.wedgie_tree.proofs.PointLemmas.{with_row-by_points, raised-by_points}

-- a height field by its parts
same-field : (g h : HeightField) (heights : List ℕ) → h.n ≡ g.n → h.maxval ≡ g.maxval → h.heights ≡ heights →
    h ≡ record g { heights = heights }
same-field g h heights n maxval same =
    ap (λ i. let f : HeightField = record { n = i; maxval = h.maxval; heights = h.heights } in f) n
    ∙ ap (λ i. let f : HeightField = record { n = g.n; maxval = i; heights = h.heights } in f) maxval
    ∙ ap (λ i. let f : HeightField = record { n = g.n; maxval = g.maxval; heights = i } in f) same

-- ---- a row that is put

-- h is g with the first k heights of a row from (x, y) to the right
pub record IsPutSoFar (g : HeightField) (x y : ℕ) (row : List ℕ) (k : ℕ) (h : HeightField) : Type 0 where
  pub n : h.n ≡ g.n
  pub maxval : h.maxval ≡ g.maxval
  pub valid : IsHeightField h
  pub there : (i : ℕ) → i < k → height_at g.n h.heights (x + i) y ≡ slice_index row i
  pub others : (i j : ℕ) → i ≤ 2 ^ g.n → j ≤ 2 ^ g.n → (j ≡ y → x ≤ i → i < x + k → ⊥) →
      height_at g.n h.heights i j ≡ height_at g.n g.heights i j

-- before any height of the row is set, the height field is as it was
pub IsPutSoFar-none : (g : HeightField) (x y : ℕ) (samples : List ℕ) → IsHeightField g → IsPutSoFar g x y samples 0 g
IsPutSoFar-none g x y samples valid = record {
  n = refl;
  maxval = refl;
  valid = valid;
  there = λ i lt. absurd (omega arith);
  others = λ i j i_in j_in out. refl;
}

-- if the next height of the row is set and no other height changes, one more of the row stands
pub IsPutSoFar-next : (g : HeightField) (x y : ℕ) (row : List ℕ) (k : ℕ) (h next : HeightField) → k < length row →
    x + length row ≤ 2 ^ g.n + 1 → y ≤ 2 ^ g.n → IsPutSoFar g x y row k h → next.n ≡ h.n →
    next.maxval ≡ h.maxval → IsHeightField next →
    height_at h.n next.heights (x + k) y ≡ slice_index row k →
    ((i j : ℕ) → i ≤ 2 ^ h.n → j ≤ 2 ^ h.n → (i ≡ x + k → j ≡ y → ⊥) →
    height_at h.n next.heights i j ≡ height_at h.n h.heights i j) → IsPutSoFar g x y row (k + 1) next
IsPutSoFar-next g x y row k h next more fits y_in so_far same_n same_maxval valid here others =
    let N : ℕ → Type 0 = λ n. height_at n next.heights (x + k) y ≡ slice_index row k in
    let here_g : height_at g.n next.heights (x + k) y ≡ slice_index row k = subst N so_far.n here in
    let Others : ℕ → Type 0 = λ n. (i j : ℕ) → i ≤ 2 ^ n → j ≤ 2 ^ n → (i ≡ x + k → j ≡ y → ⊥) →
    height_at n next.heights i j ≡ height_at n h.heights i j in
    let others_g : Others g.n = subst Others so_far.n others in
    record {
      n = same_n ∙ so_far.n;
      maxval = same_maxval ∙ so_far.maxval;
      valid = valid;
      there = λ i lt. ⊎_elim {C = height_at g.n next.heights (x + i) y ≡ slice_index row i}
          (λ same. let At : ℕ → Type 0 = λ u. height_at g.n next.heights (x + u) y ≡ slice_index row u in
          subst At (sym same) here_g)
          (λ other. others_g (x + i) y (omega arith) y_in (λ e f. other (omega arith))
          ∙ so_far.there i (let apart : i ≡ k → ⊥ = other in omega arith))
          (cases_eq i k);
      others = λ i j i_in j_in out. others_g i j i_in j_in (λ e f. out f (omega arith) (omega arith))
          ∙ so_far.others i j i_in j_in (λ f from to. out f from (omega arith));
    }

-- the whole row
pub IsPutSoFar-all : (g : HeightField) (x y : ℕ) (row : List ℕ) (k : ℕ) (h : HeightField) → k ≡ length row →
    x + length row ≤ 2 ^ g.n + 1 → IsHeightField g → IsPutSoFar g x y row k h →
    h ≡ record g { heights = with_row g x y row }
IsPutSoFar-all g x y row k h is fits valid so_far =
    let Count : ℕ → Type 0 = λ n. length h.heights ≡ side_of n * side_of n in
    let count : length h.heights ≡ side_of g.n * side_of g.n = subst Count so_far.n so_far.valid.count in
    let heights : h.heights ≡ with_row g x y row =
    with_row-by_points g x y row h.heights valid fits count (λ i lt. so_far.there i (omega arith))
    (λ i j i_in j_in out. so_far.others i j i_in j_in (λ f from to. out f from (omega arith))) in
    same-field g h _ so_far.n so_far.maxval heights

-- ---- a row that is read

-- the heights of row y from column x0 on
pub record IsReadSoFar (g : HeightField) (x0 y : ℕ) (row : List ℕ) (x : ℕ) : Type 0 where
  pub count : x0 + length row ≡ x
  pub each : (k : ℕ) → k < length row → slice_index row k ≡ height_at g.n g.heights (x0 + k) y
  pub bounded : All (λ h. h ≤ g.maxval) row

-- an empty row is what stands before the first column is read
pub IsReadSoFar-none : (g : HeightField) (x0 y : ℕ) (row : List ℕ) → row ≡ [] → IsReadSoFar g x0 y row x0
IsReadSoFar-none g x0 y row none =
    let P : List ℕ → Type 0 = λ r. IsReadSoFar g x0 y r x0 in
    subst P (sym none) (record {
      count = omega arith;
      each = λ k lt. absurd (omega arith);
      bounded = λ k d lt. absurd (omega arith);
    })

-- there is room for one more
pub IsReadSoFar-room : (g : HeightField) (x0 y : ℕ) (row : List ℕ) (x : ℕ) → g.n ≤ 14 → x ≤ 2 ^ g.n →
    IsReadSoFar g x0 y row x →
    length row < 16385
IsReadSoFar-room g x0 y row x small fits so_far =
    let most : 2 ^ g.n ≤ 2 ^ 14 = pow_mono small in
    let count : x0 + length row ≡ x = so_far.count in
    omega arith

-- if the height at the next column is put at the end of the row, one column more was read
pub IsReadSoFar-next : (g : HeightField) (x0 y : ℕ) (row next : List ℕ) (x h : ℕ) → next ≡ row ++ h ∷ [] →
    h ≡ height_at g.n g.heights x y → h ≤ g.maxval → IsReadSoFar g x0 y row x → IsReadSoFar g x0 y next (x + 1)
IsReadSoFar-next g x0 y row next x h is value small so_far =
    let count : x0 + length row ≡ x = so_far.count in
    let P : List ℕ → Type 0 = λ r. IsReadSoFar g x0 y r (x + 1) in
    subst P (sym is) (record {
      count = omega (arith, length-append row (h ∷ []));
      each = λ k lt. ⊎_elim {C = slice_index (row ++ h ∷ []) k ≡ height_at g.n g.heights (x0 + k) y}
          (λ before. get_or_append_left row (h ∷ []) 0 k before ∙ so_far.each k before)
          (λ past. let last : k ≡ length row = omega (arith, length-append row (h ∷ [])) in
          let past_all : length row + 0 ≡ length row = omega arith in
          let Last : ℕ → Type 0 = λ i. slice_index (row ++ h ∷ []) i ≡ h in
          let at-end : slice_index (row ++ h ∷ []) (length row) ≡ h =
          subst Last past_all (get_or-append-add row (h ∷ []) 0 0) in
          let At : ℕ → Type 0 = λ i. slice_index (row ++ h ∷ []) i ≡ height_at g.n g.heights (x0 + i) y in
          let X : ℕ → Type 0 = λ i. slice_index (row ++ h ∷ []) (length row) ≡ height_at g.n g.heights i y in
          subst At (sym last) (subst X (sym count) (at-end ∙ value)))
          (cases_lt k (length row));
      bounded = All-push (λ i. i ≤ g.maxval) row h so_far.bounded small;
    })

-- ---- a row that is raised

-- the two ways to bring a number into the bounds are one
pub brought_into-clamped : (maxval : ℕ) (v : ℤ) → brought_into maxval v ≡ clamped maxval v
brought_into-clamped maxval (pos k) = grind (arith, ints)
brought_into-clamped maxval (negsuc k) = refl

brought_into-le : (maxval : ℕ) (v : ℤ) → brought_into maxval v ≤ maxval
brought_into-le maxval (pos k) = omega arith
brought_into-le maxval (negsuc k) = omega arith

-- raised heights stay within the bound
pub raised-row-bounded : (maxval top : ℕ) (dz : ℤ) (row final : List ℕ) →
    final ≡ map (λ h. raised top dz h) row → top ≡ maxval →
    All (λ h. h ≤ maxval) final
raised-row-bounded maxval top dz row final is same =
    let P : List ℕ → Type 0 = λ r. All (λ h. h ≤ maxval) r in
    subst P (sym is) (λ k d lt.
    let fits : k < length row = omega (arith, length-map row (λ h. raised top dz h)) in
    let at : get_or (map (λ h. raised top dz h) row) k d ≡ raised top dz (get_or row k 0) =
    get_or-map (λ h. raised top dz h) row k 0 d fits in
    omega (arith, at, brought_into-le top (pos (get_or row k 0) +ℤ dz), same))

-- each height of the row, raised
pub raised-row-there : (n maxval x y top : ℕ) (dz : ℤ) (row final new : List ℕ) →
    final ≡ map (λ h. raised top dz h) row →
    top ≡ maxval → ((k : ℕ) → k < length final → height_at n new (x + k) y ≡ slice_index final k) →
    (k : ℕ) → k < length row →
    height_at n new (x + k) y ≡ clamped maxval (pos (slice_index row k) +ℤ dz)
raised-row-there n maxval x y top dz row final new is same there k fits =
    let in_final : k < length final = rw (is, length-map row (λ h. raised top dz h)) fits in
    let P : List ℕ → Type 0 = λ r. height_at n new (x + k) y ≡ slice_index r k in
    let value : height_at n new (x + k) y ≡ raised top dz (get_or row k 0) =
    subst P is (there k in_final) ∙ get_or-map (λ h. raised top dz h) row k 0 0 fits in
    let Clamped : ℕ → Type 0 = λ t. height_at n new (x + k) y ≡ clamped t (pos (slice_index row k) +ℤ dz) in
    subst Clamped same (value ∙ brought_into-clamped top (pos (get_or row k 0) +ℤ dz))

-- the same by the column of the point, for a row that was read there
pub raised-row-columns : (g : HeightField) (x0 x1 y : ℕ) (dz : ℤ) (row given new : List ℕ) → given ≡ row →
    x0 + length row ≡ x1 + 1 → ((k : ℕ) → k < length row → slice_index row k ≡ height_at g.n g.heights (x0 + k) y) →
    ((k : ℕ) → k < length given → height_at g.n new (x0 + k) y ≡ clamped g.maxval (pos (slice_index given k) +ℤ dz)) →
    (i : ℕ) → x0 ≤ i → i ≤ x1 → height_at g.n new i y ≡ clamped g.maxval (pos (height_at g.n g.heights i y) +ℤ dz)
raised-row-columns g x0 x1 y dz row given new is count each there i from to =
    let k : ℕ = i - x0 in
    let column : x0 + k ≡ i = omega arith in
    let fits : k < length row = omega arith in
    let There : List ℕ → Type 0 = λ r. (k : ℕ) → k < length r →
    height_at g.n new (x0 + k) y ≡ clamped g.maxval (pos (slice_index r k) +ℤ dz) in
    let At : ℕ → Type 0 = λ c. height_at g.n new c y ≡ clamped g.maxval (pos (height_at g.n g.heights c y) +ℤ dz) in
    subst At column (subst There is there k fits ∙ ap (λ h. clamped g.maxval (pos h +ℤ dz)) (each k fits))

-- ---- an area that is raised

-- h is g with the rows below y of the area raised
pub record IsRaisedSoFar (g : HeightField) (area : Area) (dz : ℤ) (y : ℕ) (h : HeightField) : Type 0 where
  pub n : h.n ≡ g.n
  pub maxval : h.maxval ≡ g.maxval
  pub valid : IsHeightField h
  pub inside : (i j : ℕ) → i ≤ 2 ^ g.n → j ≤ 2 ^ g.n → is_in_area area i j ≡ true → j < y →
      height_at g.n h.heights i j ≡ clamped g.maxval (pos (height_at g.n g.heights i j) +ℤ dz)
  pub outside : (i j : ℕ) → i ≤ 2 ^ g.n → j ≤ 2 ^ g.n → (is_in_area area i j ≡ true → j < y → ⊥) →
      height_at g.n h.heights i j ≡ height_at g.n g.heights i j

-- before any row is raised, the height field is as it was
pub IsRaisedSoFar-none : (g : HeightField) (area : Area) (dz : ℤ) → IsHeightField g → IsRaisedSoFar g area dz area.y0 g
IsRaisedSoFar-none g area dz valid = record {
  n = refl;
  maxval = refl;
  valid = valid;
  inside = λ i j i_in j_in held below. let e : IsBetweenEnds area i j = read-area area i j held in
      absurd (omega (arith, e.bottom));
  outside = λ i j i_in j_in out. refl;
}

-- if row y is raised between the columns of the area and nothing else changes, the rows below y + 1 are raised
pub IsRaisedSoFar-next : (g : HeightField) (area : Area) (dz : ℤ) (y : ℕ) (h next : HeightField) →
    area.y0 ≤ y → y ≤ area.y1 →
    IsRaisedSoFar g area dz y h → next.n ≡ h.n → next.maxval ≡ h.maxval → IsHeightField next →
    ((i : ℕ) → area.x0 ≤ i → i ≤ area.x1 →
    height_at h.n next.heights i y ≡ clamped h.maxval (pos (height_at h.n h.heights i y) +ℤ dz)) →
    ((i j : ℕ) → i ≤ 2 ^ h.n → j ≤ 2 ^ h.n → (j ≡ y → area.x0 ≤ i → i ≤ area.x1 → ⊥) →
    height_at h.n next.heights i j ≡ height_at h.n h.heights i j) → IsRaisedSoFar g area dz (y + 1) next
IsRaisedSoFar-next g area dz y h next from to so_far same_n same_maxval valid there others =
    let There : ℕ → ℕ → Type 0 = λ n top. (i : ℕ) → area.x0 ≤ i → i ≤ area.x1 →
    height_at n next.heights i y ≡ clamped top (pos (height_at n h.heights i y) +ℤ dz) in
    let There_n : ℕ → Type 0 = λ n. There n h.maxval in
    let There_top : ℕ → Type 0 = λ top. There g.n top in
    let there_g : There g.n g.maxval = subst There_top so_far.maxval (subst There_n so_far.n there) in
    let Others : ℕ → Type 0 = λ n. (i j : ℕ) → i ≤ 2 ^ n → j ≤ 2 ^ n → (j ≡ y → area.x0 ≤ i → i ≤ area.x1 → ⊥) →
    height_at n next.heights i j ≡ height_at n h.heights i j in
    let others_g : Others g.n = subst Others so_far.n others in
    record {
      n = same_n ∙ so_far.n;
      maxval = same_maxval ∙ so_far.maxval;
      valid = valid;
      inside = λ i j i_in j_in held below.
          let e : IsBetweenEnds area i j = read-area area i j held in
          ⊎_elim {C = height_at g.n next.heights i j ≡ clamped g.maxval (pos (height_at g.n g.heights i j) +ℤ dz)}
          (λ here.
          let At : ℕ → Type 0 =
          λ v. height_at g.n next.heights i v ≡ clamped g.maxval (pos (height_at g.n g.heights i v) +ℤ dz) in
          let before : height_at g.n h.heights i y ≡ height_at g.n g.heights i y =
          so_far.outside i y i_in (omega arith) (λ _ lt. absurd (omega arith)) in
          subst At (sym here) (there_g i e.left e.right ∙ ap (λ t. clamped g.maxval (pos t +ℤ dz)) before))
          (λ other. let apart : j ≡ y → ⊥ = other in
          others_g i j i_in j_in (λ f _ _. other f) ∙ so_far.inside i j i_in j_in held (omega arith))
          (cases_eq j y);
      outside = λ i j i_in j_in out.
          others_g i j i_in j_in (λ f left right. out (made-area area i j
          (record { left = left; right = right; bottom = omega arith; top = omega arith })) (omega arith))
          ∙ so_far.outside i j i_in j_in (λ held lt. out held (omega arith));
    }

-- the whole area
pub IsRaisedSoFar-all : (g : HeightField) (area : Area) (dz : ℤ) (y : ℕ) (h : HeightField) →
    area.y1 < y → IsHeightField g →
    IsRaisedSoFar g area dz y h → h ≡ record g { heights = raised_heights g area dz }
IsRaisedSoFar-all g area dz y h past valid so_far =
    let Count : ℕ → Type 0 = λ n. length h.heights ≡ side_of n * side_of n in
    let count : length h.heights ≡ side_of g.n * side_of g.n = subst Count so_far.n so_far.valid.count in
    let heights : h.heights ≡ raised_heights g area dz =
    raised-by_points g area dz h.heights valid count
    (λ i j i_in j_in held. let e : IsBetweenEnds area i j = read-area area i j held in
    so_far.inside i j i_in j_in held (omega (arith, e.top)))
    (λ i j i_in j_in out. so_far.outside i j i_in j_in (λ held _. out held)) in
    same-field g h _ so_far.n so_far.maxval heights
