-- From the mask of one load to the first place at which a number stands.
use Rattle.std.proofs.Common.{◌≡◌, ℕ, ◌+◌, ◌-◌, ◌%◌, ◌^◌, ◌≤◌, eqb, Bool, true, false, not, cond, List, map, length}
use Rattle.std.proofs.Common.{get_or, replicate, sym, ap, ◌∙◌, arith, inl, inr}
use Rattle.std.proofs.lemmas.Bool.{not-true, not-false, cases_eq, eq-eqb, eqb-true, ne_eqb, cond-true, cond-false}
use Rattle.std.proofs.lemmas.Simd.{bitmask_splat, length-chunk, get_or-chunk, leading_from_mask_l, trailing_mask_l}
use Rattle.std.proofs.lemmas.List.Sums.{prefix_len-le-length, prefix_len_passes, prefix_len_stops}
use Rattle.std.specs.List.{prefix_len}
use Rattle.std.specs.Simd.Lanes.{chunk, zip2, mask_l, top}
use Rattle.std.specs.Int.{w32}
use Rattle.obj_write.specs.Scan.{IsFirstIn, first_set}

run_is : (p : ℕ → Bool) (v : List ℕ) (n : ℕ) → length v ≡ n → n ≤ 64 →
    first_set (mask_l (map p v)) n ≡ prefix_len (λ x. not (p x)) v
run_is p v n long few =
    elim (cases_eq (mask_l (map p v)) 0) [
      | inl none ↦ cond-true _ _ _ (eq-eqb _ _ none) ∙ sym (leading_from_mask_l p v none ∙ long)
      | inr some ↦ cond-false _ _ _ (ne_eqb _ _ some) ∙ trailing_mask_l p 64 v (omega arith) (omega arith)
    ]

-- the lowest bit of the mask of the lanes with another number than 0
pub first-lane : (xs : List ℕ) (at r : ℕ) → at + 16 ≤ length xs →
    r ≡ first_set (mask_l (map (top 31)
    (zip2 (λ a b. cond (not (eqb a b)) 4294967295 0) (chunk at 16 xs) (replicate 16 0))) % 2 ^ 64) 16 →
    IsFirstIn xs at 16 r
first-lane xs at r room found =
    let some : ℕ → Bool = λ x. not (eqb x 0) in
    let lanes : List ℕ = chunk at 16 xs in
    let long : length lanes ≡ 16 = length-chunk at 16 xs room in
    let mask = bitmask_splat w32 (λ a b. not (eqb a b)) lanes 16 0 long (omega arith) in
    let counted : r ≡ prefix_len (λ x. not (some x)) lanes =
    found ∙ ap (λ m. first_set m 16) mask ∙ run_is some lanes 16 long (omega arith) in
    let bound = prefix_len-le-length (λ x. not (some x)) lanes in
    record {
      few = omega arith;
      clear = λ k from to.
          let back : at + (k - at) ≡ k = omega arith in
          let here : get_or lanes (k - at) 0 ≡ get_or xs k 0 =
          get_or-chunk at 16 xs (k - at) 0 (omega arith) ∙ ap (λ j. get_or xs j 0) back in
          let none : some (get_or lanes (k - at) 0) ≡ false =
          not-true _ (prefix_len_passes (λ x. not (some x)) lanes (k - at) 0 (omega arith)) in
          sym here ∙ eqb-true _ _ (not-false _ none);
      number = λ less zero_there.
          let here : get_or lanes r 0 ≡ get_or xs (at + r) 0 = get_or-chunk at 16 xs r 0 less in
          let stops : not (some (get_or lanes r 0)) ≡ false =
          ap (λ j. not (some (get_or lanes j 0))) counted
          ∙ prefix_len_stops (λ x. not (some x)) lanes 0 (omega arith) in
          let is : get_or lanes r 0 ≡ 0 = here ∙ zero_there in
          absurd_tests (sym stops ∙ ap (λ x. not (some x)) is);
    }
  where
    absurd_tests : false ≡ true → ⊥
    absurd_tests e = cc
