-- A table of flags, one an address, as a set.
use Rattle.std.proofs.Common.{◌≡◌, ℕ, ◌<◌, ◌≤◌, Bool, true, false, ◌||◌, List, length, get_or, set, replicate, eqb}
use Rattle.std.proofs.Common.{eq-eqb, refl, sym, ◌∙◌, subst, arith, ⊎_elim, ltb, ap, ◌+◌, ◌*◌, ◌^◌}
use Rattle.std.proofs.lemmas.Bool.{cases_lt, cases_eq, or_right, ne_eqb, le-ltb}
use Rattle.std.proofs.lemmas.List.{get_or-set_same, get_or-set_other, get_or_past, get_or-replicate, length-replicate}
use Rattle.mesh_defs.specs.Greedy.{with_triangle}
use Rattle.mesh_laws.specs.Sweep.{is_flagged}
use Rattle.mesh_defs.proofs.TestLemmas.{or_none}
use Rattle.std.proofs.Math.Pow.{pow_mono}

-- one flag more
pub flagged-set : (flags : List Bool) (t a : ℕ) → t < length flags →
    is_flagged (set flags t true) a ≡ with_triangle (is_flagged flags) t a
unfolding is_flagged
flagged-set flags t a room = ⊎_elim
    (λ same. subst (λ z. get_or (set flags t true) z false ≡ (get_or flags z false || eqb t z)) same
    (get_or-set_same flags t true false room ∙ sym (or_right (get_or flags t false) (eqb t t) (eq-eqb t t refl))))
    (λ other. get_or-set_other flags t a true false (λ e. other (sym e))
    ∙ sym (or_none (get_or flags a false) (eqb t a) (ne_eqb t a other)))
    (cases_eq t a)

-- the same of a flag that is written at a place
pub flagged-write : (flags : List Bool) (place t a : ℕ) → place ≡ t → t < length flags →
    is_flagged (set flags place true) a ≡ with_triangle (is_flagged flags) t a
flagged-write flags place t a at room =
    subst (λ z. is_flagged (set flags z true) a ≡ with_triangle (is_flagged flags) t a) (sym at)
    (flagged-set flags t a room)

-- where the table ends no flag is set
pub flagged-past : (flags : List Bool) (a : ℕ) → length flags ≤ a → is_flagged flags a ≡ false
unfolding is_flagged
flagged-past flags a late = get_or_past flags a false late

-- in a table of unset flags none is set
pub flagged-unset : (count a : ℕ) → is_flagged (replicate count false) a ≡ false
unfolding is_flagged
flagged-unset count a = ⊎_elim
    (λ within. get_or-replicate count a false false within)
    (λ (past : count ≤ a).
    get_or_past (replicate count false) a false (let e = length-replicate count false in omega arith))
    (cases_lt a count)

-- the flag that is read at a place
pub flagged-read : (flags : List Bool) (place t : ℕ) → place ≡ t → get_or flags place false ≡ is_flagged flags t
unfolding is_flagged
flagged-read flags place t at = ap (λ i. get_or flags i false) at

-- a place past the table has no flag
pub flagged-none : (flags : List Bool) (place t : ℕ) → place ≡ t → length flags ≤ place →
    ltb place (length flags) ≡ is_flagged flags t
flagged-none flags place t at past = le-ltb place (length flags) past ∙ sym (flagged-past flags t (omega arith))

-- a grid has splittable triangles
pub end-low : (n : ℕ) → 1 ≤ n → 2 ≤ 2 ^ (2 * n + 1)
end-low n low =
    let some : 1 ≤ 2 * n + 1 = omega arith in
    let least : 2 ^ 1 ≤ 2 ^ (2 * n + 1) = pow_mono some in
    omega arith

-- and fewer than 2 ^ 29
pub end-high : (n : ℕ) → n ≤ 14 → 2 ^ (2 * n + 1) ≤ 2 ^ 29
end-high n high = let few : 2 * n + 1 ≤ 29 = omega arith in pow_mono few
