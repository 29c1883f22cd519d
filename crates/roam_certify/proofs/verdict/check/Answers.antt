-- No flag is set at first, and there is one for each address of the grid.
use Rattle.std.proofs.Common.{◌≡◌, ℕ, ◌+◌, ◌*◌, ◌^◌, ◌<◌, Bool, false, List, length, replicate, All, sym, ◌∙◌, ap}
use Rattle.std.proofs.Common.{subst, arith, pow-add}
use Rattle.std.proofs.lemmas.List.{length-replicate}
use Rattle.std.proofs.lemmas.List.Elements.{All-weaker}
use Rattle.mesh_defs.specs.HeightField.{HeightField}
use Rattle.mesh_defs.specs.Triangle.{IsAddress}
use Rattle.mesh_laws.specs.Sweep.{is_flagged}
use Rattle.mesh_laws.proofs.FlagLemmas.{flagged-unset}
use Rattle.roam_certify.proofs.verdict.check.Goals as goal

-- a table of unset flags
unset : (flags : List Bool) (count : ℕ) → flags ≡ replicate count false → (a : ℕ) → is_flagged flags a ≡ false
unset flags count e a = subst (λ (l : List Bool). is_flagged l a ≡ false) (sym e) (flagged-unset count a)

-- each address has its flag
roomy : (n : ℕ) (flags : List Bool) (leaves : List ℕ) → length flags ≡ 2 * 2 ^ (2 * n + 1) → All (IsAddress n) leaves →
    All (λ t. t < length flags) leaves
roomy n flags leaves long all = All-weaker (IsAddress n) (λ t. t < length flags) (λ t address.
    let high = address.high in
    let next = pow-add 2 (2 * n + 1) 1 in
    let e : 2 * n + 1 + 1 ≡ 2 * n + 2 = omega arith in
    let same : 2 ^ (2 * n + 1 + 1) ≡ 2 ^ (2 * n + 2) = ap (λ k. 2 ^ k) e in omega arith) leaves all

pub verdict-requires-clause-seen_room : goal.verdict-requires-clause-seen_room
verdict-requires-clause-seen_room c =
    let grid : c.n-n.result ≡ c.args.w.now.n =
    c.n-n.ensures.value ∙ ap (λ (g : HeightField). g.n) c.grid.ensures.value in
    let items = c.deref_mut-2.ensures.value ∙ c.in_ok-seen.ensures.items_if_clones_equal (λ y h. h) in
    let end = c.end-2.ensures.value ∙ ap (λ k. 2 ^ (2 * k + 1)) grid in
    let long : length c.deref_mut-2.result.now ≡ 2 * 2 ^ (2 * c.args.w.now.n + 1) =
    ap length items ∙ length-replicate _ _ ∙ ap (λ k. 2 * k) end in
    subst (λ (l : List ℕ). All (λ t. t < length c.deref_mut-2.result.now) l) (sym c.leaves.ensures.value)
    (roomy c.args.w.now.n c.deref_mut-2.result.now c.args.cert.now.leaves long c.requires.leaves)

pub verdict-requires-clause-splits_empty : goal.verdict-requires-clause-splits_empty
verdict-requires-clause-splits_empty c =
    unset c.deref_mut.result.now _ (c.deref_mut.ensures.value ∙ c.in_ok-splits.ensures.items_if_clones_equal (λ y h. h))

pub verdict-requires-clause-seen_empty : goal.verdict-requires-clause-seen_empty
verdict-requires-clause-seen_empty c =
    unset c.deref_mut-2.result.now _ (c.deref_mut-2.ensures.value
    ∙ c.in_ok-seen.ensures.items_if_clones_equal (λ y h. h))

pub verdict-requires-clause-named_empty : goal.verdict-requires-clause-named_empty
verdict-requires-clause-named_empty c =
    unset c.deref_mut-3.result.now _ (c.deref_mut-3.ensures.value
    ∙ c.in_ok-named.ensures.items_if_clones_equal (λ y h. h))
