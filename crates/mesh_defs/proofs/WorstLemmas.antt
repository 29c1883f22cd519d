-- The worst of a list, by its entries.
use Rattle.std.proofs.Common.{◌≡◌, ℕ, ◌≤◌, refl, inl, inr, List, [], ◌∷◌, All, ap, arith}
use Rattle.std.proofs.lemmas.List.Elements.{All-head, All-tail}
use Rattle.mesh_defs.specs.Priority.{worst_of}
use Rattle.mesh_defs.proofs.ListLemmas.{IsIn}

-- it is at most what no entry exceeds
pub worst-le : (priority : ℕ → ℕ) (bound : ℕ) (xs : List ℕ) → ((a : ℕ) → IsIn a xs → priority a ≤ bound) →
    worst_of priority xs ≤ bound
worst-le priority bound [] h = omega arith
worst-le priority bound (x ∷ xs) h =
    let first = h x (inl refl) in
    let rest : worst_of priority xs ≤ bound = worst-le priority bound xs (λ a k. h a (inr k)) in omega arith

-- no entry exceeds it
pub le-worst : (priority : ℕ → ℕ) (a : ℕ) (xs : List ℕ) → IsIn a xs → priority a ≤ worst_of priority xs
le-worst priority a [] h = absurd h
le-worst priority a (x ∷ xs) (inl e) = let f : priority x ≡ priority a = ap priority e in omega arith
le-worst priority a (x ∷ xs) (inr h) =
    let rest : priority a ≤ worst_of priority xs = le-worst priority a xs h in
    omega arith

-- the worst of a list of zeros
pub worst-zeros : (priority : ℕ → ℕ) (xs : List ℕ) → All (λ a. priority a ≡ 0) xs → worst_of priority xs ≡ 0
worst-zeros priority [] all = refl
worst-zeros priority (x ∷ xs) all =
    let first = All-head (λ a. priority a ≡ 0) x xs all in
    let rest : worst_of priority xs ≡ 0 = worst-zeros priority xs (All-tail (λ a. priority a ≡ 0) x xs all) in
    omega arith
