-- Lists that are joined and cut.
use Rattle.std.proofs.Common.{◌≡◌, ℕ, zero, suc, ◌+◌, ◌<◌, List, [], ◌∷◌, ◌++◌, length, take, drop, get_or, All, refl}
use Rattle.std.proofs.Common.{sym, ap, ap₂, ◌∙◌, subst, arith, append_assoc, take-append-drop}
use Rattle.std.specs.List.{range_with_len}
use Rattle.std.proofs.lemmas.List.{length_push, take_at, drop_at, take_more}
use Rattle.std.proofs.lemmas.List.Elements.{All-take, All-drop}

-- Joined lists.

-- lists with one entry more are the same if both parts are
pub last-same : (a c : List ℕ) (x y : ℕ) → a ++ x ∷ [] ≡ c ++ y ∷ [] → (a ≡ c) × (x ≡ y)
last-same a c x y e =
    let size : length c ≡ length a = omega (arith, ap length e, length_push a x, length_push c y) in
    let before : a ≡ c =
    sym (take_at a (x ∷ []) (length a) refl) ∙ ap (take (length a)) e ∙ take_at c (y ∷ []) (length a) size in
    let last : x ∷ [] ≡ y ∷ [] =
    sym (drop_at a (x ∷ []) (length a) refl) ∙ ap (drop (length a)) e ∙ drop_at c (y ∷ []) (length a) size in
    (before, cc)

-- what holds of each entry of a joined list holds of each of the first part
pub All-front : (P : ℕ → Type 0) (xs ys : List ℕ) → All P (xs ++ ys) → All P xs
All-front P xs ys all = subst (All P) (take_at xs ys (length xs) refl) (All-take P (length xs) (xs ++ ys) all)

-- and of each of the second
pub All-back : (P : ℕ → Type 0) (xs ys : List ℕ) → All P (xs ++ ys) → All P ys
All-back P xs ys all = subst (All P) (drop_at xs ys (length xs) refl) (All-drop P (length xs) (xs ++ ys) all)

-- two parts of a range
pub range-append : (a b c : ℕ) → range_with_len a (b + c) ≡ range_with_len a b ++ range_with_len (a + b) c
range-append a zero c = ap₂ (λ i j. range_with_len i j) (omega arith) (omega arith)
range-append a (suc b) c =
    let more : suc b + c ≡ suc (b + c) = omega arith in
    let shift : a + 1 + b ≡ a + suc b = omega arith in
    ap (range_with_len a) more
    ∙ ap (λ xs. a ∷ xs) (range-append (a + 1) b c ∙ ap (λ i. range_with_len (a + 1) b ++ range_with_len i c) shift)

-- Cut lists.

-- a list and its two parts
pub cut-parts : (xs front back : List ℕ) (n : ℕ) → front ≡ take n xs → back ≡ drop n xs → xs ≡ front ++ back
cut-parts xs front back n f b =
    sym (take-append-drop n xs) ∙ ap₂ (λ (ys : List ℕ) (zs : List ℕ). ys ++ zs) (sym f) (sym b)

-- a list around the entry at a place
pub cut-at : (xs : List ℕ) (i : ℕ) → i < length xs → xs ≡ take i xs ++ (get_or xs i 0 ∷ drop (i + 1) xs)
cut-at xs i below =
    sym (take-append-drop (i + 1) xs) ∙ ap (λ m. m ++ drop (i + 1) xs) (take_more xs i 0 below)
    ∙ append_assoc (take i xs) (get_or xs i 0 ∷ []) (drop (i + 1) xs)

-- a list of one entry
pub one-entry : (xs : List ℕ) → length xs ≡ 1 → xs ≡ get_or xs 0 0 ∷ []
one-entry [] e = absurd (omega arith)
one-entry (x ∷ []) e = refl
one-entry (x ∷ y ∷ xs) e = absurd (omega arith)
