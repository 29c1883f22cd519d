-- A relation between the elements of two lists, place by place, with one more of each.
use Rattle.std.proofs.Common.{◌≡◌, ℕ, ◌+◌, ◌<◌, List, [], ◌∷◌, ◌++◌, length, take, get_or, subst, sym, ap, ◌∙◌}
use Rattle.std.proofs.lemmas.List.{take_more}
use Rattle.std.specs.List.{AllZip}

-- one element more at the end of each list
all-zip-push : {A B : Type 0} (R : A → B → Type 0) (xs : List A) (ys : List B) (x : A) (y : B) → AllZip R xs ys →
    R x y → AllZip R (xs ++ x ∷ []) (ys ++ y ∷ [])
all-zip-push R [] [] x y each last = (last, tt)
all-zip-push R [] (b ∷ ys) x y each last = absurd each
all-zip-push R (a ∷ xs) [] x y each last = absurd each
all-zip-push R (a ∷ xs) (b ∷ ys) x y each last = (each.0, all-zip-push R xs ys x y each.1 last)

-- one element more is taken of the first list, and the second one grows by one
pub all-zip-take : {A B : Type 0} (R : A → B → Type 0) (xs : List A) (ys : List B) (i : ℕ) (x : A) (y : B) →
    i < length xs → x ≡ get_or xs i x → AllZip R (take i xs) ys → R x y → AllZip R (take (i + 1) xs) (ys ++ y ∷ [])
all-zip-take R xs ys i x y below item each last =
    let grown : take (i + 1) xs ≡ take i xs ++ x ∷ [] =
    take_more xs i x below ∙ ap (λ z. take i xs ++ z ∷ []) (sym item) in
    subst (λ taken. AllZip R taken (ys ++ y ∷ [])) (sym grown) (all-zip-push R (take i xs) ys x y each last)
