-- Two lists combined element by element: what a change of one or of both does.
use Rattle.std.proofs.Common.{◌≡◌, ℕ, zero, suc, List, [], ◌∷◌, length, replicate, get_or, set, refl, sym, ap, ◌∙◌, arith}
use Rattle.std.specs.Simd.Lanes.{zip2}
use Rattle.std.proofs.lemmas.List.{set-get_or}

module _ {X Y Z : Type 0} (f : X → Y → Z) where
  pub zip2-replicate : (n : ℕ) (x : X) (y : Y) → zip2 f (replicate n x) (replicate n y) ≡ replicate n (f x y)
  zip2-replicate zero x y = refl
  zip2-replicate (suc n) x y = ap (λ (zs : List Z). f x y ∷ zs) (zip2-replicate n x y)

  -- the element at any place
  pub get_or-zip2_any : (xs : List X) (ys : List Y) (i : ℕ) (x : X) (y : Y) → length xs ≡ length ys →
      get_or (zip2 f xs ys) i (f x y) ≡ f (get_or xs i x) (get_or ys i y)
  get_or-zip2_any [] [] i x y same = refl
  get_or-zip2_any [] (_ ∷ ys) i x y same = absurd (omega arith)
  get_or-zip2_any (_ ∷ xs) [] i x y same = absurd (omega arith)
  get_or-zip2_any (_ ∷ xs) (_ ∷ ys) zero x y same = refl
  get_or-zip2_any (_ ∷ xs) (_ ∷ ys) (suc i) x y same = get_or-zip2_any xs ys i x y (omega arith)

  -- where both change
  pub zip2-set : (xs : List X) (ys : List Y) (i : ℕ) (x : X) (y : Y) →
      zip2 f (set xs i x) (set ys i y) ≡ set (zip2 f xs ys) i (f x y)
  zip2-set [] ys i x y = refl
  zip2-set (_ ∷ xs) [] zero x y = refl
  zip2-set (_ ∷ xs) [] (suc i) x y = refl
  zip2-set (_ ∷ xs) (_ ∷ ys) zero x y = refl
  zip2-set (one ∷ xs) (other ∷ ys) (suc i) x y = ap (λ (zs : List Z). f one other ∷ zs) (zip2-set xs ys i x y)

  -- where the first alone does
  pub zip2-set_left : (xs : List X) (ys : List Y) (i : ℕ) (x : X) (d : Y) →
      zip2 f (set xs i x) ys ≡ set (zip2 f xs ys) i (f x (get_or ys i d))
  zip2-set_left xs ys i x d = ap (zip2 f (set xs i x)) (sym (set-get_or ys i d)) ∙ zip2-set xs ys i x (get_or ys i d)

  -- where the second alone does
  pub zip2-set_right : (xs : List X) (ys : List Y) (i : ℕ) (y : Y) (d : X) →
      zip2 f xs (set ys i y) ≡ set (zip2 f xs ys) i (f (get_or xs i d) y)
  zip2-set_right xs ys i y d =
      ap (λ l. zip2 f l (set ys i y)) (sym (set-get_or xs i d)) ∙ zip2-set xs ys i (get_or xs i d) y

  -- where it does, and counts for the same
  pub zip2-set_same : (xs : List X) (ys : List Y) (i : ℕ) (y : Y) (d : X) (e : Y) →
      f (get_or xs i d) y ≡ f (get_or xs i d) (get_or ys i e) → zip2 f xs (set ys i y) ≡ zip2 f xs ys
  zip2-set_same xs ys i y d e same =
      zip2-set_right xs ys i y d ∙ ap (set (zip2 f xs ys) i) same ∙ sym (zip2-set_right xs ys i (get_or ys i e) d)
      ∙ ap (zip2 f xs) (set-get_or ys i e)
