-- Sets as ascending lists: the list is determined by its members, and so is a gain.
use Rattle.std.proofs.Common.{◌≡◌, ℕ, ◌<◌, ◌⊎◌, inl, inr, true, false, eqb, ◌||◌, List, [], ◌∷◌, length, All, refl, sym}
use Rattle.std.proofs.Common.{◌∙◌, ap, ap₂, subst, arith, ⊎_elim}
use Rattle.std.proofs.lemmas.Bool.{cases_Bool, false≢true, false_from_ne_true, eqb-true}
use Rattle.std.proofs.lemmas.List.Elements.{All-contains}
use Rattle.mesh_defs.specs.ClosedSet.{among}
use Rattle.mesh_defs.specs.Greedy.{with_triangle}
use Rattle.mesh_defs.specs.GridSet.{IsAscending, IsGridSet, IsGain}
use Rattle.mesh_defs.proofs.ListLemmas.{IsIn, IsIn-among, among-in, Contains-in}
use Rattle.mesh_laws.proofs.ForcingLemmas.{IsLeastClosed-member}
use Rattle.mesh_laws.proofs.ClosureLemmas.{IsLeastClosed-unique}

-- equal sets are equal lists

-- what is less than all entries is no entry
not_among : (a : ℕ) (xs : List ℕ) → All (λ y. a < y) xs → among xs a ≡ false
not_among a xs all = false_from_ne_true (among xs a) (λ is.
    let less : a < a = All-contains (λ y. a < y) xs a all (Contains-in a xs (IsIn-among a xs is)) in omega arith)

-- the rest of two lists that begin alike
rest_same : (x a : ℕ) (xs ys : List ℕ) → All (λ y. x < y) xs → All (λ y. x < y) ys →
    (eqb x a || among xs a) ≡ (eqb x a || among ys a) → among xs a ≡ among ys a
rest_same x a xs ys p q same = ⊎_elim
    (λ first. subst (λ z. among xs z ≡ among ys z) (eqb-true x a first) (not_among x xs p ∙ sym (not_among x ys q)))
    (λ other. subst (λ b. (b || among xs a) ≡ (b || among ys a)) other same)
    (cases_Bool (eqb x a))

-- two ascending lists with the same members are equal
pub ascending_unique : (xs ys : List ℕ) → IsAscending xs → IsAscending ys →
    ((a : ℕ) → among xs a ≡ among ys a) → xs ≡ ys
ascending_unique [] [] o p same = refl
ascending_unique [] (y ∷ ys) o p same = absurd (false≢true (same y ∙ among-in y (y ∷ ys) (inl refl)))
ascending_unique (x ∷ xs) [] o p same = absurd (false≢true (sym (same x) ∙ among-in x (x ∷ xs) (inl refl)))
ascending_unique (x ∷ xs) (y ∷ ys) o p same =
    let forth : (y ≡ x) ⊎ IsIn x ys = IsIn-among x (y ∷ ys) (sym (same x) ∙ among-in x (x ∷ xs) (inl refl)) in
    let back : (x ≡ y) ⊎ IsIn y xs = IsIn-among y (x ∷ xs) (same y ∙ among-in y (y ∷ ys) (inl refl)) in
    let first : x ≡ y = least x y xs ys o.0 p.0 forth back in
    ap₂ (λ (z : ℕ) (zs : List ℕ). z ∷ zs) first
    (ascending_unique xs ys o.1 p.1 (λ a. rest_same x a xs ys o.0 (subst (λ z. All (λ w. z < w) ys) (sym first) p.0)
    (same a ∙ ap (λ z. eqb z a || among ys a) (sym first))))
  where
    least : (x y : ℕ) (xs ys : List ℕ) → All (λ z. x < z) xs → All (λ z. y < z) ys → (y ≡ x) ⊎ IsIn x ys →
        (x ≡ y) ⊎ IsIn y xs → x ≡ y
    least x y xs ys p q (inl e) back = sym e
    least x y xs ys p q (inr h) (inl e) = e
    least x y xs ys p q (inr h) (inr k) =
        let more : y < x = All-contains (λ z. y < z) ys x q (Contains-in x ys h) in
        let less : x < y = All-contains (λ z. x < z) xs y p (Contains-in y xs k) in
        absurd (omega arith)

-- the gain of a triangle is determined
pub gain_unique : (n : ℕ) (members : List ℕ) (t gain other : ℕ) → IsGain n members t gain →
    IsGain n members t other → gain ≡ other
gain_unique n members t gain other p q =
    let same : p.after ≡ q.after = ascending_unique p.after q.after p.forced.ascending q.forced.ascending
    (IsLeastClosed-unique n (with_triangle (among members) t) (among p.after)
    (among q.after) p.forced.least q.forced.least) in
    let e = ap length same in let f = p.grown in let g = q.grown in omega arith

-- a member has no gain
pub gain-member : (n : ℕ) (members : List ℕ) (t gain : ℕ) → IsGridSet n members → among members t ≡ true →
    IsGain n members t gain → gain ≡ 0
gain-member n members t gain valid is g =
    gain_unique n members t gain 0 g record {
      after = members;
      forced = record { ascending = valid.ascending; least = IsLeastClosed-member n (among members) t valid.closed is };
      grown = omega arith;
    }
