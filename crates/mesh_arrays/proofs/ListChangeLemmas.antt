-- What one list has and another has not.
use Rattle.std.proofs.Common.{◌≡◌, ℕ, inl, inr, Bool, true, false, not, cond, List, [], ◌∷◌, ◌++◌, filter, refl, sym}
use Rattle.std.proofs.Common.{◌∙◌, ap, subst, ⊎_elim}
use Rattle.std.proofs.lemmas.Bool.{cases_Bool, both_ways, not_from_true, not_from_false, not-true, cond-true}
use Rattle.std.proofs.lemmas.Bool.{cond-false, false_from_ne_true}
use Rattle.std.proofs.lemmas.List.Elements.{filter-append}
use Rattle.mesh_defs.specs.ClosedSet.{among}
use Rattle.mesh_defs.proofs.ListLemmas.{IsIn, IsIn-among, among-in, IsIn-append, IsIn-append-left, IsIn-append-right}
use Rattle.mesh_defs.proofs.TestLemmas.{same_tests}
use Rattle.mesh_arrays.specs.ListChange.{alone, IsChange}

-- filters

step : (b c : Bool) (x : ℕ) (xs ys : List ℕ) → b ≡ c → xs ≡ ys → cond b (x ∷ xs) xs ≡ cond c (x ∷ ys) ys
step b c x xs ys e f = ap (λ t. cond t (x ∷ xs) xs) e ∙ ap (λ l. cond c (x ∷ l) l) f

-- two tests that agree at each entry keep the same ones
pub filter_same : (p q : ℕ → Bool) (xs : List ℕ) → ((b : ℕ) → IsIn b xs → p b ≡ q b) → filter p xs ≡ filter q xs
filter_same p q [] same = refl
filter_same p q (x ∷ xs) same =
    step (p x) (q x) x (filter p xs) (filter q xs) (same x (inl refl)) (filter_same p q xs (λ b h. same b (inr h)))

-- a test that all pass keeps all
filter_all : (p : ℕ → Bool) (xs : List ℕ) → ((b : ℕ) → IsIn b xs → p b ≡ true) → filter p xs ≡ xs
filter_all p [] each = refl
filter_all p (x ∷ xs) each =
    cond-true (p x) (x ∷ filter p xs) (filter p xs) (each x (inl refl))
    ∙ ap (λ l. x ∷ l) (filter_all p xs (λ b h. each b (inr h)))

-- one that none passes keeps none
filter_none : (p : ℕ → Bool) (xs : List ℕ) → ((b : ℕ) → IsIn b xs → p b ≡ false) → filter p xs ≡ []
filter_none p [] each = refl
filter_none p (x ∷ xs) each =
    cond-false (p x) (x ∷ filter p xs) (filter p xs) (each x (inl refl)) ∙ filter_none p xs (λ b h. each b (inr h))

-- what is kept passes and was there
pub filter_in : (p : ℕ → Bool) (b : ℕ) (xs : List ℕ) → IsIn b (filter p xs) → IsIn b xs × (p b ≡ true)
filter_in p b [] is = absurd is
filter_in p b (x ∷ xs) is = ⊎_elim
    (λ yes. ⊎_elim
    (λ same. (inl same, subst (λ z. p z ≡ true) same yes))
    (λ later. let r = filter_in p b xs later in (inr r.0, r.1))
    (subst (IsIn b) (cond-true (p x) (x ∷ filter p xs) (filter p xs) yes) is))
    (λ no.
    let r = filter_in p b xs (subst (IsIn b) (cond-false (p x) (x ∷ filter p xs) (filter p xs) no) is) in
    (inr r.0, r.1))
    (cases_Bool (p x))

-- and what passes and is there is kept
pub in_filter : (p : ℕ → Bool) (b : ℕ) (xs : List ℕ) → IsIn b xs → p b ≡ true → IsIn b (filter p xs)
in_filter p b [] is passes = absurd is
in_filter p b (x ∷ xs) (inl same) passes =
    subst (IsIn b)
    (sym (cond-true (p x) (x ∷ filter p xs) (filter p xs) (subst (λ z. p z ≡ true) (sym same) passes))) (inl same)
in_filter p b (x ∷ xs) (inr later) passes = ⊎_elim
    (λ yes. subst (IsIn b) (sym (cond-true (p x) (x ∷ filter p xs) (filter p xs) yes))
    (inr (in_filter p b xs later passes)))
    (λ no. subst (IsIn b) (sym (cond-false (p x) (x ∷ filter p xs) (filter p xs) no)) (in_filter p b xs later passes))
    (cases_Bool (p x))

-- what is left out

-- an entry is not among those of a list in which it is not
absent : (b : ℕ) (xs : List ℕ) → (IsIn b xs → ⊥) → among xs b ≡ false
absent b xs not_in = false_from_ne_true (among xs b) (λ yes. not_in (IsIn-among b xs yes))

-- from a list to itself nothing goes
pub alone-self : (xs : List ℕ) → alone xs xs ≡ []
alone-self xs = filter_none (λ a. not (among xs a)) xs (λ b is. not_from_true (among xs b) (among-in b xs is))

-- to a list without its entries it goes whole
pub alone-apart : (xs ys : List ℕ) → ((b : ℕ) → IsIn b xs → IsIn b ys → ⊥) → alone xs ys ≡ xs
alone-apart xs ys apart =
    filter_all (λ a. not (among ys a)) xs (λ b is. not_from_false (among ys b) (absent b ys (apart b is)))

-- an entry of a list that is apart from a second one is among the first and the second where it is among the first
among_left : (b : ℕ) (xs ys : List ℕ) → (IsIn b ys → ⊥) → among (xs ++ ys) b ≡ among xs b
among_left b xs ys apart = same_tests (among (xs ++ ys) b) (among xs b)
    (λ yes. ⊎_elim (λ left. among-in b xs left) (λ right. absurd (apart right))
    (IsIn-append b xs ys (IsIn-among b (xs ++ ys) yes)))
    (λ yes. among-in b (xs ++ ys) (IsIn-append-left b xs ys (IsIn-among b xs yes)))

among_right : (b : ℕ) (xs ys : List ℕ) → (IsIn b xs → ⊥) → among (xs ++ ys) b ≡ among ys b
among_right b xs ys apart = same_tests (among (xs ++ ys) b) (among ys b)
    (λ yes. ⊎_elim (λ left. absurd (apart left)) (λ right. among-in b ys right)
    (IsIn-append b xs ys (IsIn-among b (xs ++ ys) yes)))
    (λ yes. among-in b (xs ++ ys) (IsIn-append-right b xs ys (IsIn-among b ys yes)))

-- of two lists one behind the other, each part by its own part
pub alone-both : (l r m s : List ℕ) → ((b : ℕ) → IsIn b l → IsIn b s → ⊥) → ((b : ℕ) → IsIn b r → IsIn b m → ⊥) →
    alone (l ++ r) (m ++ s) ≡ alone l m ++ alone r s
alone-both l r m s one two =
    filter-append (λ a. not (among (m ++ s) a)) l r
    ∙ ap (λ xs. xs ++ alone r (m ++ s)) (filter_same (λ a. not (among (m ++ s) a)) (λ a. not (among m a)) l
    (λ b is. ap not (among_left b m s (one b is))))
    ∙ ap (λ xs. alone l m ++ xs) (filter_same (λ a. not (among (m ++ s) a)) (λ a. not (among s a)) r
    (λ b is. ap not (among_right b m s (two b is))))

-- what stays

-- the entries of a list that are in another
abbrev pub shared : List ℕ → List ℕ → List ℕ
shared xs ys = filter (among ys) xs

-- lists with no entry in common share none
pub shared-apart : (xs ys : List ℕ) → ((b : ℕ) → IsIn b xs → IsIn b ys → ⊥) → shared xs ys ≡ []
shared-apart xs ys apart = filter_none (among ys) xs (λ b is. absent b ys (apart b is))

-- lists in two parts share what the first parts share and then what the second parts share, if none share crosswise
pub shared-both : (l r m s : List ℕ) → ((b : ℕ) → IsIn b l → IsIn b s → ⊥) → ((b : ℕ) → IsIn b r → IsIn b m → ⊥) →
    shared (l ++ r) (m ++ s) ≡ shared l m ++ shared r s
shared-both l r m s one two =
    filter-append (among (m ++ s)) l r
    ∙ ap (λ xs. xs ++ shared r (m ++ s))
    (filter_same (among (m ++ s)) (among m) l (λ b is. among_left b m s (one b is)))
    ∙ ap (λ xs. shared l m ++ xs) (filter_same (among (m ++ s)) (among s) r (λ b is. among_right b m s (two b is)))

-- without what is not in another list there is what is in it
pub alone-alone : (xs ys : List ℕ) → alone xs (alone xs ys) ≡ shared xs ys
alone-alone xs ys =
    filter_same (λ a. not (among (alone xs ys) a)) (among ys) xs
    (λ b is. same_tests (not (among (alone xs ys) b)) (among ys b)
    (λ kept. ⊎_elim (λ yes. yes)
    (λ no. absurd (both_ways (among (alone xs ys) b) (not-true (among (alone xs ys) b) kept)
    (among-in b (alone xs ys) (in_filter (λ a. not (among ys a)) b xs is (not_from_false (among ys b) no)))))
    (cases_Bool (among ys b)))
    (λ yes. not_from_false (among (alone xs ys) b) (absent b (alone xs ys)
    (λ out. both_ways (among ys b) (not-true (among ys b) (filter_in (λ a. not (among ys a)) b xs out).1) yes))))

-- nothing goes from a list to itself, and nothing comes
pub same-change : (xs : List ℕ) → IsChange xs xs [] []
same-change xs = record { left = sym (alone-self xs); new = sym (alone-self xs); kept = refl }
