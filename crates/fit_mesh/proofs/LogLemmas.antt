-- Logs of a set: one member more, and how many there can be.
use Rattle.std.proofs.Common.{◌≡◌, ℕ, ◌+◌, ◌<◌, ◌≤◌, inl, inr, Bool, true, false, ◌||◌, IsTrue, eqb, List, [], ◌∷◌}
use Rattle.std.proofs.Common.{◌++◌, length, refl, sym, ◌∙◌, ap, subst, arith, ⊎_elim, count_by}
use Rattle.std.proofs.Common.{eq-eqb}
use Rattle.std.specs.List.{AllByRecursion, IsDistinct, range_with_len}
use Rattle.std.proofs.lemmas.List.FromFn.{length-range_with_len}
use Rattle.std.proofs.lemmas.Bool.{or_cases, both_ways, eqb-true, cases_Bool, cases_lt, false≢true}
use Rattle.mesh_defs.specs.ClosedSet.{among}
use Rattle.mesh_defs.specs.Greedy.{with_triangle}
use Rattle.mesh_defs.proofs.TestLemmas.{or_none}
use Rattle.mesh_defs.proofs.ListLemmas.{one_if, count-cons, count-yes, count-some, one_if-no, among-in, IsIn-among}
use Rattle.mesh_defs.proofs.ListLemmas.{IsIn}
use Rattle.mesh_laws.proofs.SizeLemmas.{count-none}
use Rattle.mesh_laws.proofs.SetListLemmas.{length-distinct, in-range}
use Rattle.mesh_laws.proofs.FlagLemmas.{flagged-past}
use Rattle.mesh_laws.specs.Sweep.{is_flagged}
use Rattle.fit_mesh.specs.Log.{IsLogSince}

-- what is not flagged was not there, and is not listed
or-none : (x y : Bool) → (x || y) ≡ false → y ≡ false
or-none true y e = cc
or-none false y e = e

or-neither : (x y : Bool) → (x || y) ≡ false → x ≡ false
or-neither true y e = cc
or-neither false y e = refl

unlisted : (before : ℕ → Bool) (flags : List Bool) (log : List ℕ) (t : ℕ) → IsLogSince before flags log →
    is_flagged flags t ≡ false → among log t ≡ false
unlisted before flags log t logged new = or-none (before t) (among log t) (sym (logged.same t) ∙ new)

-- what is listed is flagged
or-last : (x y : Bool) → y ≡ true → (x || y) ≡ true
or-last true y e = refl
or-last false y e = e

pub listed-flagged : (before : ℕ → Bool) (flags : List Bool) (log : List ℕ) (a : ℕ) → IsLogSince before flags log →
    IsTrue (among log a) → IsTrue (is_flagged flags a)
listed-flagged before flags log a logged is = logged.same a ∙ or-last (before a) (among log a) is

-- three tests
pub or-assoc : (x y z : Bool) → (x || (y || z)) ≡ ((x || y) || z)
or-assoc true y z = refl
or-assoc false y z = refl

-- one entry more
pub among-more : (xs : List ℕ) (t a : ℕ) → among (xs ++ t ∷ []) a ≡ with_triangle (among xs) t a
among-more [] t a = or_none (eqb t a) false refl
among-more (x ∷ xs) t a = ap (λ z. eqb x a || z) (among-more xs t a) ∙ or-assoc (eqb x a) (among xs a) (eqb t a)

-- counted
pub count-more : (p : ℕ → Bool) (xs : List ℕ) (t : ℕ) → count_by p (xs ++ t ∷ []) ≡ count_by p xs + one_if (p t)
count-more p [] t = count-cons p t [] ∙ omega arith
count-more p (x ∷ xs) t =
    let rest : count_by p (xs ++ t ∷ []) ≡ count_by p xs + one_if (p t) = count-more p xs t in
    let more = count-cons p x (xs ++ t ∷ []) in
    let less = count-cons p x xs in
    omega arith

-- what is not listed is not counted
count-absent : (xs : List ℕ) (a : ℕ) → among xs a ≡ false → count_by (λ t. eqb t a) xs ≡ 0
count-absent xs a absent = count-none (λ t. eqb t a) xs (λ b listed same.
    both_ways (among xs a) absent (among-in a xs (subst (λ z. IsIn z xs) (eqb-true b a same) listed)))

-- a new member at the end
pub log-put : (before : ℕ → Bool) (flags next : List Bool) (log : List ℕ) (t : ℕ) → IsLogSince before flags log →
    is_flagged flags t ≡ false → ((a : ℕ) → is_flagged next a ≡ with_triangle (is_flagged flags) t a) →
    IsLogSince before next (log ++ t ∷ [])
log-put before flags next log t logged new added = record {
  same = λ a. added a ∙ ap (λ z. z || eqb t a) (logged.same a) ∙ sym (or-assoc (before a) (among log a) (eqb t a))
      ∙ ap (λ z. before a || z) (sym (among-more log t a));
  new = λ a h. ⊎_elim
      (λ old. logged.new a old)
      (λ (same : eqb t a ≡ true). subst (λ z. before z ≡ false) (eqb-true t a same)
      (or-neither (before t) (among log t) (sym (logged.same t) ∙ new)))
      (or_cases (among log a) (eqb t a) (sym (among-more log t a) ∙ h));
  once = λ a h.
      let more = count-more (λ t. eqb t a) log t in
      ⊎_elim
      (λ old.
      let one = logged.once a old in
      let other : one_if (eqb t a) ≡ 0 = one_if-no (eqb t a) (λ same.
      both_ways (among log t) (unlisted before flags log t logged new)
      (subst (λ z. among log z ≡ true) (sym (eqb-true t a same)) old)) in
      omega arith)
      (λ (same : eqb t a ≡ true).
      let none : count_by (λ t. eqb t a) log ≡ 0 =
      count-absent log a (subst (λ z. among log z ≡ false) (eqb-true t a same) (unlisted before flags log t logged new)) in
      let one : one_if (eqb t a) ≡ 1 = ap one_if same in
      omega arith)
      (or_cases (among log a) (eqb t a) (sym (among-more log t a) ∙ h));
}

-- there is room for it

-- what is not listed differs from each entry
absent-all : (x : ℕ) (xs : List ℕ) → among xs x ≡ false → AllByRecursion (λ y. eqb x y ≡ false) xs
absent-all x [] absent = tt
absent-all x (y ∷ ys) absent = (
  ⊎_elim
      (λ same. absurd (both_ways (among (y ∷ ys) x) absent (among-in x (y ∷ ys) (inl (sym (eqb-true x y same))))))
      (λ no. no)
      (cases_Bool (eqb x y)),
  absent-all x ys (⊎_elim
      (λ is. absurd (both_ways (among (y ∷ ys) x) absent (among-in x (y ∷ ys) (inr (IsIn-among x ys is)))))
      (λ no. no)
      (cases_Bool (among ys x))),
)

-- a list with each entry once has distinct entries
once-distinct : (xs : List ℕ) → ((a : ℕ) → IsTrue (among xs a) → count_by (λ t. eqb t a) xs ≡ 1) → IsDistinct eqb xs
unfolding IsDistinct
once-distinct [] once = tt
once-distinct (x ∷ xs) once =
    let own = once x (among-in x (x ∷ xs) (inl refl)) in
    let first : count_by (λ t. eqb t x) (x ∷ xs) ≡ 1 + count_by (λ t. eqb t x) xs =
    count-yes (λ t. eqb t x) x xs (eq-eqb x x refl) in (
      absent-all x xs (⊎_elim
          (λ is.
          let some = count-some (λ t. eqb t x) x xs (IsIn-among x xs is) (eq-eqb x x refl) in
          absurd (omega arith))
          (λ no. no)
          (cases_Bool (among xs x))),
      once-distinct xs (λ a h.
          let all = once a (among-in a (x ∷ xs) (inr (IsIn-among a xs h))) in
          let some = count-some (λ t. eqb t a) a xs (IsIn-among a xs h) (eq-eqb a a refl) in
          let both = count-cons (λ t. eqb t a) x xs in omega arith),
    )

-- a log has fewer entries than its table has flags, where one of these is not set
pub log-room : (before : ℕ → Bool) (flags : List Bool) (log : List ℕ) (t : ℕ) → IsLogSince before flags log →
    is_flagged flags t ≡ false → t < length flags → length log < length flags
unfolding IsDistinct
log-room before flags log t logged new below =
    let places : List ℕ = range_with_len 0 (length flags) in
    let absent : among log t ≡ false = unlisted before flags log t logged new in
    let most : length (t ∷ log) ≤ length places =
    length-distinct (t ∷ log) places (absent-all t log absent, once-distinct log logged.once) (λ a h.
    among-in a places (in-range 0 (length flags) a (omega arith) (⊎_elim
    (λ (same : t ≡ a). let less : a < length flags = subst (λ z. z < length flags) same below in omega arith)
    (λ there. let less = flagged-below a (listed-flagged before flags log a logged (among-in a log there)) in omega arith)
    (IsIn-among a (t ∷ log) h)))) in
    let size = length-range_with_len 0 (length flags) in
    omega arith
  where
    flagged-below : (a : ℕ) → IsTrue (is_flagged flags a) → a < length flags
    flagged-below a is = ⊎_elim
        (λ less. less)
        (λ past. absurd (both_ways (is_flagged flags a) (flagged-past flags a past) is))
        (cases_lt a (length flags))

-- the beginning

-- of each set there is an empty log
pub log-start : (flags : List Bool) → IsLogSince (is_flagged flags) flags []
log-start flags = record {
  same = λ a. or-nothing (is_flagged flags a);
  new = λ a h. absurd (false≢true h);
  once = λ a h. absurd (false≢true h);
}
  where
    or-nothing : (x : Bool) → x ≡ (x || false)
    or-nothing true = refl
    or-nothing false = refl

-- and of the empty one
pub log-none : (flags : List Bool) → ((a : ℕ) → is_flagged flags a ≡ false) → IsLogSince (λ a. false) flags []
log-none flags empty = record {
  same = empty;
  new = λ a h. absurd (false≢true h);
  once = λ a h. absurd (false≢true h);
}
