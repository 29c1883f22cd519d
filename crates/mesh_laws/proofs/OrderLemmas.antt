-- The order of ranks, and the first entry of a list in an order.
use Rattle.std.proofs.Common.{◌≡◌, ℕ, ◌<◌, ◌≤◌, ◌⊎◌, inl, inr, List, [], ◌∷◌, refl, sym, ◌∙◌, ap, subst, arith, ⊎_elim}
use Rattle.std.proofs.lemmas.Bool.{cases_lt, cases_order}
use Rattle.mesh_defs.proofs.ListLemmas.{IsIn}
use Rattle.mesh_defs.specs.Ranking.{RanksBefore, IsBefore}
use Rattle.mesh_laws.specs.Order.{IsNoLater, RanksNoLater}

-- ranks by their parts

-- what ranks before has no lesser priority
pub before-le : {p a q b : ℕ} → IsBefore p a q b → q ≤ p
before-le (inl h) = omega arith
before-le (inr h) = omega arith

-- what ranks no later has no lesser priority
pub no_later-le : {p a q b : ℕ} → IsNoLater p a q b → q ≤ p
no_later-le (inl h) = omega arith
no_later-le (inr h) = omega arith

-- what ranks before ranks no later
pub before-no_later : {p a q b : ℕ} → IsBefore p a q b → IsNoLater p a q b
before-no_later (inl h) = inl h
before-no_later (inr h) = inr (h.0, omega arith)

-- no lesser priority and no greater address
pub no_later_from : {p a q b : ℕ} → q ≤ p → a ≤ b → IsNoLater p a q b
no_later_from {p} {a} {q} {b} high first =
    ⊎_elim (λ more. inl more) (λ rest. let e : p ≡ q = omega arith in inr (e, first)) (cases_lt q p)

-- not both no later and after
pub no_later_back : {p a q b : ℕ} → IsNoLater p a q b → IsBefore q b p a → ⊥
no_later_back (inl h) (inl k) = omega arith
no_later_back (inl h) (inr k) = omega arith
no_later_back (inr h) (inl k) = omega arith
no_later_back (inr h) (inr k) = omega arith

-- what ranks no later and has another address ranks before
pub no_later_other : {p a q b : ℕ} → IsNoLater p a q b → (a ≡ b → ⊥) → IsBefore p a q b
no_later_other (inl h) other = inl h
no_later_other {p} {a} {q} {b} (inr h) other = inr (
  h.0,
  ⊎_elim
      (λ (less : a < b). less)
      (λ rest. absurd (other (let most = h.1 in let e : a ≡ b = omega arith in e)))
      (cases_lt a b),
)

-- of two addresses one ranks before the other
pub before_cases : (p a q b : ℕ) → (a ≡ b) ⊎ (IsBefore p a q b ⊎ IsBefore q b p a)
before_cases p a q b = ⊎_elim
    (λ same. inl same)
    (λ differ. inr (⊎_elim
    (λ (more : q < p). inl (inl more))
    (λ (rest : p ≤ q). ⊎_elim
    (λ (less : p < q). inr (inl less))
    (λ (equal : q ≤ p). ⊎_elim
    (λ (first : a < b). inl (inr (omega arith, first)))
    (λ (last : b < a). inr (inr (omega arith, last)))
    differ)
    (cases_lt p q))
    (cases_lt q p)))
    (cases_order a b)

-- chains

-- the order of ranks is transitive
pub before_trans : {p a q b r c : ℕ} → IsBefore p a q b → IsBefore q b r c → IsBefore p a r c
before_trans (inl h) (inl k) = inl (omega arith)
before_trans (inl h) (inr k) = inl (omega arith)
before_trans (inr h) (inl k) = inl (omega arith)
before_trans (inr h) (inr k) = inr (omega arith, omega arith)

-- and so is no later
pub no_later_trans : {p a q b r c : ℕ} → IsNoLater p a q b → IsNoLater q b r c → IsNoLater p a r c
no_later_trans (inl h) (inl k) = inl (omega arith)
no_later_trans (inl h) (inr k) = inl (omega arith)
no_later_trans (inr h) (inl k) = inl (omega arith)
no_later_trans (inr h) (inr k) = inr (omega arith, omega arith)

-- no later and then before is before
pub no_later_before : {p a q b r c : ℕ} → IsNoLater p a q b → IsBefore q b r c → IsBefore p a r c
no_later_before (inl h) (inl k) = inl (omega arith)
no_later_before (inl h) (inr k) = inl (omega arith)
no_later_before (inr h) (inl k) = inl (omega arith)
no_later_before (inr h) (inr k) = inr (omega arith, omega arith)

-- the same address, or one that ranks before
pub ranks_no_later : (priority : ℕ → ℕ) {a b : ℕ} → (a ≡ b) ⊎ RanksBefore priority a b → RanksNoLater priority a b
ranks_no_later priority {a} {b} (inl same) = inr (ap priority same, omega arith)
ranks_no_later priority (inr before) = before-no_later before

-- the first entry of those that have P, in an order R of all numbers
module _ (R : ℕ → ℕ → Type 0) (order : (a b : ℕ) → (a ≡ b) ⊎ (R a b ⊎ R b a))
    (trans : (a b c : ℕ) → R a b → R b c → R a c) (P : ℕ → Type 0) where
  -- f is one of them, and the others come after it
  pub record IsFirstOf (xs : List ℕ) (f : ℕ) : Type 0 where
    pub entry : IsIn f xs
    pub is : P f
    pub first : (a : ℕ) → IsIn a xs → P a → (a ≡ f) ⊎ R f a

  -- a first one, or none
  pub first_of : (xs : List ℕ) → ((a : ℕ) → IsIn a xs → P a ⊎ (P a → ⊥)) →
      ((f : ℕ) × IsFirstOf xs f) ⊎ ((a : ℕ) → IsIn a xs → P a → ⊥)
  first_of [] decide = inr (λ a h. absurd h)
  first_of (x ∷ xs) decide = ⊎_elim
      (λ (yes : P x). ⊎_elim
      (λ (r : (f : ℕ) × IsFirstOf xs f). ⊎_elim
      (λ (same : x ≡ r.0). inl (
        x,
        record {
          entry = inl refl;
          is = yes;
          first = λ a h k. tail_or_head a h (λ e. inl (sym e)) (λ i. follow a r.0 (inl same) (r.1.first a i k));
        },
      ))
      (λ differ. ⊎_elim
      (λ (before : R x r.0). inl (
        x,
        record {
          entry = inl refl;
          is = yes;
          first = λ a h k. tail_or_head a h (λ e. inl (sym e)) (λ i. follow a r.0 (inr before) (r.1.first a i k));
        },
      ))
      (λ (after : R r.0 x). inl (
        r.0,
        record {
          entry = inr r.1.entry;
          is = r.1.is;
          first = λ a h k. tail_or_head a h (λ e. inr (subst (λ z. R r.0 z) e after)) (λ i. r.1.first a i k);
        },
      ))
      differ)
      (order x r.0))
      (λ none. inl (
        x,
        record {
          entry = inl refl;
          is = yes;
          first = λ a h k. tail_or_head a h (λ e. inl (sym e)) (λ i. absurd (none a i k));
        },
      ))
      (first_of xs (λ a i. decide a (inr i))))
      (λ (no : P x → ⊥). ⊎_elim
      (λ (r : (f : ℕ) × IsFirstOf xs f). inl (
        r.0,
        record {
          entry = inr r.1.entry;
          is = r.1.is;
          first = λ a h k. tail_or_head a h (λ e. absurd (no (subst P (sym e) k))) (λ i. r.1.first a i k);
        },
      ))
      (λ none. inr (λ a h k. tail_or_head_no a h (λ e. no (subst P (sym e) k)) (λ i. none a i k)))
      (first_of xs (λ a i. decide a (inr i))))
      (decide x (inl refl))
    where
      tail_or_head : {Q : Type 0} (a : ℕ) → IsIn a (x ∷ xs) → (x ≡ a → Q) → (IsIn a xs → Q) → Q
      tail_or_head a (inl e) head tail = head e
      tail_or_head a (inr i) head tail = tail i

      tail_or_head_no : (a : ℕ) → IsIn a (x ∷ xs) → (x ≡ a → ⊥) → (IsIn a xs → ⊥) → ⊥
      tail_or_head_no a (inl e) head tail = head e
      tail_or_head_no a (inr i) head tail = tail i

      follow : (a f : ℕ) → (x ≡ f) ⊎ R x f → (a ≡ f) ⊎ R f a → (a ≡ x) ⊎ R x a
      follow a f (inl same) (inl e) = inl (e ∙ sym same)
      follow a f (inl same) (inr h) = inr (subst (λ z. R z a) (sym same) h)
      follow a f (inr before) (inl e) = inr (subst (λ z. R x z) (sym e) before)
      follow a f (inr before) (inr h) = inr (trans x f a before h)
