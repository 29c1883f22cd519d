-- Priorities of what is open, and the open triangles as a set.
use Rattle.std.proofs.Common.{◌≡◌, ℕ, zero, suc, ◌/◌, ◌<◌, ◌≤◌, inl, inr, Bool, true, false, cond, ◌||◌, nat_eq}
use Rattle.std.proofs.Common.{IsTrue, List}
use Rattle.std.proofs.Common.{[], ◌∷◌, take, refl, arith, ⊎_elim, Option}
use Rattle.std.proofs.lemmas.Bool.{false≢true, cases_lt, and_parts, and_from, or_left, or_right, or_cases, eqb-true}
use Rattle.std.proofs.lemmas.Bool.{eq-eqb}
use Rattle.mesh_defs.specs.Triangle.{IsSplittable, IsMate}
use Rattle.mesh_defs.specs.ClosedSet.{IsClosed, IsSubset}
use Rattle.mesh_defs.specs.Falling.{IsFalling}
use Rattle.mesh_defs.proofs.ListLemmas.{IsIn, Contains-in, IsIn-among}
use Rattle.mesh_defs.proofs.TestLemmas.{same_tests}
use Rattle.bintree_addr.specs.declared.blocked.Blocked.{Blocked}
use Rattle.mesh_laws.specs.Edge.{mate_of}
use Rattle.mesh_laws.specs.Frame.{IsFrame}
use Rattle.mesh_laws.proofs.IsMateLemmas.{IsMate-mate_of, mate_of-IsMate}
use Rattle.page_laws.specs.Opened.{IsOpen, with_known_mate, opened}

-- priorities

closed_zero : (b : Bool) (p : ℕ) → p ≡ 0 → cond b p 0 ≡ 0
closed_zero true p e = e
closed_zero false p e = refl

opened_le : (b c : Bool) (p q : ℕ) → (IsTrue b → IsTrue c) → (IsTrue b → p ≤ q) → cond b p 0 ≤ cond c q 0
opened_le true true p q up le = le refl
opened_le true false p q up le = absurd (false≢true (up refl))
opened_le false c p q up le = omega arith

-- they fall where the open set has the parents of its members
pub opened-falls : (n : ℕ) (is_open : ℕ → Bool) (priority : ℕ → ℕ) → IsClosed n is_open → IsFalling n priority →
    IsFalling n (opened is_open priority)
opened-falls n is_open priority closed falls = record {
  finest = λ a address level. closed_zero (is_open a) (priority a) (falls.finest a address level);
  child = λ a address low. opened_le (is_open a) (is_open (a / 2)) (priority a) (priority (a / 2))
      (λ h. closed.parent a h low) (λ h. falls.child a address low);
}

positive_open : (b : Bool) (p : ℕ) → 0 < cond b p 0 → IsTrue b
positive_open true p h = refl
positive_open false p h = absurd (omega arith)

taken_in : (k a : ℕ) (xs : List ℕ) → IsIn a (take k xs) → IsIn a xs
taken_in zero a xs h = absurd h
taken_in (suc k) a [] h = absurd h
taken_in (suc k) a (x ∷ xs) (inl e) = inl e
taken_in (suc k) a (x ∷ xs) (inr h) = inr (taken_in k a xs h)

-- what a frame splits is open
pub opened-frame : (n budget : ℕ) (is_open : ℕ → Bool) (priority : ℕ → ℕ) (has : ℕ → Bool) (worst : ℕ)
    (blocked : Option Blocked) → IsClosed n is_open → IsFrame n budget (opened is_open priority) has worst blocked →
    IsSubset has is_open
opened-frame n budget is_open priority has worst blocked closed frame =
    frame.closure.closure.least is_open closed (λ a taken.
    let listed : IsIn a frame.ranking =
    taken_in frame.chosen a frame.ranking (IsIn-among a (take frame.chosen frame.ranking) taken) in
    positive_open (is_open a) (priority a) ((frame.ranked.members a).0 (Contains-in a frame.ranking listed)).1)

-- the open set

-- there is one at most
pub open-unique : (n : ℕ) (known is_open other : ℕ → Bool) → IsOpen n known is_open → IsOpen n known other → (a : ℕ) →
    is_open a ≡ other a
open-unique n known is_open other one two a =
    same_tests (is_open a) (other a) (two.greatest is_open one.closed one.inside a)
    (one.greatest other two.closed two.inside a)

module _ (known : ℕ → Bool) (a : ℕ) where
  -- what is known of a member
  pub mate-parts : IsTrue (with_known_mate known a) → IsTrue (known a)
  mate-parts h = (and_parts (known a) (nat_eq (mate_of a) 0 || known (mate_of a)) h).0

  -- its mate is known
  pub mate-known : (n b : ℕ) → IsSplittable n a → IsTrue (with_known_mate known a) → IsMate n a b → IsTrue (known b)
  mate-known n b s h mate =
      let coarse = s.coarse in
      let same : mate_of a ≡ b = mate_of-IsMate n a b s.low (omega arith) mate in
      let low = mate.address.low in
      ⊎_elim
      (λ none. let z = eqb-true (mate_of a) 0 none in absurd (omega arith))
      (λ (some : IsTrue (known (mate_of a))). rw same at some)
      (or_cases (nat_eq (mate_of a) 0) (known (mate_of a))
      (and_parts (known a) (nat_eq (mate_of a) 0 || known (mate_of a)) h).1)

  -- and what is enough
  pub mate-from : (n : ℕ) → IsSplittable n a → IsTrue (known a) → ((b : ℕ) → IsMate n a b → IsTrue (known b)) →
      IsTrue (with_known_mate known a)
  mate-from n s h mates = and_from (known a) (nat_eq (mate_of a) 0 || known (mate_of a)) h (
      ⊎_elim
      (λ none. or_left (nat_eq (mate_of a) 0) (known (mate_of a)) (eq-eqb (mate_of a) 0 (omega arith)))
      (λ some.
      let coarse = s.coarse in
      or_right (nat_eq (mate_of a) 0) (known (mate_of a))
      (mates (mate_of a) (IsMate-mate_of n a s.low (omega arith) some)))
      (cases_lt (mate_of a) 1))
