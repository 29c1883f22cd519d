-- The steps of a decider of conforming lists: the ancestors by flags, their number and mates, the entries.
use Rattle.std.proofs.Common.{◌≡◌, ℕ, ◌+◌, ◌/◌, ◌<◌, ◌≤◌, ◌⊎◌, inl, inr, Bool, true, false, eqb, nat_eq, ◌||◌, IsTrue}
use Rattle.std.proofs.Common.{List, [], ◌∷◌, ◌++◌, length, take, drop, get_or, All, append_assoc, refl, sym, ◌∙◌, ap}
use Rattle.std.proofs.Common.{subst, arith, ⊎_elim, eq-eqb}
use Rattle.std.proofs.lemmas.Bool.{cases_eq, cases_Bool, both_ways, or_cases, or_left, or_right, eqb-true}
use Rattle.std.proofs.Math.Bool.{or-false, or_assoc}
use Rattle.std.proofs.lemmas.List.{take_more, take-append-drop}
use Rattle.mesh_defs.specs.Triangle.{IsAddress, IsSplittable, IsMate}
use Rattle.mesh_defs.specs.Tiling.{IsConforming}
use Rattle.mesh_defs.specs.ClosedSet.{among}
use Rattle.mesh_defs.specs.Greedy.{with_triangle}
use Rattle.mesh_laws.specs.Ancestors.{is_above, ancestors_of}
use Rattle.mesh_laws.proofs.ConformityLemmas.{self, member_above}
use Rattle.mesh_defs.proofs.ListLemmas.{IsIn, IsIn-contains, Contains-in, Any-in}
use Rattle.mesh_laws.proofs.ConverseLemmas.{under-above}
use Rattle.mesh_defs.proofs.TestLemmas.{same_tests}
use Rattle.std.specs.List.{IsDistinct}
use Rattle.certificate_laws.proofs.DistinctLemmas.{distinct-none, distinct-cons, distinct-head, distinct-tail}
use Rattle.mesh_laws.proofs.SetListLemmas.{length-distinct}
use Rattle.mesh_laws.specs.Sweep.{IsParentMarked}
use Rattle.roam_certify.specs.Climb.{AreParentsFlagged, IsClimbed, IsCountedBelow, AreLeavesOf}
use Rattle.certificate_laws.proofs.CutLemmas.{ancestor_of, ancestor-splittable, ancestor-parent, conforming-cut}
use Rattle.certificate_laws.proofs.CutLemmas.{cut-conforming}

-- ancestors

module _ (n : ℕ) (triangles : List ℕ) (addresses : All (IsAddress n) triangles) where
  -- one entry more
  pub entered-next : (first : List ℕ) (has next : ℕ → Bool) (e : ℕ) → IsIn e triangles →
      AreParentsFlagged triangles first has → IsParentMarked e has next →
      AreParentsFlagged triangles (first ++ e ∷ []) next
  entered-next first has next e listed is m = record {
    within = λ a h. ⊎_elim
        (λ old. is.within a old)
        (λ (new : (4 ≤ e) × (a ≡ e / 2)). let big = new.0 in
        subst (λ z. IsTrue (ancestors_of triangles z)) (sym new.1)
        (ancestor_of n triangles addresses (e / 2) e listed (omega arith) new.0 self))
        (m.only a h);
    holds = λ d i big. ⊎_elim
        (λ old. m.keeps (d / 2) (is.holds d (Contains-in d first old) big))
        (λ same. subst (λ z. 4 ≤ z → IsTrue (next (z / 2))) same m.parent big)
        (last_in first d (IsIn-contains d (first ++ e ∷ []) i));
  }
    where
      last_in : (xs : List ℕ) (d : ℕ) → IsIn d (xs ++ e ∷ []) → IsIn d xs ⊎ (e ≡ d)
      last_in [] d (inl same) = inr same
      last_in [] d (inr i) = absurd i
      last_in (x ∷ xs) d (inl same) = inl (inl same)
      last_in (x ∷ xs) d (inr i) = ⊎_elim (λ h. inl (inr h)) (λ same. inr same) (last_in xs d i)

  -- once all entries are there, no address was visited
  pub climbed-first : (has : ℕ → Bool) (k : ℕ) → AreParentsFlagged triangles triangles has →
      ((a : ℕ) → IsSplittable n a → a < k) → IsClimbed triangles has k
  climbed-first has k is all = record {
    within = is.within;
    holds = is.holds;
    parent = λ a late h big.
        let less = all a (ancestor-splittable n triangles addresses a (is.within a h)) in
        absurd (omega arith);
  }

  -- a visit
  pub climbed-mark : (has next : ℕ → Bool) (k : ℕ) → IsClimbed triangles has (k + 1) → IsTrue (has k) →
      IsParentMarked k has next → IsClimbed triangles next k
  climbed-mark has next k is flagged m = record {
    within = λ a h. ⊎_elim
        (λ old. is.within a old)
        (λ (new : (4 ≤ k) × (a ≡ k / 2)). subst (λ z. IsTrue (ancestors_of triangles z)) (sym new.1)
        (ancestor-parent n triangles addresses k (is.within k flagged) new.0))
        (m.only a h);
    holds = λ e listed big. m.keeps (e / 2) (is.holds e listed big);
    parent = λ a late h big. ⊎_elim
        (λ same. subst (λ z. 4 ≤ z → IsTrue (next (z / 2))) same m.parent big)
        (λ other. ⊎_elim
        (λ old. m.keeps (a / 2) (is.parent a (omega arith) old big))
        (λ (new : (4 ≤ k) × (a ≡ k / 2)). let half = new.1 in let large = new.0 in absurd (omega arith))
        (m.only a h))
        (cases_eq k a);
  }

  pub climbed-skip : (has : ℕ → Bool) (k : ℕ) → IsClimbed triangles has (k + 1) → has k ≡ false →
      IsClimbed triangles has k
  climbed-skip has k is none = record {
    within = is.within;
    holds = is.holds;
    parent = λ a late h big. ⊎_elim
        (λ same. absurd (both_ways (has k) none (subst (λ z. IsTrue (has z)) (sym same) h)))
        (λ other. is.parent a (omega arith) h big)
        (cases_eq k a);
  }

  -- at the end the flags are the ancestors
  pub climbed-last : (has : ℕ → Bool) (k : ℕ) → k ≤ 4 → IsClimbed triangles has k → (a : ℕ) →
      has a ≡ ancestors_of triangles a
  climbed-last has k low is a = same_tests (has a) (ancestors_of triangles a) (is.within a) (λ h.
      let e = Any-in (λ e. is_above a e) triangles h in
      let parts = under-above a e.0 e.2 in
      member_above has (λ b member big. is.parent b (omega arith) member big) a (e.0 / 2) parts.2
      (is.holds e.0 (Contains-in e.0 triangles e.1) parts.1))

-- counting

-- at first nothing is counted
pub counted-first : (n : ℕ) (has : ℕ → Bool) → ((a : ℕ) → IsTrue (has a) → 2 ≤ a) → IsCountedBelow n has 2 0
counted-first n has low = record {
  members = [];
  once = distinct-none;
  same = λ a. ((λ h. absurd (both_ways false refl h)), (λ r. let l = low a r.1 in let m = r.0 in absurd (omega arith)));
  counted = refl;
  few = omega arith;
  mates = λ a b less h mate. let l = low a h in absurd (omega arith);
}

-- one member more, whose mate is there
pub counted-more : (n : ℕ) (has : ℕ → Bool) (k count : ℕ) → IsCountedBelow n has k count → IsTrue (has k) →
    ((b : ℕ) → IsMate n k b → IsTrue (has b)) →
    IsCountedBelow n has (k + 1) (count + 1)
counted-more n has k count is member mate = record {
  members = k ∷ is.members;
  once = distinct-cons k is.members (λ h. let r = (is.same k).0 h in let less = r.0 in absurd (omega arith)) is.once;
  same = λ a. (
    (λ h. ⊎_elim
        (λ (own : eqb k a ≡ true). let e = eqb-true k a own in ((omega arith), subst (λ z. IsTrue (has z)) e member))
        (λ old. let r = (is.same a).0 old in let less = r.0 in ((omega arith), r.1))
        (or_cases (eqb k a) (among is.members a) h)),
    (λ r. ⊎_elim
        (λ same. or_left (eqb k a) (among is.members a) (eq-eqb k a same))
        (λ other. or_right (eqb k a) (among is.members a) ((is.same a).1 ((let less = r.0 in omega arith), r.1)))
        (cases_eq k a)),
  );
  counted = let c = is.counted in omega arith;
  few = let f = is.few in omega arith;
  mates = λ a b less h m. ⊎_elim
      (λ same. mate b (subst (λ z. IsMate n z b) (sym same) m))
      (λ other. is.mates a b (omega arith) h m)
      (cases_eq k a);
}

-- an address that is no member
pub counted-skip : (n : ℕ) (has : ℕ → Bool) (k count : ℕ) → IsCountedBelow n has k count → has k ≡ false →
    IsCountedBelow n has (k + 1) count
counted-skip n has k count is none = record {
  members = is.members;
  once = is.once;
  same = λ a. (
    (λ h. let r = (is.same a).0 h in let less = r.0 in ((omega arith), r.1)),
    (λ r. ⊎_elim
        (λ same. absurd (both_ways (has k) none (subst (λ z. IsTrue (has z)) (sym same) r.1)))
        (λ other. (is.same a).1 ((let less = r.0 in omega arith), r.1))
        (cases_eq k a)),
  );
  counted = is.counted;
  few = let f = is.few in omega arith;
  mates = λ a b less h m. ⊎_elim
      (λ same. absurd (both_ways (has k) none (subst (λ z. IsTrue (has z)) (sym same) h)))
      (λ other. is.mates a b (omega arith) h m)
      (cases_eq k a);
}

-- entries

-- an entry behind others that is none of them
pub distinct-next : (xs : List ℕ) (x : ℕ) → IsDistinct nat_eq xs → (IsTrue (among xs x) → ⊥) →
    IsDistinct nat_eq (xs ++ x ∷ [])
distinct-next [] x d new = distinct-cons x [] (λ h. absurd (both_ways false refl h)) distinct-none
distinct-next (y ∷ ys) x d new = distinct-cons y (ys ++ x ∷ [])
    (λ h. ⊎_elim
    (λ old. distinct-head y ys d old)
    (λ same. new (or_left (eqb y x) (among ys x) (eq-eqb y x (sym same))))
    (last_among ys y h))
    (distinct-next ys x (distinct-tail y ys d) (λ h. new (or_right (eqb y x) (among ys x) h)))
  where
    last_among : (zs : List ℕ) (a : ℕ) → IsTrue (among (zs ++ x ∷ []) a) → IsTrue (among zs a) ⊎ (x ≡ a)
    last_among [] a h =
        ⊎_elim (λ own. inr (eqb-true x a own)) (λ none. absurd (both_ways false refl none)) (or_cases (eqb x a) false h)
    last_among (z ∷ zs) a h = ⊎_elim
        (λ own. inl (or_left (eqb z a) (among zs a) own))
        (λ rest. ⊎_elim (λ old. inl (or_right (eqb z a) (among zs a) old)) (λ same. inr same) (last_among zs a rest))
        (or_cases (eqb z a) (among (zs ++ x ∷ []) a) h)

-- no entry stands among those before it
pub distinct-before : (xs : List ℕ) (x : ℕ) (ys : List ℕ) → IsDistinct nat_eq (xs ++ x ∷ ys) → IsTrue (among xs x) → ⊥
distinct-before [] x ys d h = both_ways false refl h
distinct-before (z ∷ zs) x ys d h = ⊎_elim
    (λ own. distinct-head z (zs ++ x ∷ ys) d (in_later zs (sym (eqb-true z x own))))
    (λ rest. distinct-before zs x ys (distinct-tail z (zs ++ x ∷ ys) d) rest)
    (or_cases (eqb z x) (among zs x) h)
  where
    in_later : (ws : List ℕ) → x ≡ z → IsTrue (among (ws ++ x ∷ ys) z)
    in_later [] same = or_left (eqb x z) (among ys z) (eq-eqb x z same)
    in_later (w ∷ ws) same = or_right (eqb w z) (among (ws ++ x ∷ ys) z) (in_later ws same)

-- the test as a whole

-- flags of the ancestors, all counted, and entries that are leaves: conforming exactly where the number fits
pub conforming-counted : (n : ℕ) (triangles : List ℕ) (has : ℕ → Bool) (k count : ℕ) → All (IsAddress n) triangles →
    ((a : ℕ) → has a ≡ ancestors_of triangles a) →
    ((a : ℕ) → IsSplittable n a → a < k) → IsCountedBelow n has k count → AreLeavesOf has triangles →
    length triangles ≡ count + 2 → IsConforming n triangles
conforming-counted n triangles has k count addresses same below counted leaves fits =
    conforming-cut n triangles record {
      addresses = addresses;
      distinct = leaves.distinct;
      outside = λ a listed h. both_ways (has a) (leaves.outside a listed) (same a ∙ h);
      mates = λ a b h mate. sym (same b)
          ∙ counted.mates a b (below a (ancestor-splittable n triangles addresses a h)) (same a ∙ h) mate;
      members = counted.members;
      once = counted.once;
      same = λ a. (
        (λ h. sym (same a) ∙ ((counted.same a).0 h).1),
        (λ h. (counted.same a).1 (below a (ancestor-splittable n triangles addresses a h), same a ∙ h)),
      );
      counted = fits ∙ ap (λ z. z + 2) (sym counted.counted);
    }

-- and a conforming list passes each part

module _ (n : ℕ) (triangles : List ℕ) (has : ℕ → Bool) (same : (a : ℕ) → has a ≡ ancestors_of triangles a)
    (conforming : IsConforming n triangles) where
  -- mates are split
  pub conforming-mates : (a b : ℕ) → IsTrue (has a) → IsMate n a b → IsTrue (has b)
  conforming-mates a b h mate = same b ∙ (cut-conforming n triangles conforming).mates a b (sym (same a) ∙ h) mate

  -- entries are leaves
  pub conforming-leaves : AreLeavesOf has triangles
  conforming-leaves =
      let cut = cut-conforming n triangles conforming in record {
        distinct = cut.distinct;
        outside = λ a listed. ⊎_elim
            (λ yes. absurd (cut.outside a listed (sym (same a) ∙ yes)))
            (λ no. no)
            (cases_Bool (has a));
      }

  -- and their number fits
  pub conforming-fits : (k count : ℕ) → ((a : ℕ) → IsSplittable n a → a < k) → IsCountedBelow n has k count →
      length triangles ≡ count + 2
  conforming-fits k count below is =
      let cut = cut-conforming n triangles conforming in
      let fewer =
      length-distinct is.members cut.members is.once (λ a h. (cut.same a).1 (sym (same a) ∙ ((is.same a).0 h).1)) in
      let more = length-distinct cut.members is.members cut.once (λ a h.
      let above = (cut.same a).0 h in
      (is.same a).1 (below a (ancestor-splittable n triangles cut.addresses a above), same a ∙ above)) in
      let one = is.counted in let two = cut.counted in omega arith

-- going on by one entry

-- the entries so far, with one more
among-next : (xs : List ℕ) (x a : ℕ) → among (xs ++ x ∷ []) a ≡ with_triangle (among xs) x a
among-next [] x a = or-false (eqb x a)
among-next (y ∷ ys) x a = ap (λ b. eqb y a || b) (among-next ys x a) ∙ sym (or_assoc (eqb y a) (among ys a) (eqb x a))

module _ (triangles : List ℕ) (k x : ℕ) (within : k < length triangles) (is : x ≡ get_or triangles k x) where
  -- the first ones, and this one
  pub take-entry : take (k + 1) triangles ≡ take k triangles ++ x ∷ []
  take-entry = take_more triangles k x within ∙ ap (λ z. take k triangles ++ z ∷ []) (sym is)

  -- an entry
  pub entry-in : IsIn x triangles
  entry-in = subst (λ l. IsIn x l) (take-append-drop (k + 1) triangles)
      (in_left (take (k + 1) triangles) (drop (k + 1) triangles)
      (subst (λ l. IsIn x l) (sym take-entry) (last (take k triangles))))
    where
      last : (ys : List ℕ) → IsIn x (ys ++ x ∷ [])
      last [] = inl refl
      last (y ∷ ys) = inr (last ys)

      in_left : (ys zs : List ℕ) → IsIn x ys → IsIn x (ys ++ zs)
      in_left [] zs i = absurd i
      in_left (y ∷ ys) zs (inl e) = inl e
      in_left (y ∷ ys) zs (inr i) = inr (in_left ys zs i)

  -- what was entered
  pub entered-step : (n : ℕ) (has next : ℕ → Bool) → All (IsAddress n) triangles →
      AreParentsFlagged triangles (take k triangles) has → IsParentMarked x has next →
      AreParentsFlagged triangles (take (k + 1) triangles) next
  entered-step n has next addresses entered m = subst (λ l. AreParentsFlagged triangles l next) (sym take-entry)
      (entered-next n triangles addresses (take k triangles) has next x entry-in entered m)

  -- what was seen
  pub seen-next : (seen next : ℕ → Bool) → ((a : ℕ) → seen a ≡ among (take k triangles) a) →
      ((a : ℕ) → next a ≡ with_triangle seen x a) →
      (a : ℕ) → next a ≡ among (take (k + 1) triangles) a
  seen-next seen next same added a =
      added a ∙ ap (λ b. b || eqb x a) (same a)
      ∙ sym (ap (λ l. among l a) take-entry ∙ among-next (take k triangles) x a)

  -- a new leaf
  pub leaves-next : (has : ℕ → Bool) → AreLeavesOf has (take k triangles) → has x ≡ false →
      among (take k triangles) x ≡ false → AreLeavesOf has (take (k + 1) triangles)
  leaves-next has are outside new = subst (λ l. AreLeavesOf has l) (sym take-entry) record {
    distinct = distinct-next (take k triangles) x are.distinct (λ h. both_ways (among (take k triangles) x) new h);
    outside = λ a listed. by_case a (IsIn-contains a (take k triangles ++ x ∷ []) listed) (take k triangles)
        (λ b i. are.outside b (Contains-in b (take k triangles) i));
  }
    where
      by_case : (a : ℕ) → IsIn a (take k triangles ++ x ∷ []) → (ys : List ℕ) →
          ((b : ℕ) → IsIn b (take k triangles) → has b ≡ false) → has a ≡ false
      by_case a i ys each =
          ⊎_elim (each a) (λ same. subst (λ z. has z ≡ false) same outside) (split (take k triangles) i)
        where
          split : (zs : List ℕ) → IsIn a (zs ++ x ∷ []) → IsIn a zs ⊎ (x ≡ a)
          split [] (inl same) = inr same
          split [] (inr i) = absurd i
          split (z ∷ zs) (inl same) = inl (inl same)
          split (z ∷ zs) (inr i) = ⊎_elim (λ h. inl (inr h)) (λ same. inr same) (split zs i)

  -- one that is split, or was seen, is no new leaf
  pub leaves-bad : (has : ℕ → Bool) → (has x ≡ true) ⊎ (among (take k triangles) x ≡ true) →
      AreLeavesOf has triangles → ⊥
  leaves-bad has (inl split) are = both_ways (has x) (are.outside x (Contains-in x triangles entry-in)) split
  leaves-bad has (inr seen) are = distinct-before (take k triangles) x (drop (k + 1) triangles)
      (subst (λ l. IsDistinct nat_eq l) (sym (take-append-drop (k + 1) triangles)
      ∙ ap (λ l. l ++ drop (k + 1) triangles) take-entry
      ∙ append_assoc (take k triangles) (x ∷ []) (drop (k + 1) triangles)) are.distinct) seen
