-- Diamonds: a triangle and its mate, what a closed set has of one, and sets with one more and with one less.
use Rattle.std.proofs.Common.{◌≡◌, ◌≢◌, ℕ, ◌+◌, ◌*◌, ◌/◌, ◌%◌, ◌<◌, ◌≤◌, ◌⊎◌, inl, inr, Bool, false, not, eqb, ◌||◌}
use Rattle.std.proofs.Common.{◌↔◌, IsTrue, List, [], ◌∷◌, length, Contains, refl, sym, ap, subst, arith, ⊎_elim, eq-eqb}
use Rattle.std.specs.List.{filter}
use Rattle.std.proofs.lemmas.Bool.{cases_lt, cases_Bool, both_ways, eqb-true, or_cases, or_left, or_right, not-true}
use Rattle.std.proofs.lemmas.Bool.{not_from_false, false_from_ne_true}
use Rattle.std.proofs.lemmas.List.Elements.{All-nil, All-cons, All-contains}
use Rattle.mesh_defs.specs.Triangle.{level_of, IsAddress, IsMate}
use Rattle.mesh_defs.specs.ClosedSet.{IsClosed, IsSubset, leaves_of, among}
use Rattle.bintree_laws.proofs.CentreLemmas.{mate_unique, mate_symmetric, border_or_mate, not_border_and_mate}
use Rattle.mesh_laws.proofs.DescentLemmas.{IsAddress-splittable}
use Rattle.mesh_defs.proofs.ListLemmas.{Contains-in, IsIn-among, among-in}
use Rattle.mesh_defs.specs.GridSet.{IsAscending, IsForced}
use Rattle.mesh_laws.specs.Diamond.{IsInDiamond, IsChildless, CanSplit, CanMerge, IsWithDiamond, IsWithoutDiamond}
use Rattle.mesh_laws.proofs.ClosureLemmas.{IsOuter, IsOuter-leaves_of, leaf-outer}
use Rattle.mesh_laws.proofs.ForcingLemmas.{with-cases, with-old, with-new}
use Rattle.mesh_laws.proofs.SetListLemmas.{among-filter, filter-among, ascending-filter, same_list, length-parts}

module _ (n : ℕ) where
  -- a triangle has a mate or none
  pub mate_or_none : (a : ℕ) → IsAddress n a → ((m : ℕ) × IsMate n a m) ⊎ ((m : ℕ) → IsMate n a m → ⊥)
  mate_or_none a address = ⊎_elim
      (λ border. inr (λ m mate. not_border_and_mate n a m address border mate))
      (λ found. inl found)
      (border_or_mate n a address)

  -- a diamond is the same from each of its triangles
  pub diamond_trans : (a b c : ℕ) → IsAddress n a → IsInDiamond n a b → IsInDiamond n b c → IsInDiamond n a c
  diamond_trans a b c address (inl same) i = subst (λ z. IsInDiamond n z c) same i
  diamond_trans a b c address (inr mate) (inl same) = inr (subst (λ z. IsMate n a z) (sym same) mate)
  diamond_trans a b c address (inr mate) (inr back) =
      inl (mate_unique n b c a mate.address back (mate_symmetric n a b address mate))

  pub diamond_symmetric : (a b : ℕ) → IsAddress n a → IsInDiamond n a b → IsInDiamond n b a
  diamond_symmetric a b address (inl same) = inl (sym same)
  diamond_symmetric a b address (inr mate) = inr (mate_symmetric n a b address mate)

  pub diamond_level : (a b : ℕ) → IsInDiamond n a b → level_of b ≡ level_of a
  diamond_level a b (inl same) = ap level_of same
  diamond_level a b (inr mate) = mate.level

  pub diamond_address : (a b : ℕ) → IsAddress n a → IsInDiamond n a b → IsAddress n b
  diamond_address a b address (inl same) = subst (λ z. IsAddress n z) (sym same) address
  diamond_address a b address (inr mate) = mate.address

  -- a closed set has a whole diamond or nothing of it
  pub diamond_closed : (has : ℕ → Bool) (a b : ℕ) → IsClosed n has → IsTrue (has a) → IsInDiamond n a b → IsTrue (has b)
  diamond_closed has a b closed member (inl same) = subst (λ z. IsTrue (has z)) (sym same) member
  diamond_closed has a b closed member (inr mate) = closed.mate a b member mate

  -- a diamond has a test
  pub diamond_test : (a : ℕ) → IsAddress n a → (test : ℕ → Bool) × ((b : ℕ) → IsTrue (test b) ↔ IsInDiamond n a b)
  diamond_test a address = ⊎_elim
      (λ (found : (m : ℕ) × IsMate n a m). (
        (λ b. eqb b a || eqb b found.0),
        λ b. (
          (λ h. ⊎_elim
              (λ first. inl (eqb-true b a first))
              (λ second. inr (subst (λ z. IsMate n a z) (sym (eqb-true b found.0 second)) found.1))
              (or_cases (eqb b a) (eqb b found.0) h)),
          (λ i. ⊎_elim
              (λ (same : b ≡ a). or_left (eqb b a) (eqb b found.0) (eq-eqb b a same))
              (λ (mate : IsMate n a b). or_right (eqb b a) (eqb b found.0)
              (eq-eqb b found.0 (mate_unique n a b found.0 address mate found.1)))
              i),
        ),
      ))
      (λ none. (
        (λ b. eqb b a),
        λ b. (
          (λ h. inl (eqb-true b a h)),
          (λ i. ⊎_elim (λ (same : b ≡ a). eq-eqb b a same) (λ mate. absurd (none b mate)) i),
        ),
      ))
      (mate_or_none a address)

  -- children

  -- a child of the diamond that is a member
  pub record ChildMember (has : ℕ → Bool) (a : ℕ) : Type 0 where
    pub child : ℕ
    pub big : 4 ≤ child
    pub in_diamond : IsInDiamond n a (child / 2)
    pub member : IsTrue (has child)

  one_childless : (has : ℕ → Bool) (a b : ℕ) → 2 ≤ b → IsInDiamond n a b → ChildMember has a ⊎ IsChildless has b
  one_childless has a b low i = ⊎_elim
      (λ left. inl record {
        child = 2 * b;
        big = omega arith;
        in_diamond = subst (λ z. IsInDiamond n a z) (let e : b ≡ 2 * b / 2 = omega arith in e) i;
        member = left;
      })
      (λ no_left. ⊎_elim
      (λ right. inl record {
        child = 2 * b + 1;
        big = omega arith;
        in_diamond = subst (λ z. IsInDiamond n a z) (let e : b ≡ (2 * b + 1) / 2 = omega arith in e) i;
        member = right;
      })
      (λ no_right. inr (no_left, no_right))
      (cases_Bool (has (2 * b + 1))))
      (cases_Bool (has (2 * b)))

  -- a diamond has a child that is a member, or no such child
  pub child_or_childless : (has : ℕ → Bool) (a : ℕ) → IsAddress n a →
      ChildMember has a ⊎ ((b : ℕ) → IsInDiamond n a b → IsChildless has b)
  child_or_childless has a address = ⊎_elim
      (λ below. inl below)
      (λ (own : IsChildless has a). ⊎_elim
      (λ (found : (m : ℕ) × IsMate n a m). ⊎_elim
      (λ below. inl below)
      (λ (across : IsChildless has found.0). inr (λ b i. ⊎_elim
      (λ (same : b ≡ a). subst (λ z. IsChildless has z) (sym same) own)
      (λ (mate : IsMate n a b). subst (λ z. IsChildless has z) (mate_unique n a found.0 b address found.1 mate) across)
      i))
      (one_childless has a found.0 found.1.address.low (inr found.1)))
      (λ none. inr (λ b i. ⊎_elim
      (λ (same : b ≡ a). subst (λ z. IsChildless has z) (sym same) own)
      (λ mate. absurd (none b mate))
      i))
      (mate_or_none a address))
      (one_childless has a a address.low (inl refl))

  -- a member below b is not missing
  pub not_childless : (has : ℕ → Bool) (child b : ℕ) → child / 2 ≡ b → IsChildless has b → IsTrue (has child) → ⊥
  not_childless has child b half none member = ⊎_elim
      (λ (even : child % 2 < 1). both_ways (has child)
      (subst (λ z. has z ≡ false) (let e : 2 * b ≡ child = omega arith in e) none.0) member)
      (λ (odd : 1 ≤ child % 2). both_ways (has child)
      (subst (λ z. has z ≡ false) (let e : 2 * b + 1 ≡ child = omega arith in e) none.1) member)
      (cases_lt (child % 2) 1)

  -- leaves

  -- a leaf of a closed set is no member and stands below a member
  pub leaf_outside : (has : ℕ → Bool) (a : ℕ) → IsClosed n has → Contains (leaves_of n has) a → IsOuter n has a
  leaf_outside has a closed leaf =
      All-contains (IsOuter n has) (leaves_of n has) a (IsOuter-leaves_of n has closed) leaf

  -- and an address that is so is a leaf
  pub outside_leaf : (has : ℕ → Bool) (a : ℕ) → IsClosed n has → IsOuter n has a → Contains (leaves_of n has) a
  outside_leaf has a closed outer = Contains-in a (leaves_of n has) (leaf-outer n has a closed outer)

  -- a set with a diamond more

  -- where the diamond can be split alone, it is closed
  added_closed : (has after : ℕ → Bool) (d : ℕ) → IsClosed n has → CanSplit n has d →
      ((b : ℕ) → IsTrue (after b) ↔ (IsTrue (has b) ⊎ IsInDiamond n d b)) → IsClosed n after
  added_closed has after d closed can members =
      let address : IsAddress n d = IsAddress-splittable n d can.splittable in
      record {
        splittable = λ a h. ⊎_elim
            (λ old. closed.splittable a old)
            (λ new. let coarse = can.splittable.coarse in let same = diamond_level d a new in
            record { low = (diamond_address d a address new).low; coarse = omega arith })
            ((members a).0 h);
        parent = λ a h big. (members (a / 2)).1 (inl (⊎_elim
            (λ old. closed.parent a old big)
            (λ new. (leaf_outside has a closed (can.leaf a new)).parent big)
            ((members a).0 h)));
        mate = λ a b h mate. (members b).1 (⊎_elim
            (λ old. inl (closed.mate a b old mate))
            (λ new. inr (diamond_trans d a b address new (inr mate)))
            ((members a).0 h));
      }

  pub with_diamond-closed : (before : List ℕ) (d : ℕ) (after : List ℕ) → IsClosed n (among before) →
      CanSplit n (among before) d →
      IsWithDiamond n before d after → IsClosed n (among after)
  with_diamond-closed before d after closed can w = added_closed (among before) (among after) d closed can w.members

  -- and it is the least closed set with the triangle
  pub with_diamond-forced : (before : List ℕ) (d : ℕ) (after : List ℕ) → IsClosed n (among before) →
      CanSplit n (among before) d →
      IsWithDiamond n before d after → IsForced n before d after
  with_diamond-forced before d after closed can w = record {
    ascending = w.ascending;
    least = record {
      closed = with_diamond-closed before d after closed can w;
      holds = λ a h. (w.members a).1 (⊎_elim
          (λ old. inl old)
          (λ (same : d ≡ a). inr (inl (sym same)))
          (with-cases (among before) d a h));
      least = λ other shut holds a h. ⊎_elim
          (λ old. holds a (with-old (among before) d a old))
          (λ new. diamond_closed other d a shut (holds d (with-new (among before) d)) new)
          ((w.members a).0 h);
    };
  }

  -- so that splitting it forces nothing else
  pub forced-with_diamond : (before : List ℕ) (d : ℕ) (after : List ℕ) → IsClosed n (among before) →
      CanSplit n (among before) d →
      IsForced n before d after → IsWithDiamond n before d after
  forced-with_diamond before d after closed can forced =
      let t = diamond_test d (IsAddress-splittable n d can.splittable) in
      let other : ℕ → Bool = λ a. among before a || t.0 a in
      let parts : (a : ℕ) → IsTrue (other a) ↔ (IsTrue (among before a) ⊎ IsInDiamond n d a) = λ a. (
        (λ h. ⊎_elim (λ old. inl old) (λ new. inr ((t.1 a).0 new)) (or_cases (among before a) (t.0 a) h)),
        (λ r. ⊎_elim (λ old. or_left (among before a) (t.0 a) old)
            (λ new. or_right (among before a) (t.0 a) ((t.1 a).1 new)) r),
      ) in
      record {
        ascending = forced.ascending;
        members = λ a. (
          (λ h. (parts a).0 (forced.least.least other (added_closed (among before) other d closed can parts)
              (λ b k. ⊎_elim
              (λ old. (parts b).1 (inl old))
              (λ (same : d ≡ b). (parts b).1 (inr (inl (sym same))))
              (with-cases (among before) d b k))
              a h)),
          (λ r. ⊎_elim
              (λ old. forced.least.holds a (with-old (among before) d a old))
              (λ new. diamond_closed (among after) d a forced.least.closed
              (forced.least.holds d (with-new (among before) d)) new)
              r),
        );
      }

  -- a set without a diamond

  -- there is one
  pub without_diamond : (before : List ℕ) (d : ℕ) → IsAscending before → IsAddress n d →
      (after : List ℕ) × IsWithoutDiamond n before d after
  without_diamond before d ascending address =
      let t = diamond_test d address in (
        filter (λ b. not (t.0 b)) before,
        record {
          ascending = ascending-filter (λ b. not (t.0 b)) before ascending;
          members = λ b. (
            (λ h.
                let r = among-filter (λ b. not (t.0 b)) b before h in
                (r.0, λ i. both_ways (t.0 b) (not-true (t.0 b) r.1) ((t.1 b).1 i))),
            (λ r. filter-among (λ b. not (t.0 b)) b before r.0
                (not_from_false (t.0 b) (false_from_ne_true (t.0 b) (λ h. r.1 ((t.1 b).0 h))))),
          );
        },
      )

  -- where the diamond can be merged it is closed
  pub without_diamond-closed : (before : List ℕ) (d : ℕ) (after : List ℕ) → IsClosed n (among before) →
      CanMerge n (among before) d → IsWithoutDiamond n before d after →
      IsClosed n (among after)
  without_diamond-closed before d after closed can w =
      let address : IsAddress n d = IsAddress-splittable n d (closed.splittable d can.member) in
      record {
        splittable = λ a h. closed.splittable a ((w.members a).0 h).0;
        parent = λ a h big.
            let was = ((w.members a).0 h).0 in
            (w.members (a / 2)).1 (
              closed.parent a was big,
              λ i. not_childless (among before) a (a / 2) refl (can.childless (a / 2) i) was,
            );
        mate = λ a b h mate.
            let r = (w.members a).0 h in
            (w.members b).1 (
              closed.mate a b r.0 mate,
              λ i. r.1 (diamond_trans d b a address i
                  (diamond_symmetric a b (IsAddress-splittable n a (closed.splittable a r.0)) (inr mate))),
            );
      }

  -- counts

  one_long : (xs : List ℕ) (a : ℕ) → IsAscending xs → ((b : ℕ) → IsTrue (among xs b) ↔ (b ≡ a)) → length xs ≡ 1
  one_long xs a rises only = ap (λ (l : List ℕ). length l) (same_list xs (a ∷ []) rises (All-nil (λ y. a < y), tt)
      (λ b h. among-in b (a ∷ []) (inl (sym ((only b).0 h))))
      (λ b h. ⊎_elim (λ (same : a ≡ b). (only b).1 (sym same)) (λ none. absurd none) (IsIn-among b (a ∷ []) h)))

  two_long_in_order : (xs : List ℕ) (a b : ℕ) → a < b → IsAscending xs →
      ((c : ℕ) → IsTrue (among xs c) ↔ ((c ≡ a) ⊎ (c ≡ b))) → length xs ≡ 2
  two_long_in_order xs a b less rises only = ap (λ (l : List ℕ). length l) (same_list xs (a ∷ b ∷ []) rises
      (All-cons (λ y. a < y) b [] less (All-nil (λ y. a < y)), (All-nil (λ y. b < y), tt))
      (λ c h. among-in c
      (a ∷ b ∷ []) (⊎_elim (λ (e : c ≡ a). inl (sym e)) (λ (e : c ≡ b). inr (inl (sym e))) ((only c).0 h)))
      (λ c h. ⊎_elim
      (λ (e : a ≡ c). (only c).1 (inl (sym e)))
      (λ rest. ⊎_elim (λ (e : b ≡ c). (only c).1 (inr (sym e))) (λ none. absurd none) rest)
      (IsIn-among c (a ∷ b ∷ []) h)))

  two_long : (xs : List ℕ) (a b : ℕ) → a ≢ b → IsAscending xs →
      ((c : ℕ) → IsTrue (among xs c) ↔ ((c ≡ a) ⊎ (c ≡ b))) → length xs ≡ 2
  two_long xs a b differ rises only = ⊎_elim
      (λ (less : a < b). two_long_in_order xs a b less rises only)
      (λ (rest : b ≤ a). two_long_in_order xs b a (⊎_elim
      (λ (more : b < a). more)
      (λ (equal : a ≤ b). absurd (differ (let e : a ≡ b = omega arith in e)))
      (cases_lt b a)) rises (λ c. (
        (λ h. ⊎_elim (λ e. inr e) (λ e. inl e) ((only c).0 h)),
        (λ r. (only c).1 (⊎_elim (λ e. inr e) (λ e. inl e) r)),
      )))
      (cases_lt a b)

  -- how much longer a list with a diamond more is: by two, or by one where the triangle has no mate
  abbrev pub IsLongerByDiamond : ℕ → ℕ → ℕ → Type 0
  IsLongerByDiamond d short long =
      (((m : ℕ) → IsMate n d m → long ≡ short + 2) × (((m : ℕ) → IsMate n d m → ⊥) → long ≡ short + 1))

  diamond_longer : (part whole : List ℕ) (d : ℕ) → IsAddress n d → IsAscending part → IsAscending whole →
      IsSubset (among part) (among whole) →
      ((b : ℕ) → (IsTrue (among whole b) × (IsTrue (among part b) → ⊥)) ↔ IsInDiamond n d b) →
      IsLongerByDiamond d (length part) (length whole)
  diamond_longer part whole d address rises climbs sub only =
      let rest : List ℕ = filter (λ a. not (among part a)) whole in
      let size = length-parts part whole rises climbs sub in
      let up : IsAscending rest = ascending-filter (λ a. not (among part a)) whole climbs in
      let there : (b : ℕ) → IsTrue (among rest b) ↔ IsInDiamond n d b = λ b. (
        (λ h. let r = among-filter (λ a. not (among part a)) b whole h in
            (only b).0 (r.0, λ k. both_ways (among part b) (not-true (among part b) r.1) k)),
        (λ i. let r = (only b).1 i in
            filter-among (λ a. not (among part a)) b whole r.0
            (not_from_false (among part b) (false_from_ne_true (among part b) r.1))),
      ) in (
        (λ m mate.
            let two : length rest ≡ 2 = two_long rest d m (λ e. mate.other (sym e)) up (λ c. (
              (λ h. ⊎_elim (λ same. inl same) (λ other. inr (mate_unique n d c m address other mate)) ((there c).0 h)),
              (λ r. (there c).1
                  (⊎_elim (λ same. inl same) (λ (same : c ≡ m). inr (subst (λ z. IsMate n d z) (sym same) mate)) r)),
            )) in omega arith),
        (λ none.
            let one : length rest ≡ 1 = one_long rest d up (λ c. (
              (λ h. ⊎_elim (λ same. same) (λ mate. absurd (none c mate)) ((there c).0 h)),
              (λ same. (there c).1 (inl same)),
            )) in omega arith),
      )

  pub with_diamond-length : (before : List ℕ) (d : ℕ) (after : List ℕ) → IsAscending before →
      IsClosed n (among before) →
      CanSplit n (among before) d → IsWithDiamond n before d after → IsLongerByDiamond d (length before) (length after)
  with_diamond-length before d after rises closed can w =
      diamond_longer before after d (IsAddress-splittable n d can.splittable) rises w.ascending
      (λ a h. (w.members a).1 (inl h)) (λ b. (
        (λ r. ⊎_elim (λ old. absurd (r.1 old)) (λ new. new) ((w.members b).0 r.0)),
        (λ i. ((w.members b).1 (inr i), (leaf_outside (among before) b closed (can.leaf b i)).outside)),
      ))

  pub without_diamond-length : (before : List ℕ) (d : ℕ) (after : List ℕ) → IsAscending before →
      IsClosed n (among before) →
      CanMerge n (among before) d → IsWithoutDiamond n before d after →
      IsLongerByDiamond d (length after) (length before)
  without_diamond-length before d after rises closed can w =
      let address : IsAddress n d = IsAddress-splittable n d (closed.splittable d can.member) in
      let t = diamond_test d address in
      diamond_longer after before d address w.ascending rises (λ a h. ((w.members a).0 h).0) (λ b. (
        (λ r. ⊎_elim
            (λ inside. (t.1 b).0 inside)
            (λ outside. absurd (r.1 ((w.members b).1 (r.0, λ i. both_ways (t.0 b) outside ((t.1 b).1 i)))))
            (cases_Bool (t.0 b))),
        (λ i. (diamond_closed (among before) d b closed can.member i, λ k. ((w.members b).0 k).1 i)),
      ))
