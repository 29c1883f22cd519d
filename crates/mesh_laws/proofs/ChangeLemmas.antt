-- What a forced split and the merge of a diamond change: the leaves, and which diamonds can be merged.
use Rattle.std.proofs.Common.{◌≡◌, ℕ, ◌+◌, ◌*◌, ◌/◌, ◌<◌, ◌≤◌, ◌⊎◌, ◌&&◌, ◌||◌, ◌↔◌, inl, inr, Bool, false, ltb, IsTrue}
use Rattle.std.proofs.Common.{List, Contains, refl, sym, subst, arith, ⊎_elim}
use Rattle.std.proofs.lemmas.Bool.{cases_lt, cases_Bool, both_ways, false_from_ne_true, and_parts, and_from, or_left}
use Rattle.std.proofs.lemmas.Bool.{or_right, or_cases, lt-ltb, ltb-true}
use Rattle.mesh_defs.specs.Triangle.{level_of, IsAddress}
use Rattle.mesh_defs.specs.ClosedSet.{IsClosed, IsSubset, IsLeastClosed, leaves_of, among}
use Rattle.mesh_defs.specs.Greedy.{with_triangle}
use Rattle.bintree_laws.proofs.LevelLemmas.{level_of-parent}
use Rattle.mesh_laws.proofs.DescentLemmas.{IsAddress-splittable, IsAddress-level}
use Rattle.mesh_defs.specs.GridSet.{IsForced}
use Rattle.mesh_laws.specs.Diamond.{IsInDiamond, CanSplit, CanMerge, IsWithDiamond, IsWithoutDiamond}
use Rattle.mesh_laws.proofs.ForcingLemmas.{with-cases, with-old, with-new}
use Rattle.mesh_laws.proofs.ClosureLemmas.{IsLeastClosed-unique}
use Rattle.mesh_laws.proofs.MemberLemmas.{ascending_unique}
use Rattle.mesh_laws.proofs.SetListLemmas.{same_list}
use Rattle.mesh_laws.proofs.DiamondLemmas.{diamond_symmetric, diamond_level, diamond_address, diamond_closed}
use Rattle.mesh_laws.proofs.DiamondLemmas.{diamond_test, ChildMember, child_or_childless, not_childless}
use Rattle.mesh_laws.proofs.DiamondLemmas.{leaf_outside, outside_leaf, with_diamond-forced, without_diamond}
use Rattle.mesh_laws.proofs.DiamondLemmas.{without_diamond-closed}

-- least closed sets with one triangle more

-- a closed set with before and t holds what t forces
pub forced_subset : (n : ℕ) (before : List ℕ) (t : ℕ) (after other : ℕ → Bool) →
    IsLeastClosed n (with_triangle (among before) t) after → IsClosed n other →
    IsSubset (among before) other → IsTrue (other t) → IsSubset after other
forced_subset n before t after other least shut old new = least.least other shut (λ a h. ⊎_elim
    (λ was. old a was)
    (λ same. subst (λ z. IsTrue (other z)) same new)
    (with-cases (among before) t a h))

-- two closed sets together
pub union_closed : (n : ℕ) (some other : ℕ → Bool) → IsClosed n some → IsClosed n other →
    IsClosed n (λ a. some a || other a)
union_closed n some other p q = record {
  splittable = λ a h. ⊎_elim (λ l. p.splittable a l) (λ r. q.splittable a r) (or_cases (some a) (other a) h);
  parent = λ a h big. ⊎_elim
      (λ l. or_left (some (a / 2)) (other (a / 2)) (p.parent a l big))
      (λ r. or_right (some (a / 2)) (other (a / 2)) (q.parent a r big))
      (or_cases (some a) (other a) h);
  mate = λ a b h mate. ⊎_elim
      (λ l. or_left (some b) (other b) (p.mate a b l mate))
      (λ r. or_right (some b) (other b) (q.mate a b r mate))
      (or_cases (some a) (other a) h);
}

-- there is one least closed set with before and a triangle
pub one_forced : (n : ℕ) (before : List ℕ) (f g : ℕ) (t u : List ℕ) → f ≡ g → IsForced n before f t →
    IsForced n before g u → t ≡ u
one_forced n before f g t u same h k =
    let other = subst (λ z. IsForced n before z u) (sym same) k in
    ascending_unique t u h.ascending other.ascending
    (IsLeastClosed-unique n (with_triangle (among before) f) (among t) (among u) h.least other.least)

-- and one set without a diamond
pub one_without_diamond : (n : ℕ) (before : List ℕ) (d e : ℕ) (t u : List ℕ) → d ≡ e → IsWithoutDiamond n before d t →
    IsWithoutDiamond n before e u → t ≡ u
one_without_diamond n before d e t u same h k =
    let other = subst (λ z. IsWithoutDiamond n before z u) (sym same) k in
    same_list t u h.ascending other.ascending (λ a i. (other.members a).1 ((h.members a).0 i))
    (λ a i. (h.members a).1 ((other.members a).0 i))

module _ (n : ℕ) where
  -- after a merge

  -- another diamond that could be merged still can
  pub merge_keeps_mergeable : (before : List ℕ) (d : ℕ) (after : List ℕ) (a : ℕ) → IsWithoutDiamond n before d after →
      CanMerge n (among before) a →
      (IsInDiamond n d a → ⊥) → CanMerge n (among after) a
  merge_keeps_mergeable before d after a w can other = record {
    member = (w.members a).1 (can.member, other);
    childless = λ b i. let none = can.childless b i in (
      false_from_ne_true (among after (2 * b))
          (λ h. both_ways (among before (2 * b)) none.0 ((w.members (2 * b)).0 h).0),
      false_from_ne_true (among after (2 * b + 1))
          (λ h. both_ways (among before (2 * b + 1)) none.1 ((w.members (2 * b + 1)).0 h).0),
    );
  }

  -- what can be merged could be before, or it is the diamond of a parent of the merged one
  pub merge_new_mergeable : (before : List ℕ) (d : ℕ) (after : List ℕ) (a : ℕ) → IsClosed n (among before) →
      CanMerge n (among before) d →
      IsWithoutDiamond n before d after → CanMerge n (among after) a →
      CanMerge n (among before) a ⊎ ((c : ℕ) × IsInDiamond n d c × (4 ≤ c) × IsInDiamond n a (c / 2))
  merge_new_mergeable before d after a closed can w m =
      let was = ((w.members a).0 m.member).0 in
      let address : IsAddress n d = IsAddress-splittable n d (closed.splittable d can.member) in
      let t = diamond_test n d address in
      ⊎_elim
      (λ (below : ChildMember n (among before) a). ⊎_elim
      (λ inside. inr (below.child, (t.1 below.child).0 inside, below.big, below.in_diamond))
      (λ outside. absurd (not_childless n (among after) below.child (below.child / 2) refl
      (m.childless (below.child / 2) below.in_diamond)
      ((w.members below.child).1 (below.member, λ i. both_ways (t.0 below.child) outside ((t.1 below.child).1 i)))))
      (cases_Bool (t.0 below.child)))
      (λ childless. inl record { member = was; childless = childless })
      (child_or_childless n (among before) a (IsAddress-splittable n a (closed.splittable a was)))

  -- the merged triangles are leaves
  pub merge_leaf : (before : List ℕ) (d : ℕ) (after : List ℕ) (a : ℕ) → IsClosed n (among before) →
      CanMerge n (among before) d →
      IsWithoutDiamond n before d after → IsInDiamond n d a → Contains (leaves_of n (among after)) a
  merge_leaf before d after a closed can w i =
      let address : IsAddress n d = IsAddress-splittable n d (closed.splittable d can.member) in
      let own : IsAddress n a = diamond_address n d a address i in
      outside_leaf n (among after) a (without_diamond-closed n before d after closed can w) record {
        address = own;
        outside = λ h. ((w.members a).0 h).1 i;
        parent = λ big. (w.members (a / 2)).1 (
          closed.parent a (diamond_closed n (among before) d a closed can.member i) big,
          λ j.
              let up = level_of-parent a big in
              let one = diamond_level n d a i in
              let two = diamond_level n d (a / 2) j in
              let e : ⊥ = omega arith in e,
        );
      }

  -- a leaf that lies below no merged triangle stays one
  pub merge_keeps_leaf : (before : List ℕ) (d : ℕ) (after : List ℕ) (a : ℕ) → IsClosed n (among before) →
      CanMerge n (among before) d →
      IsWithoutDiamond n before d after → Contains (leaves_of n (among before)) a →
      (4 ≤ a → IsInDiamond n d (a / 2) → ⊥) → Contains (leaves_of n (among after)) a
  merge_keeps_leaf before d after a closed can w leaf apart =
      let outer = leaf_outside n (among before) a closed leaf in
      outside_leaf n (among after) a (without_diamond-closed n before d after closed can w) record {
        address = outer.address;
        outside = λ h. outer.outside ((w.members a).0 h).0;
        parent = λ big. (w.members (a / 2)).1 (outer.parent big, apart big);
      }

  -- there are no other leaves
  pub merge_new_leaf : (before : List ℕ) (d : ℕ) (after : List ℕ) (a : ℕ) → IsClosed n (among before) →
      CanMerge n (among before) d →
      IsWithoutDiamond n before d after → Contains (leaves_of n (among after)) a →
      IsInDiamond n d a ⊎ (Contains (leaves_of n (among before)) a × (4 ≤ a → IsInDiamond n d (a / 2) → ⊥))
  merge_new_leaf before d after a closed can w leaf =
      let outer = leaf_outside n (among after) a (without_diamond-closed n before d after closed can w) leaf in
      let t = diamond_test n d (IsAddress-splittable n d (closed.splittable d can.member)) in
      ⊎_elim
      (λ inside. inl ((t.1 a).0 inside))
      (λ outside. inr (
        outside_leaf n (among before) a closed record {
          address = outer.address;
          outside = λ h. outer.outside ((w.members a).1 (h, λ i. both_ways (t.0 a) outside ((t.1 a).1 i)));
          parent = λ big. ((w.members (a / 2)).0 (outer.parent big)).0;
        },
        λ big. ((w.members (a / 2)).0 (outer.parent big)).1,
      ))
      (cases_Bool (t.0 a))

  -- after a split

  -- an old member that can be merged could be before
  pub split_old_mergeable : (before : List ℕ) (f : ℕ) (after : List ℕ) (a : ℕ) → IsForced n before f after →
      CanMerge n (among after) a →
      IsTrue (among before a) → CanMerge n (among before) a
  split_old_mergeable before f after a w can was = record {
    member = was;
    childless = λ b i. let none = can.childless b i in (
      false_from_ne_true (among before (2 * b))
          (λ h. both_ways (among after (2 * b)) none.0 (w.least.holds (2 * b) (with-old (among before) f (2 * b) h))),
      false_from_ne_true (among before (2 * b + 1)) (λ h. both_ways (among after (2 * b + 1)) none.1
          (w.least.holds (2 * b + 1) (with-old (among before) f (2 * b + 1) h))),
    );
  }

  -- the one new diamond that can be merged is that of the split triangle
  pub split_new_mergeable : (before : List ℕ) (f : ℕ) (after : List ℕ) (a : ℕ) → IsClosed n (among before) →
      IsForced n before f after →
      CanMerge n (among after) a → among before a ≡ false → IsInDiamond n a f
  split_new_mergeable before f after a closed w can new =
      let address : IsAddress n a = IsAddress-splittable n a (w.least.closed.splittable a can.member) in
      let t = diamond_test n a address in
      ⊎_elim
      (λ inside. (t.1 f).0 inside)
      (λ outside.
      let u = without_diamond n after a w.ascending address in
      let shut = without_diamond-closed n after a u.0 w.least.closed can u.1 in
      let kept = forced_subset n before f (among after) (among u.0) w.least shut
      (λ b was. (u.1.members b).1 (
        w.least.holds b (with-old (among before) f b was),
        λ i.
            both_ways (among before a) new
            (diamond_closed n (among before) b a closed was (diamond_symmetric n a b address i)),
      ))
      ((u.1.members f).1 (w.least.holds f (with-new (among before) f), λ i. both_ways (t.0 f) outside ((t.1 f).1 i)))
      a can.member in
      absurd (((u.1.members a).0 kept).1 (inl refl)))
      (cases_Bool (t.0 f))

  -- a split adds no triangle of a deeper level than the split one
  pub split_level : (before : List ℕ) (f : ℕ) (after : List ℕ) (a : ℕ) → IsClosed n (among before) →
      IsForced n before f after →
      IsTrue (among after a) → IsTrue (among before a) ⊎ (level_of a ≤ level_of f)
  split_level before f after a closed w h =
      let shallow : ℕ → Bool = λ z. among after z && ltb (level_of z) (level_of f + 1) in
      let other : ℕ → Bool = λ z. among before z || shallow z in
      let shut : IsClosed n other = record {
        splittable = λ b q. ⊎_elim
            (λ was. closed.splittable b was)
            (λ new. w.least.closed.splittable b (and_parts (among after b) (ltb (level_of b) (level_of f + 1)) new).0)
            (or_cases (among before b) (shallow b) q);
        parent = λ b q big. ⊎_elim
            (λ was. or_left (among before (b / 2)) (shallow (b / 2)) (closed.parent b was big))
            (λ new.
            let r = and_parts (among after b) (ltb (level_of b) (level_of f + 1)) new in
            let less = ltb-true (level_of b) (level_of f + 1) r.1 in
            let up = level_of-parent b big in
            or_right (among before (b / 2)) (shallow (b / 2))
            (and_from (among after (b / 2)) (ltb (level_of (b / 2)) (level_of f + 1))
            (w.least.closed.parent b r.0 big) (lt-ltb (level_of (b / 2)) (level_of f + 1) (omega arith))))
            (or_cases (among before b) (shallow b) q);
        mate = λ b c q mate. ⊎_elim
            (λ was. or_left (among before c) (shallow c) (closed.mate b c was mate))
            (λ new.
            let r = and_parts (among after b) (ltb (level_of b) (level_of f + 1)) new in
            let less = ltb-true (level_of b) (level_of f + 1) r.1 in
            let same = mate.level in
            or_right (among before c) (shallow c) (and_from (among after c) (ltb (level_of c) (level_of f + 1))
            (w.least.closed.mate b c r.0 mate) (lt-ltb (level_of c) (level_of f + 1) (omega arith))))
            (or_cases (among before b) (shallow b) q);
      } in
      let there = forced_subset n before f (among after) other w.least shut
      (λ b was. or_left (among before b) (shallow b) was)
      (or_right (among before f) (shallow f) (and_from (among after f) (ltb (level_of f) (level_of f + 1))
      (w.least.holds f (with-new (among before) f)) (lt-ltb (level_of f) (level_of f + 1) (omega arith))))
      a h in
      ⊎_elim
      (λ was. inl was)
      (λ new. inr (let less = ltb-true (level_of a) (level_of f + 1)
      (and_parts (among after a) (ltb (level_of a) (level_of f + 1)) new).1 in omega arith))
      (or_cases (among before a) (shallow a) there)

  -- and the split triangle's diamond can be merged
  pub split_mergeable : (before : List ℕ) (f : ℕ) (after : List ℕ) → IsClosed n (among before) →
      IsForced n before f after → among before f ≡ false → CanMerge n (among after) f
  split_mergeable before f after closed w new =
      let member = w.least.holds f (with-new (among before) f) in
      let address : IsAddress n f = IsAddress-splittable n f (w.least.closed.splittable f member) in
      ⊎_elim
      (λ (below : ChildMember n (among after) f).
      let same = diamond_level n f (below.child / 2) below.in_diamond in
      let up = level_of-parent below.child below.big in
      absurd (⊎_elim
      (λ was. both_ways (among before f) new
      (diamond_closed n (among before) (below.child / 2) f closed (closed.parent below.child was below.big)
      (diamond_symmetric n f (below.child / 2) address below.in_diamond)))
      (λ (shallow : level_of below.child ≤ level_of f). let e : ⊥ = omega arith in e)
      (split_level before f after below.child closed w below.member)))
      (λ childless. record { member = member; childless = childless })
      (child_or_childless n (among after) f address)

  -- a leaf is an old one that was not split, or a child of a new member
  pub split_new_leaf : (before : List ℕ) (f : ℕ) (after : List ℕ) (a : ℕ) → IsClosed n (among before) →
      IsForced n before f after →
      Contains (leaves_of n (among after)) a →
      Contains (leaves_of n (among before)) a
      ⊎ ((4 ≤ a) × (among before (a / 2) ≡ false) × IsTrue (among after (a / 2)))
  split_new_leaf before f after a closed w leaf =
      let outer = leaf_outside n (among after) a w.least.closed leaf in
      let outside : IsTrue (among before a) → ⊥ =
      λ h. outer.outside (w.least.holds a (with-old (among before) f a h)) in
      ⊎_elim
      (λ (small : a < 4). inl (outside_leaf n (among before) a closed record {
        address = outer.address;
        outside = outside;
        parent = λ big. absurd (omega arith);
      }))
      (λ (big : 4 ≤ a). ⊎_elim
      (λ was. inl (outside_leaf n (among before) a closed record {
        address = outer.address;
        outside = outside;
        parent = λ h. was;
      }))
      (λ new. inr (big, new, outer.parent big))
      (cases_Bool (among before (a / 2))))
      (cases_lt a 4)

  -- an old leaf that was not split stays one
  pub split_keeps_leaf : (before : List ℕ) (f : ℕ) (after : List ℕ) (a : ℕ) → IsClosed n (among before) →
      IsForced n before f after →
      Contains (leaves_of n (among before)) a → among after a ≡ false → Contains (leaves_of n (among after)) a
  split_keeps_leaf before f after a closed w leaf out =
      let outer = leaf_outside n (among before) a closed leaf in
      outside_leaf n (among after) a w.least.closed record {
        address = outer.address;
        outside = λ h. both_ways (among after a) out h;
        parent = λ big. w.least.holds (a / 2) (with-old (among before) f (a / 2) (outer.parent big));
      }

  -- and so is a child of a new member that is none
  pub split_child_leaf : (before : List ℕ) (f : ℕ) (after : List ℕ) (a : ℕ) → IsForced n before f after →
      4 ≤ a → IsTrue (among after (a / 2)) → among after a ≡ false → Contains (leaves_of n (among after)) a
  split_child_leaf before f after a w big above out =
      let splittable = w.least.closed.splittable (a / 2) above in
      let coarse = splittable.coarse in
      let up = level_of-parent a big in
      outside_leaf n (among after) a w.least.closed record {
        address = IsAddress-level n a (omega arith) (omega arith);
        outside = λ h. both_ways (among after a) out h;
        parent = λ _. above;
      }

  -- exactly which leaves there are

  pub merge_leaves : (before : List ℕ) (d : ℕ) (after : List ℕ) (a : ℕ) → IsClosed n (among before) →
      CanMerge n (among before) d →
      IsWithoutDiamond n before d after →
      Contains (leaves_of n (among after)) a
      ↔ (IsInDiamond n d a ⊎ (Contains (leaves_of n (among before)) a × (4 ≤ a → IsInDiamond n d (a / 2) → ⊥)))
  merge_leaves before d after a closed can w = (
    merge_new_leaf before d after a closed can w,
    λ r. ⊎_elim
        (λ own. merge_leaf before d after a closed can w own)
        (λ (old : Contains (leaves_of n (among before)) a × (4 ≤ a → IsInDiamond n d (a / 2) → ⊥)).
        merge_keeps_leaf before d after a closed can w old.0 old.1)
        r,
  )

  pub split_leaves : (before : List ℕ) (f : ℕ) (after : List ℕ) (a : ℕ) → IsClosed n (among before) →
      IsForced n before f after →
      Contains (leaves_of n (among after)) a ↔
      ((among after a ≡ false) × (Contains (leaves_of n (among before)) a
      ⊎ ((4 ≤ a) × (among before (a / 2) ≡ false) × IsTrue (among after (a / 2)))))
  split_leaves before f after a closed w = (
    (λ leaf. (
      false_from_ne_true (among after a) (leaf_outside n (among after) a w.least.closed leaf).outside,
      split_new_leaf before f after a closed w leaf,
    )),
    λ r. ⊎_elim
        (λ old. split_keeps_leaf before f after a closed w old r.0)
        (λ (new : (4 ≤ a) × (among before (a / 2) ≡ false) × IsTrue (among after (a / 2))).
        split_child_leaf before f after a w new.0 new.2 r.0)
        r.1,
  )

  -- and which diamonds can be merged

  pub split_diamonds : (before : List ℕ) (f : ℕ) (after : List ℕ) (a : ℕ) → IsClosed n (among before) →
      IsForced n before f after →
      CanMerge n (among after) a → CanMerge n (among before) a ⊎ ((among before a ≡ false) × IsInDiamond n a f)
  split_diamonds before f after a closed w can = ⊎_elim
      (λ was. inl (split_old_mergeable before f after a w can was))
      (λ new. inr (new, split_new_mergeable before f after a closed w can new))
      (cases_Bool (among before a))

  -- the split of one diamond: its triangles are leaves no more, and their children are
  pub with_diamond-leaves : (before : List ℕ) (d : ℕ) (after : List ℕ) (a : ℕ) → IsClosed n (among before) →
      CanSplit n (among before) d →
      IsWithDiamond n before d after →
      Contains (leaves_of n (among after)) a ↔
      ((Contains (leaves_of n (among before)) a × (IsInDiamond n d a → ⊥)) ⊎ ((4 ≤ a) × IsInDiamond n d (a / 2)))
  with_diamond-leaves before d after a closed can w =
      let forced = with_diamond-forced n before d after closed can w in
      let all = split_leaves before d after a closed forced in
      let address : IsAddress n d = IsAddress-splittable n d can.splittable in (
        (λ leaf.
            let r = all.0 leaf in
            ⊎_elim
            (λ old. inl (old, λ i. both_ways (among after a) r.0 ((w.members a).1 (inr i))))
            (λ (new : (4 ≤ a) × (among before (a / 2) ≡ false) × IsTrue (among after (a / 2))). inr (
              new.0,
              ⊎_elim (λ was. absurd (both_ways (among before (a / 2)) new.1 was)) (λ i. i)
                  ((w.members (a / 2)).0 new.2),
            ))
            r.1),
        (λ r. ⊎_elim
            (λ (old : Contains (leaves_of n (among before)) a × (IsInDiamond n d a → ⊥)). all.1 (
              false_from_ne_true (among after a) (λ h. ⊎_elim
                  (λ was. (leaf_outside n (among before) a closed old.0).outside was)
                  (λ i. old.1 i)
                  ((w.members a).0 h)),
              inl old.0,
            ))
            (λ (new : (4 ≤ a) × IsInDiamond n d (a / 2)).
            let up = level_of-parent a new.0 in
            let same = diamond_level n d (a / 2) new.1 in
            let above : among before (a / 2) ≡ false = false_from_ne_true (among before (a / 2))
            (leaf_outside n (among before) (a / 2) closed (can.leaf (a / 2) new.1)).outside in
            all.1 (
              false_from_ne_true (among after a) (λ h. ⊎_elim
                  (λ was. both_ways (among before (a / 2)) above (closed.parent a was new.0))
                  (λ i. let level = diamond_level n d a i in let e : ⊥ = omega arith in e)
                  ((w.members a).0 h)),
              inr (new.0, above, (w.members (a / 2)).1 (inr new.1)),
            ))
            r),
      )
