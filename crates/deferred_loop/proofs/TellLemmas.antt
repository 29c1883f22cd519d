-- What a told rank changes.
use Rattle.std.proofs.Common.{◌≡◌, ℕ, ◌+◌, ◌<◌, ◌≤◌, Bool, true, false, not, cond, eqb, eq-eqb, List, ◌++◌, length}
use Rattle.std.proofs.Common.{refl, sym, ◌∙◌, ap, subst, arith, ⊎_elim, Option}
use Rattle.mesh_defs.specs.GridSet.{IsGridSet}
use Rattle.std.specs.List.{count_by}
use Rattle.std.proofs.lemmas.Bool.{cases_Bool, both_ways, cond-true, cond-false, or_right, or_parts, eqb-true, not-true}
use Rattle.std.proofs.lemmas.Bool.{not_from_false, not_from_true}
use Rattle.std.proofs.lemmas.List.{length-append}
use Rattle.mesh_defs.specs.ClosedSet.{leaves_of, among}
use Rattle.mesh_defs.specs.Greedy.{with_triangle}
use Rattle.mesh_defs.proofs.ListLemmas.{IsIn, IsIn-contains, IsIn-among, IsIn-append-left, IsIn-append-right}
use Rattle.deferred_loop.specs.Seen.{PoolSet, SeenMesh, IsRated, upper_of, lower_of}
use Rattle.bintree_addr.specs.declared.rank.Rank.{Rank}
use Rattle.mesh_laws.proofs.SetListLemmas.{count-less}
use Rattle.mesh_laws.specs.Deferred.{DeferredFrame, IsEntry, leaf, member}
use Rattle.mesh_laws.specs.Stamps.{Stamp}
use Rattle.deferred_loop.specs.Kept.{IsTrueKey, IsSettled, IsCharged, IsAskedOnly}
use Rattle.mesh_defs.proofs.TestLemmas.{or_none}

-- the key of the told one
pub told_own : (w : DeferredFrame) (after : SeenMesh) (before_known : ℕ → Bool) (before_exact : ℕ → ℕ) (t p a : ℕ) →
    p ≡ w.priority t → eqb t a ≡ true →
    after.known a ≡ with_triangle before_known t a →
    after.exact a ≡ cond (eqb t a) p (before_exact a) → IsTrueKey w after a
told_own w after before_known before_exact t p a value own known exact =
    let told : after.known a ≡ true = known ∙ or_right (before_known a) (eqb t a) own in
    record {
      exact = λ _. exact ∙ cond-true (eqb t a) p (before_exact a) own ∙ value ∙ ap w.priority (eqb-true t a own);
      upper = λ new. absurd (both_ways (after.known a) new told);
      lower = λ new. absurd (both_ways (after.known a) new told);
    }

-- the key of another one
pub told_other : (w : DeferredFrame) (before after : SeenMesh) (t p a : ℕ) → IsTrueKey w before a → eqb t a ≡ false →
    after.known a ≡ with_triangle before.known t a → after.exact a ≡ cond (eqb t a) p (before.exact a) →
    after.stamps a ≡ before.stamps a → IsTrueKey w after a
told_other w before after t p a key other known exact stamp =
    let same : after.known a ≡ before.known a = known ∙ or_none (before.known a) (eqb t a) other in
    record {
      exact = λ told. exact ∙ cond-false (eqb t a) p (before.exact a) other ∙ key.exact (sym same ∙ told);
      upper = λ new. subst (λ (z : Option Stamp). w.priority a ≤ upper_of z) (sym stamp) (key.upper (sym same ∙ new));
      lower = λ new. subst (λ (z : Option Stamp). lower_of z ≤ w.priority a) (sym stamp) (key.lower (sym same ∙ new));
    }

-- the keys stay those of the frame
pub told_settled : (w : DeferredFrame) (before after : SeenMesh) (r : Rank) → IsSettled w before →
    IsRated before after r → r.p ≡ w.priority r.tri → IsSettled w after
told_settled w before after r s told value = record {
  grid = ap (λ (z : PoolSet). z.n) told.set ∙ s.grid;
  valid = subst (λ (z : PoolSet). IsGridSet w.n z.members) (sym told.set) s.valid;
  fresh = told.fresh ∙ s.fresh;
  keys = λ a entry. ⊎_elim
      (λ (own : eqb r.tri a ≡ true). told_own w after before.known before.exact r.tri r.p a value own
      (told.known a) (told.exact a))
      (λ (other : eqb r.tri a ≡ false). told_other w before after r.tri r.p a
      (s.keys a (subst (λ (z : PoolSet). IsEntry w.n (among z.members) a) told.set entry)) other (told.known a)
      (told.exact a) (told.stamp a))
      (cases_Bool (eqb r.tri a));
}

-- asking nothing
pub asked_none : (w : DeferredFrame) (s : SeenMesh) (count : ℕ) → IsSettled w s → IsAskedOnly w s s count count
asked_none w s count settled = record {
  set = refl;
  stamp = λ a. refl;
  settled = settled;
  counted = omega arith;
  charged = λ evaluations added removed c. c;
}

-- asking twice
pub asked_then : (w : DeferredFrame) (before mid after : SeenMesh) (count more most : ℕ) →
    IsAskedOnly w before mid count more → IsAskedOnly w mid after more most →
    IsAskedOnly w before after count most
asked_then w before mid after count more most one two = record {
  set = two.set ∙ one.set;
  stamp = λ a. two.stamp a ∙ one.stamp a;
  settled = two.settled;
  counted = omega (arith, one.counted, two.counted);
  charged =
      λ evaluations added removed c. two.charged evaluations added removed (one.charged evaluations added removed c);
}

-- a told rank is asking only, where it is charged
pub told_only : (w : DeferredFrame) (start before after : SeenMesh) (r : Rank) (first count more : ℕ) →
    IsAskedOnly w start before first count → IsRated before after r →
    r.p ≡ w.priority r.tri → count ≤ more →
    ((evaluations added removed : ℕ) → IsCharged w evaluations before added removed count →
    IsCharged w evaluations after added removed more) →
    IsAskedOnly w start after first more
told_only w start before after r first count more so_far told value counted charged =
    asked_then w start before after first count more so_far record {
      set = told.set;
      stamp = told.stamp;
      settled = told_settled w before after r so_far.settled told value;
      counted = counted;
      charged = charged;
    }

-- how many entries were not asked

-- all entries of a set
pub entries_of : ℕ → List ℕ → List ℕ
entries_of n members = leaves_of n (among members) ++ members

-- the measure of asking
pub unasked : SeenMesh → ℕ
unasked s = count_by (λ a. not (s.known a)) (entries_of s.set.n s.set.members)

-- an entry is one of all
pub in_entries : (n : ℕ) (members : List ℕ) (a : ℕ) → IsEntry n (among members) a → IsIn a (entries_of n members)
unfolding entries_of
in_entries n members a (leaf h) =
    IsIn-append-left a (leaves_of n (among members)) members (IsIn-contains a (leaves_of n (among members)) h)
in_entries n members a (member h) =
    IsIn-append-right a (leaves_of n (among members)) members (IsIn-among a members h.member)

-- how many entries there are
pub length-entries : (n : ℕ) (members : List ℕ) →
    length (entries_of n members) ≡ length (leaves_of n (among members)) + length members
unfolding entries_of
length-entries n members = length-append (leaves_of n (among members)) members

-- each told rank lowers the measure
pub told_less : (before after : SeenMesh) (r : Rank) (t : ℕ) → IsRated before after r → r.tri ≡ t →
    IsEntry before.set.n (among before.set.members) t → before.known t ≡ false →
    unasked after < unasked before
unfolding unasked
told_less before after r t told tri entry new =
    let known : (a : ℕ) → after.known a ≡ with_triangle before.known t a =
    λ a. told.known a ∙ ap (λ z. with_triangle before.known z a) tri in
    subst (λ (z : PoolSet). count_by (λ a. not (after.known a)) (entries_of z.n z.members)
    < count_by (λ a. not (before.known a)) (entries_of before.set.n before.set.members)) (sym told.set)
    (count-less (λ a. not (after.known a)) (λ a. not (before.known a)) t (entries_of before.set.n before.set.members)
    (λ a out. not_from_false (before.known a)
    (or_parts (before.known a) (eqb t a) (sym (known a) ∙ not-true (after.known a) out)).0)
    (in_entries before.set.n before.set.members t entry)
    (not_from_true (after.known t) (known t ∙ or_right (before.known t) (eqb t t) (eq-eqb t t refl)))
    (not_from_false (before.known t) new))
