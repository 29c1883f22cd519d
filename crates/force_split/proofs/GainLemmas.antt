-- The gain of a chain is its size.
use Rattle.std.proofs.Common.{◌≡◌, ap, sym, ◌∙◌, ◌⊎◌, true, false, ◌||◌, cond, nat_eq, ℕ, ◌+◌, ◌*◌, ◌<◌, ◌≤◌, refl}
use Rattle.std.proofs.Common.{arith, inl, inr, ⊎_elim, List, [], ◌∷◌, length}
use Rattle.std.specs.List.{count_by}
use Rattle.std.proofs.lemmas.Bool.{cases_eq, cases_lt, cases_Bool, true≢false, or_cases, or_left, or_right, eq-eqb}
use Rattle.std.proofs.lemmas.Bool.{eqb-true, ne_eqb}
use Rattle.mesh_defs.specs.Triangle.{level_of}
use Rattle.mesh_defs.specs.ClosedSet.{IsClosed, IsLeastClosed, leaves_of, among}
use Rattle.mesh_defs.specs.GridSet.{IsAscending, IsForced}
use Rattle.mesh_defs.specs.Greedy.{with_triangle}
use Rattle.mesh_laws.specs.Edge.{mate_of}
use Rattle.mesh_laws.specs.LeafAcross.{IsGrown}
use Rattle.mesh_defs.proofs.ListLemmas.{among-in}
use Rattle.mesh_laws.proofs.ClosureLemmas.{leaves_of-same, IsLeastClosed-unique}
use Rattle.mesh_laws.proofs.SizeLemmas.{length-leaves_once, length-leaves_of}
use Rattle.mesh_laws.proofs.MateLemmas.{mate_of-other}
use Rattle.mesh_laws.specs.Slots.{address_at, split_set, IsPool}
use Rattle.mesh_laws.proofs.SlotLemmas.{size_one, size_two, members_of, among-members, members_once, same_closed}
use Rattle.mesh_laws.proofs.SlotLemmas.{counted_cons, none_counted}
use Rattle.force_split.specs.Chain.{IsChain, IsChained, IsGainOf, chain_size}
use Rattle.force_split.proofs.ChainLemmas.{chained_step, chained_shut, next_coarse}

-- each member stands once in the list
abbrev IsOnce : List ℕ → Type 0
IsOnce members = (a : ℕ) → among members a ≡ true → count_by (λ t. nat_eq t a) members ≡ 1

once_cons : (x : ℕ) (members : List ℕ) → IsOnce members → among members x ≡ false → IsOnce (x ∷ members)
once_cons x members once fresh = λ a member. elim (cases_eq x a) [
  | inl same ↦
      let here : cond {A = ℕ} (nat_eq x a) 1 0 ≡ 1 = ap (λ b. cond {A = ℕ} b 1 0) (eq-eqb x a same) in
      let rest : count_by (λ t. nat_eq t a) members ≡ 0 =
      none_counted (λ t. nat_eq t a) members (ap (among members) (sym same) ∙ fresh) in
      let all = counted_cons (λ t. nat_eq t a) x members in omega arith
  | inr other ↦
      let here : cond {A = ℕ} (nat_eq x a) 1 0 ≡ 0 = ap (λ b. cond {A = ℕ} b 1 0) (ne_eqb x a other) in
      let rest : count_by (λ t. nat_eq t a) members ≡ 1 = once a
      (⊎_elim (λ e. absurd (other (eqb-true x a e))) (λ m. m) (or_cases (nat_eq x a) (among members a) member)) in
      let all = counted_cons (λ t. nat_eq t a) x members in omega arith
]

among_here : (x : ℕ) (members : List ℕ) → among (x ∷ members) x ≡ true
among_here x members = or_left (nat_eq x x) (among members x) (eq-eqb x x refl)

among_more : (x p : ℕ) (members : List ℕ) → among members p ≡ true → among (x ∷ members) p ≡ true
among_more x p members h = or_right (nat_eq x p) (among members p) h

among_only : (x p : ℕ) (members : List ℕ) → among (x ∷ members) p ≡ true → (p ≡ x) ⊎ (among members p ≡ true)
among_only x p members h =
    ⊎_elim (λ e. inl (sym (eqb-true x p e))) (λ m. inr m) (or_cases (nat_eq x p) (among members p) h)

grown_one : (members : List ℕ) (a : ℕ) → mate_of a ≡ 0 → IsGrown (among members) (among (a ∷ members)) a
grown_one members a none = record {
  kept = λ p h. among_more a p members h;
  added = among_here a members;
  mate = λ some. absurd (omega arith);
  only = λ p h. elim (among_only a p members h) [ inl e ↦ inr (inl e) | inr m ↦ inl m ];
}

grown_two : (members : List ℕ) (a : ℕ) → 1 ≤ mate_of a → IsGrown (among members) (among (mate_of a ∷ (a ∷ members))) a
grown_two members a some = record {
  kept = λ p h. among_more (mate_of a) p (a ∷ members) (among_more a p members h);
  added = among_more (mate_of a) a (a ∷ members) (among_here a members);
  mate = λ _. among_here (mate_of a) (a ∷ members);
  only = λ p h. elim (among_only (mate_of a) p (a ∷ members) h) [
    | inl e ↦ inr (inr (some, e))
    | inr m ↦ elim (among_only a p members m) [ inl e ↦ inr (inl e) | inr k ↦ inl k ]
  ];
}

-- the members after a chain's splits, each once
record HasMembers (n : ℕ) (pairs slots : List ℕ) : Type 0 where
  members : List ℕ
  chained : IsChained n pairs slots (among members)
  once : IsOnce members
  count : length members ≡ chain_size pairs slots + length (members_of pairs)

-- the first slot's triangle is below the finest level
abbrev IsCoarse : ℕ → List ℕ → List ℕ → Type 0
IsCoarse n pairs [] = Unit {0}
IsCoarse n pairs (s ∷ _) = level_of (address_at pairs s) < 2 * n

rest_coarse : (n : ℕ) (pairs : List ℕ) (s : ℕ) (rest : List ℕ) → IsChain pairs (s ∷ rest) →
    level_of (address_at pairs s) < 2 * n → IsCoarse n pairs rest
rest_coarse n pairs s [] chain coarse = tt
rest_coarse n pairs s (t ∷ rest) chain coarse = next_coarse n pairs s t rest chain coarse

forced_members : (n : ℕ) (pairs slots : List ℕ) → IsPool n pairs → IsChain pairs slots → IsCoarse n pairs slots →
    HasMembers n pairs slots
forced_members n pairs [] pool chain coarse = record {
  members = members_of pairs;
  chained = record { forced = λ p. among-members pairs p; low = λ p m. inl (sym (among-members pairs p) ∙ m) };
  once = λ a m. members_once n pairs a pool m;
  count = omega arith;
}
forced_members n pairs (s ∷ rest) pool chain coarse =
    let a : ℕ = address_at pairs s in
    let low = chain.0.live in
    let before : HasMembers n pairs rest =
    forced_members n pairs rest pool chain.1.1 (rest_coarse n pairs s rest chain coarse) in
    let shut = chained_shut n pairs s rest (among before.members) pool chain before.chained in
    let size = before.count in
    ⊎_elim
    (λ few. let none : mate_of a ≡ 0 = omega arith in let one = size_one a none in
    record {
      members = a ∷ before.members;
      chained = chained_step n pairs s rest (among before.members)
          (among (a ∷ before.members)) pool chain coarse before.chained (grown_one before.members a none);
      once = once_cons a before.members before.once shut.0;
      count = omega arith;
    })
    (λ some. let two = size_two a some in
    record {
      members = mate_of a ∷ (a ∷ before.members);
      chained = chained_step n pairs s rest (among before.members)
          (among (mate_of a ∷ (a ∷ before.members))) pool chain coarse before.chained (grown_two before.members a some);
      once = once_cons (mate_of a) (a ∷ before.members) (once_cons a before.members before.once shut.0)
          (⊎_elim (λ h. absurd (elim (among_only a (mate_of a) before.members h) [
            | inl e ↦ mate_of-other a low some e
            | inr m ↦ true≢false (sym m ∙ shut.1 some)
          ])) (λ h. h) (cases_Bool (among (a ∷ before.members) (mate_of a))));
      count = omega arith;
    })
    (cases_lt (mate_of a) 1)

-- What the first slot of a chain adds by force is the chain's size.
pub chain_gain : (n : ℕ) (pairs : List ℕ) (s : ℕ) (rest : List ℕ) →
    IsPool n pairs → IsChain pairs (s ∷ rest) → level_of (address_at pairs s) < 2 * n →
    IsGainOf n pairs (address_at pairs s) (chain_size pairs (s ∷ rest))
chain_gain n pairs s rest pool chain coarse = λ next least.
    let after : HasMembers n pairs (s ∷ rest) = forced_members n pairs (s ∷ rest) pool chain coarse in
    let forced = after.chained.forced in
    let same : (p : ℕ) → next p ≡ among after.members p = IsLeastClosed-unique n
    (with_triangle (split_set pairs) (address_at pairs s)) next (among after.members) least forced in
    let new : length (leaves_of n next) ≡ length (leaves_of n (among after.members)) =
    ap length (leaves_of-same n next (among after.members) same) in
    let new_count =
    length-leaves_once n after.members (λ a h. after.once a (among-in a after.members h)) forced.closed in
    let old : length (leaves_of n (split_set pairs)) ≡ length (leaves_of n (among (members_of pairs))) =
    ap length (leaves_of-same n (split_set pairs) (among (members_of pairs)) (λ p. sym (among-members pairs p))) in
    let old_count =
    length-leaves_once n (members_of pairs) (λ a h. members_once n pairs a pool (among-in a (members_of pairs) h))
    (same_closed n (split_set pairs) (among (members_of pairs)) (λ p. sym (among-members pairs p)) pool.closed) in
    let size = after.count in omega arith

-- The gain in leaves is that in members, for any ascending list of the members.
pub gain_members : (n : ℕ) (pairs members after : List ℕ) (a gain : ℕ) → IsPool n pairs →
    IsGainOf n pairs a gain → IsAscending members →
    ((p : ℕ) → among members p ≡ split_set pairs p) → IsForced n members a after → length after ≡ length members + gain
gain_members n pairs members after a gain pool grown ascending same forced =
    let least : IsLeastClosed n (with_triangle (split_set pairs) a) (among after) = record {
      closed = forced.least.closed;
      holds = λ p h. forced.least.holds p (ap (λ b. b || nat_eq a p) (same p) ∙ h);
      least = λ other closed wanted. forced.least.least other closed
          (λ p h. wanted p (ap (λ b. b || nat_eq a p) (sym (same p)) ∙ h));
    } in
    let closed : IsClosed n (among members) =
    same_closed n (split_set pairs) (among members) (λ p. sym (same p)) pool.closed in
    let new = length-leaves_of n after forced.ascending forced.least.closed in
    let old = length-leaves_of n members ascending closed in
    let leaves : length (leaves_of n (among members)) ≡ length (leaves_of n (split_set pairs)) =
    ap length (leaves_of-same n (among members) (split_set pairs) same) in
    let more = grown (among after) least in omega arith
