-- What the heads of the two queues tell, by their keys.
use Rattle.std.proofs.Common.{◌≡◌, ℕ, ◌<◌, ◌≤◌, Bool, true, false, List, All, Contains, sym, subst, arith, ⊎_elim}
use Rattle.std.proofs.lemmas.Bool.{cases_Bool, cond-true, cond-false}
use Rattle.std.proofs.lemmas.List.Elements.{All-contains}
use Rattle.mesh_defs.specs.Triangle.{IsAddress}
use Rattle.mesh_defs.specs.ClosedSet.{leaves_of, among}
use Rattle.mesh_defs.specs.Ranking.{RanksBefore, IsBefore}
use Rattle.mesh_defs.specs.Greedy.{IsFirstLeaf}
use Rattle.mesh_defs.proofs.ListLemmas.{Contains-in}
use Rattle.mesh_defs.specs.GridSet.{IsGridSet}
use Rattle.mesh_laws.proofs.DescentLemmas.{IsAddress-leaves_of, IsAddress-splittable}
use Rattle.mesh_laws.specs.Order.{IsNoLater}
use Rattle.mesh_laws.proofs.DiamondLemmas.{diamond_closed}
use Rattle.mesh_laws.proofs.OrderLemmas.{no_later-le, no_later_from, no_later_trans, no_later_before, no_later_other}
use Rattle.mesh_laws.proofs.SetListLemmas.{All-in}
use Rattle.mesh_laws.specs.Lead.{IsLead}
use Rattle.mesh_laws.specs.Deferred.{DeferredFrame, IsDeferredFrame, IsEntry, leaf as of_leaf, member as of_member}
use Rattle.mesh_laws.specs.Keys.{upper_key, lower_key, IsLastKey}
use Rattle.mesh_laws.proofs.LeadLemmas.{lead_first}

-- a leaf is a triangle of the grid
IsAddress-leaf : (n : ℕ) (members : List ℕ) (a : ℕ) → Contains (leaves_of n (among members)) a → IsAddress n a
IsAddress-leaf n members a h =
    All-contains (IsAddress n) (leaves_of n (among members)) a (IsAddress-leaves_of n (among members)) h

module _ (w : DeferredFrame) (is : IsDeferredFrame w) where
  -- keys

  -- the split queue's key is the priority where that is known
  pub upper_key-known : (known : ℕ → Bool) (a : ℕ) → known a ≡ true → upper_key w known a ≡ w.priority a
  unfolding upper_key
  upper_key-known known a is_known = cond-true (known a) (w.priority a) (w.upper a) is_known

  -- and else the upper bound
  pub upper_key-unknown : (known : ℕ → Bool) (a : ℕ) → known a ≡ false → upper_key w known a ≡ w.upper a
  unfolding upper_key
  upper_key-unknown known a not_known = cond-false (known a) (w.priority a) (w.upper a) not_known

  -- the merge queue's key is the priority where that is known
  pub lower_key-known : (known : ℕ → Bool) (a : ℕ) → known a ≡ true → lower_key w known a ≡ w.priority a
  unfolding lower_key
  lower_key-known known a is_known = cond-true (known a) (w.priority a) (w.lower a) is_known

  -- and else the lower bound
  pub lower_key-unknown : (known : ℕ → Bool) (a : ℕ) → known a ≡ false → lower_key w known a ≡ w.lower a
  unfolding lower_key
  lower_key-unknown known a not_known = cond-false (known a) (w.priority a) (w.lower a) not_known

  -- the priority lies between the keys
  upper_key-above : (known : ℕ → Bool) (a : ℕ) → IsAddress w.n a → w.priority a ≤ upper_key w known a
  upper_key-above known a address = ⊎_elim
      (λ is_known. omega (arith, upper_key-known known a is_known))
      (λ not_known. omega (arith, upper_key-unknown known a not_known, is.above a address))
      (cases_Bool (known a))

  lower_key-below : (known : ℕ → Bool) (a : ℕ) → IsAddress w.n a → lower_key w known a ≤ w.priority a
  lower_key-below known a address = ⊎_elim
      (λ is_known. omega (arith, lower_key-known known a is_known))
      (λ not_known. omega (arith, lower_key-unknown known a not_known, is.below a address))
      (cases_Bool (known a))

  -- the head of the split queue

  -- where it is known and positive, it is the first leaf in rank
  pub first_known : (members : List ℕ) (known : ℕ → Bool) (f : ℕ) → Contains (leaves_of w.n (among members)) f →
      known f ≡ true → 0 < w.priority f →
      ((l : ℕ) → Contains (leaves_of w.n (among members)) l →
      IsNoLater (upper_key w known f) f (upper_key w known l) l) →
      IsFirstLeaf w.n w.priority (among members) f
  first_known members known f leaf is_known some first = record {
    leaf = leaf;
    positive = some;
    first = λ a listed more other.
        let no_later : IsNoLater (upper_key w known f) f (w.priority a) a = no_later_trans (first a listed)
        (no_later_from (upper_key-above known a (IsAddress-leaf w.n members a listed)) (omega arith)) in
        no_later_other (subst (λ z. IsNoLater z f (w.priority a) a) (upper_key-known known f is_known) no_later)
        (λ e. other (sym e));
  }

  -- where it is 0, all leaves have priority 0
  pub zero_head : (members : List ℕ) (known : ℕ → Bool) (f : ℕ) → upper_key w known f ≡ 0 →
      ((l : ℕ) → Contains (leaves_of w.n (among members)) l →
      IsNoLater (upper_key w known f) f (upper_key w known l) l) →
      All (λ a. w.priority a ≡ 0) (leaves_of w.n (among members))
  zero_head members known f none first = All-in (λ a. w.priority a ≡ 0) (leaves_of w.n (among members)) (λ a i.
      let leaf = Contains-in a (leaves_of w.n (among members)) i in
      let key = no_later-le (first a leaf) in
      let above = upper_key-above known a (IsAddress-leaf w.n members a leaf) in omega arith)

  -- the last key

  -- each lead ranks no later than it
  pub lead_no_later_key : (members : List ℕ) (known : ℕ → Bool) (a c : ℕ) → IsGridSet w.n members →
      IsLastKey w members known a c →
      (d : ℕ) → IsLead w.n w.priority (among members) d → IsNoLater (w.priority d) d (lower_key w known c) c
  lead_no_later_key members known a c set l d lead =
      let q = l.last d lead in
      let address = IsAddress-splittable w.n q.0
      (set.closed.splittable q.0 (diamond_closed w.n (among members) d q.0 set.closed lead.mergeable.member q.1)) in
      no_later_trans (lead_first w.n w.priority (among members) set.closed d q.0 lead q.1)
      (no_later_trans (no_later_from (lower_key-below known q.0 address) (omega arith)) q.2)

  -- where it comes before f, each lead ranks before f
  pub all_before : (members : List ℕ) (known : ℕ → Bool) (a c f : ℕ) → IsGridSet w.n members →
      IsLastKey w members known a c →
      IsBefore (lower_key w known c) c (w.priority f) f → (d : ℕ) → IsLead w.n w.priority (among members) d →
      RanksBefore w.priority d f
  all_before members known a c f set l before d lead =
      no_later_before (lead_no_later_key members known a c set l d lead) before

  -- where it is positive, each lead has a positive priority
  pub all_positive : (members : List ℕ) (known : ℕ → Bool) (a c : ℕ) → IsGridSet w.n members →
      IsLastKey w members known a c →
      0 < lower_key w known c → (d : ℕ) → IsLead w.n w.priority (among members) d → 0 < w.priority d
  all_positive members known a c set l some d lead =
      let key = no_later-le (lead_no_later_key members known a c set l d lead) in
      omega arith

-- an entry is a triangle of the grid
pub IsAddress-entry : (n : ℕ) (members : List ℕ) (a : ℕ) → IsGridSet n members →
    IsEntry n (among members) a → IsAddress n a
IsAddress-entry n members a set (of_leaf h) = IsAddress-leaf n members a h
IsAddress-entry n members a set (of_member h) = IsAddress-splittable n a (set.closed.splittable a h.member)
