-- The pool of the two halves of the square.
use Rattle.std.proofs.Common.{◌≡◌, ◌≢◌, ◌-◌, ap, sym, ◌∙◌, true, false, cond, nat_eq, nat_lt, ℕ, ◌+◌, ◌*◌, ◌/◌, ◌%◌}
use Rattle.std.proofs.Common.{◌^◌, ◌<◌, ◌≤◌, arith, inl, inr, ⊎_elim, List, [], length, get_or, set, get_or-set_other}
use Rattle.std.proofs.Common.{get_or-set_same}
use Rattle.std.proofs.lemmas.Bool.{cases_eq, cases_lt, cases_Bool, ltb-true, and_parts}
use Rattle.std.proofs.lemmas.List.{get_or-replicate, get_or_past, length-replicate}
use Rattle.std.proofs.Math.ListN.{length-set, replicate}
use Rattle.std.specs.List.{sum_by}
use Rattle.std.proofs.lemmas.List.Sums.{sum_by-set}
use Rattle.std.proofs.lemmas.List.Folds.{sum_by-replicate}
use Rattle.std.proofs.Common.{ext_get_or}
use Rattle.mesh_defs.specs.ClosedSet.{IsClosed, among}
use Rattle.mesh_laws.specs.Edge.{mate_of, owner}
use Rattle.mesh_laws.specs.Net.{nowhere, IsJoined}
use Rattle.mesh_laws.proofs.MateLemmas.{mate_of-root, mate_of-first}
use Rattle.mesh_laws.proofs.OwnerLemmas.{owner_cases, owner-split}
use Rattle.triangle_pool.specs.declared.forest.Node.{Node}
use Rattle.triangle_pool.specs.declared.pool.TheConstants.{MOST_LEAVES}
use Rattle.mesh_laws.specs.Slots.{address_at, has_children, IsLive, split_set, room_of}
use Rattle.triangle_pool.specs.Slots.{FreeState, IsFree}
use Rattle.triangle_pool.specs.Links.{blank_node, node_at, edge_link, net_of, ArePairs, IsForest, IsMesh, HasPairs}
use Rattle.mesh_laws.proofs.SlotLemmas.{has_children_by, pair_of, set-has_children}
use Rattle.triangle_pool.proofs.RelinkLemmas.{edge-base, edge-left, edge-right}

-- the first nodes
pub record IsFirst (pairs parents : List ℕ) (nodes : List Node) : Type 0 where
  pub one : get_or pairs 0 0 ≡ 1
  pub rest : (i : ℕ) → i ≢ 0 → get_or pairs i 0 ≡ 0
  pub short : length pairs < 2 ^ 31
  pub parent_count : length parents ≡ length pairs
  pub node_count : length nodes ≡ 2 * length pairs
  pub lower : node_at nodes 0 ≡ record { children = nowhere; base = 1; left = nowhere; right = nowhere }
  pub upper : node_at nodes 1 ≡ record { children = nowhere; base = 0; left = nowhere; right = nowhere }

has_children_one : (pairs parents : List ℕ) (nodes : List Node) (p : ℕ) → IsFirst pairs parents nodes →
    has_children pairs p ≡ true → p ≡ 1
has_children_one pairs parents nodes p h is_p =
    let pair = pair_of pairs p is_p in
    elim (cases_eq pair.0 0) [
      | inl e ↦ sym pair.2 ∙ ap (λ t. get_or pairs t 0) e ∙ h.one
      | inr n ↦ absurd (let z = h.rest pair.0 n in let is = pair.2 in let low = ltb-true 0 p
          (and_parts (nat_lt 0 p) (among pairs p) is_p).0 in omega arith)
    ]

first_slot : (pairs parents : List ℕ) (nodes : List Node) (r : ℕ) → IsFirst pairs parents nodes →
    IsLive pairs r → (r < 2)
    × (address_at pairs r ≡ 2 + r)
first_slot pairs parents nodes r h live = elim (cases_eq (r / 2) 0) [
  | inl e ↦ let z : get_or pairs (r / 2) 0 ≡ 1 = ap (λ t. get_or pairs t 0) e ∙ h.one in (omega arith, omega arith)
  | inr n ↦ absurd (let z = h.rest (r / 2) n in omega arith)
]

-- the forest of the two halves of the square

module _ (pairs parents : List ℕ) (nodes : List Node) (h : IsFirst pairs parents nodes) where
  -- the whole square is split, and nothing else is
  root : has_children pairs 1 ≡ true
  root = has_children_by pairs 0 1 (omega arith) h.one

  whole : (p : ℕ) → 2 ≤ p → has_children pairs p ≡ false
  whole p low = ⊎_elim
      (λ y. absurd (let z = has_children_one pairs parents nodes p h y in omega arith)) (λ n. n)
      (cases_Bool (has_children pairs p))

  -- the pairs are those of a tree, with small addresses
  first_pairs_of : ArePairs pairs
  first_pairs_of = record {
    tree = record {
      root = root;
      parent = λ p low y. absurd (let z = has_children_one pairs parents nodes p h y in omega arith);
      live = λ r live. let s = first_slot pairs parents nodes r h live in
          let small = s.0 in let at = s.1 in
          let half : address_at pairs r / 2 ≡ 1 = omega arith in ap (has_children pairs) half ∙ root;
      once = λ q r live same.
          let s = first_slot pairs parents nodes q h live in let t = first_slot pairs parents nodes r h (omega arith) in
          let u = s.1 in let v = t.1 in omega arith;
    };
    small = λ i. ⊎_elim (λ e. let z : get_or pairs i 0 ≡ 1 = ap (λ t. get_or pairs t 0) e ∙ h.one in omega arith)
        (λ n. let z = h.rest i n in omega arith) (cases_eq i 0);
    short = h.short;
  }

  -- what is the same of both nodes is so of the node at each live slot
  of_both : {X : Type 0} (read : Node → X) (x : X) → read (node_at nodes 0) ≡ x →
      read (node_at nodes 1) ≡ x → (r : ℕ) → r < 2 →
      read (node_at nodes r) ≡ x
  of_both read x lower upper r small = ⊎_elim
      (λ z. let e0 : r ≡ 0 = omega arith in ap (λ t. read (node_at nodes t)) e0 ∙ lower)
      (λ z. let e1 : r ≡ 1 = omega arith in ap (λ t. read (node_at nodes t)) e1 ∙ upper) (cases_lt r 1)

  -- each half has the other one across its base
  base_of : (r : ℕ) → r < 2 → (node_at nodes r).base ≡ 1 - r
  base_of r small = ⊎_elim
      (λ z. let e0 : r ≡ 0 = omega arith in
      ap (λ t. (node_at nodes t).base) e0 ∙ ap (λ t. t.base) h.lower ∙ (let y : 1 ≡ 1 - r = omega arith in y))
      (λ z. let e1 : r ≡ 1 = omega arith in
      ap (λ t. (node_at nodes t).base) e1 ∙ ap (λ t. t.base) h.upper
      ∙ (let y : 0 ≡ 1 - r = omega arith in y)) (cases_lt r 1)

  -- the link of a base is right
  base_joined : (r e : ℕ) → IsLive pairs r → e ≡ address_at pairs r →
      IsJoined (net_of pairs nodes) (edge_link (node_at nodes r) (address_at pairs r) e) (mate_of e)
  base_joined r e live is =
      let s = first_slot pairs parents nodes r h live in let small = s.0 in let at = s.1 in
      let mate : mate_of e ≡ 5 - e = mate_of-root e (omega arith) (omega arith) in
      let link : edge_link (node_at nodes r) (address_at pairs r) e ≡ (node_at nodes r).base =
      edge-base (node_at nodes r)
      (address_at pairs r) e is in
      record {
        border = λ z. absurd (omega arith);
        slot = λ q some there.
            let half : mate_of e / 2 ≡ 1 = omega arith in
            let far : owner (has_children pairs) (mate_of e) ≡ mate_of e = owner-split (has_children pairs) (mate_of e)
            (ap (has_children pairs) half ∙ root) in
            let t = first_slot pairs parents nodes q h
            (let y : address_at pairs q ≡ owner (has_children pairs) (mate_of e) = there in
            omega arith) in
            let qs = t.0 in
            let qa = t.1 in
            let y : address_at pairs q ≡ owner (has_children pairs) (mate_of e) = there in
            link ∙ base_of r small ∙ (let x : 1 - r ≡ q = omega arith in x);
      }

  -- and so is that of a leg, which lies on the border
  leg_joined : (r e : ℕ) → IsLive pairs r → e / 2 ≡ address_at pairs r →
      IsJoined (net_of pairs nodes) (edge_link (node_at nodes r) (address_at pairs r) e) (mate_of e)
  leg_joined r e live half =
      let s = first_slot pairs parents nodes r h live in let small = s.0 in let at = s.1 in
      let mate : mate_of e ≡ 0 = mate_of-first e (omega arith) (omega arith) in
      record {
        border = λ z. ⊎_elim
            (λ even. edge-left (node_at nodes r) (address_at pairs r) e (λ w. omega arith) (omega arith)
            ∙ of_both (λ t. t.left) nowhere (ap (λ t. t.left) h.lower) (ap (λ t. t.left) h.upper) r small)
            (λ odd. edge-right (node_at nodes r) (address_at pairs r) e (λ w. omega arith) (omega arith)
            ∙ of_both (λ t. t.right) nowhere (ap (λ t. t.right) h.lower) (ap (λ t. t.right) h.upper) r small)
            (cases_lt (e % 2) 1);
        slot = λ q some there. absurd (omega arith);
      }

  -- so the two halves are a forest
  pub first_forest : IsForest pairs parents nodes
  first_forest = record {
    sound = first_pairs_of;
    parent_count = h.parent_count;
    node_count = h.node_count;
    linked = record {
      joined = λ r e live own. elim (owner_cases (has_children pairs) e) [
        | inl v ↦ let o = v.1 in base_joined r e live (omega arith)
        | inr v ↦ let o = v.1 in leg_joined r e live (omega arith)
      ];
    };
    children = λ r live.
        let s = first_slot pairs parents nodes r h live in
        inl (
          of_both (λ t. t.children) nowhere (ap (λ t. t.children) h.lower) (ap (λ t. t.children) h.upper) r s.0,
          whole (address_at pairs r) live,
        );
    upward = λ k two.
        absurd (⊎_elim (λ e. let z : get_or pairs k 0 ≡ 1 = ap (λ t. get_or pairs t 0) e ∙ h.one in omega arith)
        (λ n. let z = h.rest k n in omega arith) (cases_eq k 0));
  }

-- at first no triangle of the grid is split, so the set is closed
pub first_closed : (n : ℕ) (pairs parents : List ℕ) (nodes : List Node) → IsFirst pairs parents nodes →
    IsClosed n (split_set pairs)
first_closed n pairs parents nodes h =
    let none : (p : ℕ) → split_set pairs p ≡ true → ⊥ = λ p y.
    let z = has_children_one pairs parents nodes p h (set-has_children pairs p y) in
    let low = ltb-true 1 p (and_parts (nat_lt 1 p) (among pairs p) y).0 in omega arith in
    record {
      splittable = λ p y. absurd (none p y);
      parent = λ p y deep. absurd (none p y);
      mate = λ p q y m. absurd (none p y);
    }

-- the first pairs, parents and nodes are a mesh
pub first_mesh : (n : ℕ) (pairs parents : List ℕ) (nodes : List Node) → 1 ≤ n → n ≤ 14 → IsFirst pairs parents nodes →
    IsMesh n pairs parents nodes
first_mesh n pairs parents nodes low high h = record {
  n_low = low;
  n_high = high;
  forest = first_forest pairs parents nodes h;
  closed =
      first_closed n pairs parents nodes h;
}

-- zeros with a 1 at pair 0, and nodes with the two halves of the square at slots 0 and 1, are the first ones
pub first_of : (how_many : ℕ) (zeros parents : List ℕ) (raw : List Node) (one two : Node) →
    1 ≤ how_many → how_many < 2 ^ 20 →
    zeros ≡ replicate how_many 0 → length parents ≡ how_many → length raw ≡ 2 * how_many →
    one ≡ record { children = nowhere; base = 1; left = nowhere; right = nowhere } →
    two ≡ record { children = nowhere; base = 0; left = nowhere; right = nowhere } →
    IsFirst (set zeros 0 1) parents (set (set raw 0 one) 1 two)
first_of how_many zeros parents raw one two some few is parent_count raw_count is_one is_two =
    let zero_count : length zeros ≡ how_many = ap length is ∙ length-replicate how_many 0 in
    let count : length (set zeros 0 1) ≡ length zeros = length-set zeros 0 1 in
    let c1 : length (set raw 0 one) ≡ length raw = length-set raw 0 one in
    let c2 : length (set (set raw 0 one) 1 two) ≡ length (set raw 0 one) = length-set (set raw 0 one) 1 two in
    record {
      one = get_or-set_same zeros 0 1 0 (omega arith);
      rest = λ i n. get_or-set_other zeros 0 i 1 0 n ∙ ap (λ t. get_or t i 0) is
          ∙ ⊎_elim (λ less. get_or-replicate how_many i 0 0 less)
          (λ past. get_or_past (replicate how_many 0) i 0
          (let z : length (replicate {A = ℕ} how_many 0) ≡ how_many = length-replicate
          how_many 0 in omega arith)) (cases_lt i how_many);
      short = omega arith;
      parent_count = omega arith;
      node_count = omega arith;
      lower = get_or-set_other (set raw 0 one) 1 0 two blank_node (λ z. omega arith)
          ∙ get_or-set_same raw 0 one blank_node (omega arith) ∙ is_one;
      upper = get_or-set_same (set raw 0 one) 1 two blank_node (omega arith) ∙ is_two;
    }

-- the number of free pairs of the first pool
pub first_room : (pairs : List ℕ) (how_many : ℕ) → length pairs ≡ how_many → 1 ≤ how_many → get_or pairs 0 0 ≡ 1 →
    ((i : ℕ) → i ≢ 0 → get_or pairs i 0 ≡ 0) → room_of pairs + 1 ≡ how_many
first_room pairs how_many count some one rest =
    let f : ℕ → ℕ = λ t. cond (nat_eq t 0) 1 0 in
    let zeros : List ℕ = replicate how_many 0 in
    let zero_count : length (replicate {A = ℕ} how_many 0) ≡ how_many = length-replicate how_many 0 in
    let is : pairs ≡ set (replicate how_many 0) 0 1 = ext_get_or 0 pairs (set (replicate how_many 0) 0 1)
    (let z = length-set (replicate {A = ℕ} how_many 0) 0 1 in omega arith)
    (λ i less. elim (cases_eq i 0) [
      | inl e ↦ ap (λ t. get_or pairs t 0) e ∙ one
          ∙ sym (ap (λ t. get_or (set (replicate how_many 0) 0 1) t 0) e
          ∙ get_or-set_same (replicate how_many 0) 0 1 0 (omega arith))
      | inr n ↦ rest i n
          ∙ sym (get_or-set_other (replicate how_many 0) 0 i 1 0 n ∙ get_or-replicate how_many i 0 0 (omega arith))
    ]) in
    let all = sum_by-set f (replicate how_many 0) 0 1 0 (omega arith) in
    let at_0 : f (get_or (replicate how_many 0) 0 0) ≡ 1 = ap f (get_or-replicate how_many 0 0 0 (omega arith)) in
    let total : sum_by f (replicate how_many 0) ≡ how_many * 1 = sum_by-replicate f how_many 0 in
    let same : room_of pairs ≡ room_of (set (replicate how_many 0) 0 1) = ap room_of is in
    omega arith

-- at first all pairs but 0 are free
pub first_free : (pairs : List ℕ) (free : FreeState) (how_many : ℕ) → length pairs ≡ how_many →
    1 ≤ how_many → get_or pairs 0 0 ≡ 1 →
    ((i : ℕ) → i ≢ 0 → get_or pairs i 0 ≡ 0) →
    free.returned ≡ [] → free.unused ≡ 1 → free.pairs ≡ how_many → IsFree pairs free
first_free pairs free how_many count some one rest none unused all =
    let room : room_of pairs + 1 ≡ how_many = first_room pairs how_many count some one rest in
    let empty : length free.returned ≡ 0 = ap length none in
    record {
      all = omega arith;
      within = omega arith;
      count = omega arith;
      fresh = λ i high. rest i (λ e. omega arith);
      vacant = λ i less. absurd (omega arith);
      distinct = λ i j p q e. absurd (omega arith);
    }

-- so what is known of a pool's pairs is so of the first ones
pub first_pairs : (most : ℕ) (pairs : List ℕ) (free : FreeState) → 2 ≤ most → most ≤ MOST_LEAVES →
    length pairs ≡ most - 1 →
    get_or pairs 0 0 ≡ 1 → ((i : ℕ) → i ≢ 0 → get_or pairs i 0 ≡ 0) →
    free.returned ≡ [] → free.unused ≡ 1 → free.pairs ≡ most - 1 → HasPairs most pairs free
first_pairs most pairs free low high count one rest none unused all = record {
  most_low = low;
  most_high = high;
  pair_count = omega arith;
  vacancies = first_free pairs free (most - 1) count (omega arith) one rest none unused all;
}
