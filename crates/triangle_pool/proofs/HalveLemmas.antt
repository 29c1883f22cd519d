-- Splitting one triangle.
use Rattle.std.proofs.Common.{◌≡◌, ◌≢◌, ap, sym, ◌∙◌, true, false, ℕ, ◌+◌, ◌*◌, ◌/◌, ◌%◌, ◌^◌, ◌<◌, ◌≤◌, arith}
use Rattle.std.proofs.Common.{inl, inr, ⊎_elim, List, length, get_or, set, get_or-set_other, get_or-set_same}
use Rattle.std.proofs.lemmas.Bool.{cases_eq, cases_lt, cases_Bool, true≢false, eq-eqb, ne_eqb}
use Rattle.std.proofs.lemmas.List.{get_or_past}
use Rattle.std.proofs.Math.ListN.{length-set}
use Rattle.mesh_defs.specs.Triangle.{level_of}
use Rattle.mesh_laws.specs.Edge.{mate_of, owner}
use Rattle.mesh_laws.specs.Net.{Net, nowhere, IsTree, IsHalving}
use Rattle.mesh_laws.proofs.MateLemmas.{mate_of-back, mate_of-low, mate_of-level, mate_of-1, mate_of-2}
use Rattle.mesh_laws.proofs.OwnerLemmas.{owner-whole}
use Rattle.mesh_laws.proofs.NetLemmas.{IsLinked-halving, IsTree-halving}
use Rattle.triangle_pool.specs.declared.forest.Node.{Node}
use Rattle.mesh_laws.specs.Slots.{address_at, has_children, IsLive}
use Rattle.triangle_pool.specs.Links.{node_at, edge_link, net_of, ArePairs, AreChildrenAt, IsForest, IsAcross}
use Rattle.triangle_pool.specs.Links.{IsRelinked, MayHalve, AreInnerLinks, ArePlacedNodes, with_link}
use Rattle.mesh_laws.proofs.SlotLemmas.{child_at, has_children-added, has_children-kept}
use Rattle.triangle_pool.proofs.RelinkLemmas.{edge-base, edge-left, edge-right, edge_low, relinked_turn}
use Rattle.bintree_laws.proofs.LevelLemmas.{level_of-left, level_of-right}

-- the slots of sound pairs are those of a tree, whatever the nodes
pub tree_of : (pairs : List ℕ) (nodes : List Node) → ArePairs pairs → IsTree (net_of pairs nodes)
tree_of pairs nodes h = let t = h.tree in record { root = t.root; parent = t.parent; live = t.live; once = t.once }

-- The nodes after: four edges are linked anew, and the two children have their nodes.
pub record IsRenewed (pairs : List ℕ) (before after : List Node) (s k a mate : ℕ) : Type 0 where
  pub there : (r e : ℕ) → IsLive pairs r → owner (has_children pairs) e ≡ address_at pairs r →
      ((mate_of e ≡ 2 * a → edge_link (node_at after r) (address_at pairs r) e ≡ 2 * k)
      × (mate_of e ≡ 2 * a + 1 → edge_link (node_at after r) (address_at pairs r) e ≡ 2 * k + 1))
  pub inner : (r e : ℕ) → IsLive pairs r → owner (has_children pairs) e ≡ address_at pairs r → mate ≢ nowhere →
      ((mate_of e ≡ 4 * a + 1 → edge_link (node_at after r) (address_at pairs r) e ≡ 2 * k)
      × (mate_of e ≡ 4 * a + 2 → edge_link (node_at after r) (address_at pairs r) e ≡ 2 * k + 1))
  pub others : (r e : ℕ) → IsLive pairs r → owner (has_children pairs) e ≡ address_at pairs r →
      mate_of e ≢ 2 * a → mate_of e ≢ 2 * a + 1 →
      mate_of e ≢ 4 * a + 1 → mate_of e ≢ 4 * a + 2 →
      edge_link (node_at after r) (address_at pairs r) e ≡ edge_link (node_at before r) (address_at pairs r) e
  pub left_base : (node_at after (2 * k)).base ≡ (node_at before s).left
  pub right_base : (node_at after (2 * k + 1)).base ≡ (node_at before s).right
  pub left_left : (node_at after (2 * k)).left ≡ 2 * k + 1
  pub right_right : (node_at after (2 * k + 1)).right ≡ 2 * k
  pub left_right : (mate ≡ nowhere → (node_at after (2 * k)).right ≡ nowhere)
      × (mate ≢ nowhere → (node_at after (2 * k)).right ≡ 2 * mate + 1)
  pub right_left : (mate ≡ nowhere → (node_at after (2 * k + 1)).left ≡ nowhere)
      × (mate ≢ nowhere → (node_at after (2 * k + 1)).left ≡ 2 * mate)
  pub children : (r : ℕ) → r / 2 ≢ k → r ≢ s → (node_at after r).children ≡ (node_at before r).children
  pub new_children : (node_at after (2 * k)).children ≡ nowhere × ((node_at after (2 * k + 1)).children ≡ nowhere)
  pub own_children : (node_at after s).children ≡ k
  pub count : length after ≡ length before

-- addresses after the pair k is given to a
pub address-new : (pairs : List ℕ) (k a r : ℕ) → k < length pairs → r / 2 ≡ k →
    address_at (set pairs k a) r ≡ 2 * a + r % 2
address-new pairs k a r within here =
    let z : get_or (set pairs k a) (r / 2) 0 ≡ a =
    ap (λ t. get_or (set pairs k a) t 0) here ∙ get_or-set_same pairs k a 0 within in
    omega arith

-- slots outside the pair k keep their addresses
pub address-old : (pairs : List ℕ) (k a r : ℕ) → r / 2 ≢ k → address_at (set pairs k a) r ≡ address_at pairs r
address-old pairs k a r apart =
    let z : get_or (set pairs k a) (r / 2) 0 ≡ get_or pairs (r / 2) 0 = get_or-set_other pairs k (r / 2) a 0 apart in
    omega arith

address-free : (pairs : List ℕ) (k r : ℕ) → get_or pairs k 0 ≡ 0 → r / 2 ≡ k → address_at pairs r < 2
address-free pairs k r free here =
    let z : get_or pairs (r / 2) 0 ≡ 0 = ap (λ t. get_or pairs t 0) here ∙ free in
    omega arith

-- a live slot is in no free pair
pub live_apart : (pairs : List ℕ) (k r : ℕ) → get_or pairs k 0 ≡ 0 → IsLive pairs r → r / 2 ≢ k
live_apart pairs k r free live here = let z = address-free pairs k r free here in omega arith

-- where a child of the mate is live, the mate has a pair
mate_given : (pairs : List ℕ) (s k a mate q : ℕ) → ArePairs pairs → MayHalve pairs s k a mate → 1 ≤ mate_of a →
    address_at pairs q / 2 ≡ mate_of a →
    (mate ≢ nowhere) × (get_or pairs mate 0 ≡ mate_of a)
mate_given pairs s k a mate q h ready some child =
    let b = mate_of-low a ready.low some in
    let is_split : has_children pairs (mate_of a) ≡ true =
    ap (has_children pairs) (sym child) ∙ h.tree.live q (omega arith) in
    let given : mate ≢ nowhere = λ none. true≢false (sym is_split ∙ ready.alone none) in
    (given, (ready.paired given).1)

address_even : (pairs : List ℕ) (i p : ℕ) → get_or pairs i 0 ≡ p → address_at pairs (2 * i) ≡ 2 * p
address_even pairs i p is =
    let half : (2 * i) / 2 ≡ i = omega arith in
    let z : get_or pairs ((2 * i) / 2) 0 ≡ p = ap (λ t. get_or pairs t 0) half ∙ is in omega arith

-- the halving that the lists are: the pair k is given to the children of a

module _ (pairs : List ℕ) (before after : List Node) (s k a mate : ℕ) (h : ArePairs pairs)
    (ready : MayHalve pairs s k a mate)
    (renewed : IsRenewed pairs before after s k a mate) where
  -- the nets before and after
  abbrev old : Net
  old = net_of pairs before

  abbrev new : Net
  new = net_of (set pairs k a) after

  -- the two new slots have the children of a
  at_left : address_at (set pairs k a) (2 * k) ≡ 2 * a
  at_left = let z = address-new pairs k a (2 * k) ready.within (omega arith) in omega arith

  at_right : address_at (set pairs k a) (2 * k + 1) ≡ 2 * a + 1
  at_right = let z = address-new pairs k a (2 * k + 1) ready.within (omega arith) in omega arith

  -- each live slot keeps its triangle
  keep : (r : ℕ) → IsLive pairs r → address_at (set pairs k a) r ≡ address_at pairs r
  keep r live = address-old pairs k a r (live_apart pairs k r ready.free live)

  -- the bases of the children have the links that the legs of a had
  bases : (new.link (2 * k) (2 * a) ≡ old.link s (2 * a)) × (new.link (2 * k + 1) (2 * a + 1) ≡ old.link s (2 * a + 1))
  bases = let low = ready.low in let left = at_left in let right = at_right in (
    edge-base (node_at after (2 * k)) (address_at (set pairs k a) (2 * k)) (2 * a) (sym left) ∙ renewed.left_base
        ∙ sym (edge-left (node_at before s) (address_at pairs s) (2 * a) (λ w. let z = ready.address in omega arith)
        (let z = ready.address in omega arith)),
    edge-base (node_at after (2 * k + 1)) (address_at (set pairs k a) (2 * k + 1)) (2 * a + 1) (sym right)
        ∙ renewed.right_base
        ∙ sym (edge-right (node_at before s) (address_at pairs s) (2 * a + 1)
        (λ w. let z = ready.address in omega arith)
        (let z = ready.address in omega arith)),
  )

  -- the edge between the children links each to the other
  between : (new.link (2 * k) (4 * a) ≡ 2 * k + 1) × (new.link (2 * k + 1) (4 * a + 3) ≡ 2 * k)
  between = let low = ready.low in let left = at_left in let right = at_right in (
    edge-left (node_at after (2 * k)) (address_at (set pairs k a) (2 * k)) (4 * a) (λ w. omega arith) (omega arith)
        ∙ renewed.left_left,
    edge-right (node_at after (2 * k + 1)) (address_at (set pairs k a) (2 * k + 1)) (4 * a + 3)
        (λ w. omega arith) (omega arith)
        ∙ renewed.right_right,
  )

  -- the halves of the base of a link to what the nodes of the children say
  half_left : new.link (2 * k) (4 * a + 1) ≡ (node_at after (2 * k)).right
  half_left = let low = ready.low in let left = at_left in
      edge-right (node_at after (2 * k)) (address_at (set pairs k a) (2 * k)) (4 * a + 1)
      (λ w. omega arith) (omega arith)

  half_right : new.link (2 * k + 1) (4 * a + 2) ≡ (node_at after (2 * k + 1)).left
  half_right = let low = ready.low in let right = at_right in
      edge-left (node_at after (2 * k + 1)) (address_at (set pairs k a) (2 * k + 1)) (4 * a + 2)
      (λ w. omega arith) (omega arith)

  -- to nothing where the base lies on the border
  border : mate_of a ≡ 0 → (new.link (2 * k) (4 * a + 1) ≡ nowhere) × (new.link (2 * k + 1) (4 * a + 2) ≡ nowhere)
  border none =
      let lone : mate ≡ nowhere =
      ⊎_elim (λ e. e) (λ n. absurd (let z = (ready.paired n).0 in omega arith)) (cases_eq mate nowhere) in
      (half_left ∙ renewed.left_right.0 lone, half_right ∙ renewed.right_left.0 lone)

  -- and to a child of the mate where that is at a slot, which links back
  left_mate : (q : ℕ) → 1 ≤ mate_of a → address_at pairs q ≡ 2 * mate_of a + 1 →
      (new.link (2 * k) (4 * a + 1) ≡ q) × (new.link q (4 * mate_of a + 2) ≡ 2 * k)
  left_mate q some there =
      let low = ready.low in
      let b = mate_of-low a low some in
      let paired = mate_given pairs s k a mate q h ready some (omega arith) in
      let at : address_at pairs (2 * mate + 1) ≡ 2 * mate_of a + 1 =
      child_at pairs mate (mate_of a) 1 (omega arith) paired.1 in
      let is : q ≡ 2 * mate + 1 = h.tree.once q (2 * mate + 1) (omega arith) (there ∙ sym at) in
      let own : owner (has_children pairs) (4 * mate_of a + 2) ≡ address_at pairs q =
      owner-whole (has_children pairs) (4 * mate_of a + 2)
      (ap (has_children pairs) (let y : (4 * mate_of a + 2) / 2 ≡ 2 * mate_of a + 1 = omega arith in y)
      ∙ (ready.childless some).1)
      ∙ (let y : (4 * mate_of a + 2) / 2 ≡ address_at pairs q = omega arith in y) in
      let back : mate_of (mate_of a) ≡ a = mate_of-back a low some in
      let far : mate_of (4 * mate_of a + 2) ≡ 4 * a + 1 =
      (mate_of-2 (mate_of a) b).1 (omega arith) ∙ ap (λ t. 4 * t + 1) back in (
        half_left ∙ renewed.left_right.1 paired.0 ∙ sym is,
        ap (λ t. edge_link (node_at after q) t (4 * mate_of a + 2)) (keep q (omega arith))
            ∙ (renewed.inner q (4 * mate_of a + 2) (omega arith) own paired.0).0 far,
      )

  right_mate : (q : ℕ) → 1 ≤ mate_of a → address_at pairs q ≡ 2 * mate_of a →
      (new.link (2 * k + 1) (4 * a + 2) ≡ q) × (new.link q (4 * mate_of a + 1) ≡ 2 * k + 1)
  right_mate q some there =
      let low = ready.low in
      let b = mate_of-low a low some in
      let paired = mate_given pairs s k a mate q h ready some (omega arith) in
      let at : address_at pairs (2 * mate) ≡ 2 * mate_of a = address_even pairs mate (mate_of a) paired.1 in
      let is : q ≡ 2 * mate = h.tree.once q (2 * mate) (omega arith) (there ∙ sym at) in
      let own : owner (has_children pairs) (4 * mate_of a + 1) ≡ address_at pairs q =
      owner-whole (has_children pairs) (4 * mate_of a + 1)
      (ap (has_children pairs) (let y : (4 * mate_of a + 1) / 2 ≡ 2 * mate_of a = omega arith in y)
      ∙ (ready.childless some).0)
      ∙ (let y : (4 * mate_of a + 1) / 2 ≡ address_at pairs q = omega arith in y) in
      let back : mate_of (mate_of a) ≡ a = mate_of-back a low some in
      let far : mate_of (4 * mate_of a + 1) ≡ 4 * a + 2 =
      (mate_of-1 (mate_of a) b).1 (omega arith) ∙ ap (λ t. 4 * t + 2) back in (
        half_right ∙ renewed.right_left.1 paired.0 ∙ sym is,
        ap (λ t. edge_link (node_at after q) t (4 * mate_of a + 1)) (keep q (omega arith))
            ∙ (renewed.inner q (4 * mate_of a + 1) (omega arith) own paired.0).1 far,
      )

  -- an edge across a leg of a links to the child that has the leg for its base
  turned : (r e : ℕ) → IsLive pairs r → owner (has_children pairs) e ≡ address_at pairs r →
      1 ≤ mate_of e → mate_of e / 2 ≡ a →
      new.link r e ≡ 2 * k + mate_of e % 2
  turned r e live own some turn =
      let two : 2 ≤ e = edge_low pairs r e live own in
      ap (λ t. edge_link (node_at after r) t e) (keep r live) ∙ ⊎_elim
      (λ even. let z : mate_of e ≡ 2 * a = omega arith in (renewed.there r e live own).0 z
      ∙ (let y : 2 * k ≡ 2 * k + mate_of e % 2 = omega arith in y))
      (λ odd. let z : mate_of e ≡ 2 * a + 1 = omega arith in (renewed.there r e live own).1 z
      ∙ (let y : 2 * k + 1 ≡ 2 * k + mate_of e % 2 = omega arith in y))
      (cases_lt (mate_of e % 2) 1)

  -- and every other edge links to where it did
  same : (r e : ℕ) → IsLive pairs r → owner (has_children pairs) e ≡ address_at pairs r →
      mate_of e / 2 ≢ a → mate_of e / 4 ≢ a →
      new.link r e ≡ old.link r e
  same r e live own still outer =
      ap (λ t. edge_link (node_at after r) t e) (keep r live) ∙
      renewed.others r e live own (λ w. still (omega arith)) (λ w. still (omega arith)) (λ w. outer (omega arith))
      (λ w. outer (omega arith))

  -- so a is halved
  halving : IsHalving old new s k a
  halving = let low = ready.low in record {
    address = ready.address;
    low = low;
    leaf = ready.leaf;
    mate_childless = ready.childless;
    free = λ r here. address-free pairs k r ready.free here;
    left = at_left;
    right = at_right;
    old = λ r apart. address-old pairs k a r apart;
    added = has_children-added pairs k a ready.within (omega arith);
    kept = λ p other. has_children-kept pairs k a p ready.within ready.free other;
    left_base = bases.0;
    right_base = bases.1;
    left_inner = between.0;
    right_inner = between.1;
    border = border;
    left_mate = left_mate;
    right_mate = right_mate;
    turned = turned;
    same = λ r e live own apart still outer. same r e live own still outer;
  }

small_set : (pairs : List ℕ) (k a : ℕ) → ((i : ℕ) → get_or pairs i 0 < 2 ^ 29) → a < 2 ^ 29 →
    k < length pairs → (i : ℕ) →
    get_or (set pairs k a) i 0 < 2 ^ 29
small_set pairs k a small high within i = elim (cases_eq i k) [
  | inl h ↦ let z : get_or (set pairs k a) i 0 ≡ a =
      ap (λ t. get_or (set pairs k a) t 0) h ∙ get_or-set_same pairs k a 0 within in
      omega arith
  | inr h ↦ let z = get_or-set_other pairs k i a 0 h in let y = small i in omega arith
]

-- a child of a leaf is not split
pub child_shut : (pairs : List ℕ) (p a : ℕ) → ArePairs pairs → has_children pairs a ≡ false → p / 2 ≡ a → 2 ≤ p →
    has_children pairs p ≡ false
child_shut pairs p a h leaf child low = ⊎_elim
    (λ y. absurd (true≢false (sym (h.tree.parent p low y) ∙ ap (has_children pairs) child ∙ leaf)))
    (λ n. n) (cases_Bool (has_children pairs p))

-- what a forest says of slots, after a leaf was split

module _ (pairs parents : List ℕ) (before after : List Node) (s k a mate : ℕ) (f : IsForest pairs parents before)
    (ready : MayHalve pairs s k a mate) (up : has_children pairs (a / 2) ≡ true)
    (renewed : IsRenewed pairs before after s k a mate) where
  abbrev h : ArePairs pairs
  h = f.sound

  -- the two new leaves have no children
  new_whole : (r : ℕ) → r / 2 ≡ k →
      AreChildrenAt (set pairs k a) (address_at (set pairs k a) r) (node_at after r).children
  new_whole r here =
      let low = ready.low in
      let z = address-new pairs k a r ready.within here in
      inl (
        ⊎_elim
            (λ even. let e : r ≡ 2 * k = omega arith in ap (λ t. (node_at after t).children) e ∙ renewed.new_children.0)
            (λ odd.
            let e : r ≡ 2 * k + 1 = omega arith in
            ap (λ t. (node_at after t).children) e ∙ renewed.new_children.1)
            (cases_lt (r % 2) 1),
        has_children-kept pairs k a (address_at (set pairs k a) r) ready.within ready.free (omega arith) ∙
            child_shut pairs (address_at (set pairs k a) r) a h ready.leaf (omega arith) (omega arith),
      )

  -- the triangle that was split has the pair k
  split_given : (r : ℕ) → r / 2 ≢ k → r ≡ s →
      AreChildrenAt (set pairs k a) (address_at (set pairs k a) r) (node_at after r).children
  split_given r apart same =
      let within = ready.within in
      let short = h.short in
      let is : address_at (set pairs k a) r ≡ a =
      address-old pairs k a r apart ∙ ap (address_at pairs) same ∙ ready.address in
      let own : (node_at after r).children ≡ k = ap (λ t. (node_at after t).children) same ∙ renewed.own_children in
      inr ((λ w. omega arith), ap (λ t. get_or (set pairs k a) t 0) own ∙ get_or-set_same pairs k a 0 within ∙ sym is)

  -- and every other one has the children that it had
  others_given : (r : ℕ) → IsLive (set pairs k a) r → r / 2 ≢ k → r ≢ s →
      AreChildrenAt (set pairs k a) (address_at (set pairs k a) r) (node_at after r).children
  others_given r live apart other =
      let low = ready.low in
      let z = address-old pairs k a r apart in
      let kept = renewed.children r apart other in
      let was : AreChildrenAt pairs (address_at pairs r) (node_at before r).children = f.children r (omega arith) in
      let at_apart : address_at pairs r ≢ a = λ w. other (h.tree.once r s (omega arith) (w ∙ sym ready.address)) in
      ⊎_elim
      (λ none. inl (
        kept ∙ none.0,
        ap (has_children (set pairs k a)) z
            ∙ has_children-kept pairs k a (address_at pairs r) ready.within ready.free at_apart ∙ none.1,
      ))
      (λ some. let pair_is = some.1 in let free = ready.free in inr (
        (λ w. some.0 (sym kept ∙ w)),
        ap (λ t. get_or (set pairs k a) t 0) kept ∙ get_or-set_other pairs k (node_at before r).children a 0 (λ w.
            let y : get_or pairs (node_at before r).children 0 ≡ 0 = ap (λ t. get_or pairs t 0) w ∙ free in omega arith)
            ∙ some.1 ∙ sym z,
      )) was

  -- the parent of each pair has its address
  parents_right : (i : ℕ) → 2 ≤ get_or (set pairs k a) i 0 →
      address_at (set pairs k a) (get_or (set parents k s) i 0) ≡ get_or (set pairs k a) i 0
  parents_right i given =
      let low = ready.low in let within = ready.within in let parent_count = f.parent_count in
      elim (cases_eq i k) [
        | inl here ↦
            let s_apart : s / 2 ≢ k = live_apart pairs k s ready.free (let z = ready.address in omega arith) in
            ap (λ t. address_at (set pairs k a) (get_or (set parents k s) t 0)) here
            ∙ ap (address_at (set pairs k a)) (get_or-set_same parents k s 0 (omega arith))
            ∙ address-old pairs k a s s_apart ∙ ready.address
            ∙ sym (ap (λ t. get_or (set pairs k a) t 0) here ∙ get_or-set_same pairs k a 0 within)
        | inr apart ↦
            let top : get_or (set pairs k a) i 0 ≡ get_or pairs i 0 = get_or-set_other pairs k i a 0 apart in
            let link : get_or (set parents k s) i 0 ≡ get_or parents i 0 = get_or-set_other parents k i s 0 apart in
            let old_at : address_at pairs (get_or parents i 0) ≡ get_or pairs i 0 = f.upward i (omega arith) in
            ap (address_at (set pairs k a)) link
            ∙ address-old pairs k a (get_or parents i 0)
            (live_apart pairs k (get_or parents i 0) ready.free (omega arith)) ∙ old_at
            ∙ sym top
      ]

  -- A forest in which a leaf was split is a forest.
  pub forest_halved : IsForest (set pairs k a) (set parents k s) after
  forest_halved =
      let made = halving pairs before after s k a mate h ready renewed in
      let tree : IsTree (net_of (set pairs k a) after) =
      IsTree-halving (net_of pairs before) (net_of (set pairs k a) after) s k a (tree_of pairs before h) made up in
      let count : length (set pairs k a) ≡ length pairs = length-set pairs k a in
      let parent_count : length (set parents k s) ≡ length parents = length-set parents k s in
      let same_count = f.parent_count in
      let node_count = f.node_count in
      let same_nodes = renewed.count in
      let short = h.short in
      record {
        sound = record {
          tree = record { root = tree.root; parent = tree.parent; live = tree.live; once = tree.once };
          small = small_set pairs k a h.small ready.high ready.within;
          short = omega arith;
        };
        parent_count = omega arith;
        node_count = omega arith;
        linked = IsLinked-halving (net_of pairs before) (net_of (set pairs k a) after) s k a
            (tree_of pairs before h) made f.linked;
        children = λ r live. elim (cases_eq (r / 2) k) [
          | inl here ↦ new_whole r here
          | inr apart ↦ elim (cases_eq r s) [
            | inl same ↦ split_given r apart same
            | inr other ↦ others_given r live apart other
          ]
        ];
        upward = parents_right;
      }

-- ---- what the code does to the nodes

-- once both legs and the inner edges are linked and the two nodes are in their places, the nodes are renewed
pub renewed_by : (pairs : List ℕ) (n0 n1 n2 n3 n4 : List Node) (s k a mate : ℕ) (one two : Node) →
    MayHalve pairs s k a mate →
    IsRelinked pairs n0 n1 (2 * a) (2 * k) → IsRelinked pairs n1 n2 (2 * a + 1) (2 * k + 1) →
    AreInnerLinks pairs n2 n3 k a mate →
    ArePlacedNodes n3 n4 s k one two →
    one.children ≡ nowhere → one.base ≡ (node_at n0 s).left → one.left ≡ 2 * k + 1 →
    (mate ≡ nowhere → one.right ≡ nowhere) →
    (mate ≢ nowhere → one.right ≡ 2 * mate + 1) →
    two.children ≡ nowhere → two.base ≡ (node_at n0 s).right → (mate ≡ nowhere → two.left ≡ nowhere) →
    (mate ≢ nowhere → two.left ≡ 2 * mate) → two.right ≡ 2 * k →
    length n4 ≡ length n0 → IsRenewed pairs n0 n4 s k a mate
renewed_by pairs n0 n1 n2 n3 n4 s k a mate one two ready r1 r2 inner placed k1 b1 l1 x1 y1 k2 b2 x2 y2 l2 count =
    let low = ready.low in
    let still : (r e : ℕ) → IsLive pairs r →
    edge_link (node_at n4 r) (address_at pairs r) e ≡ edge_link (node_at n3 r) (address_at pairs r) e = λ r e live.
    elim (cases_eq r s) [
      | inl same ↦ ap (λ t. edge_link (node_at n4 t) (address_at pairs r) e) same
          ∙ ap (λ t. edge_link t (address_at pairs r) e) placed.own
          ∙ ap (λ t. edge_link (node_at n3 t) (address_at pairs r) e) (sym same)
      | inr other ↦ ap (λ t. edge_link t (address_at pairs r) e)
          (placed.others r (live_apart pairs k r ready.free live) other)
    ] in
    record {
      there = λ r e live own. (
        (λ f. still r e live ∙ inner.others r e live own (λ w. omega arith) (λ w. omega arith)
            ∙ r2.others r e live own (λ w. omega arith)
            ∙ r1.there r e live own f),
        (λ f. still r e live ∙ inner.others r e live own (λ w. omega arith) (λ w. omega arith)
            ∙ r2.there r e live own f),
      );
      inner = λ r e live own given. (
        (λ f. still r e live ∙ (inner.there r e live own given).0 f),
        (λ f. still r e live ∙ (inner.there r e live own given).1 f),
      );
      others = λ r e live own x y z w.
          still r e live ∙ inner.others r e live own z w ∙ r2.others r e live own y ∙ r1.others r e live own x;
      left_base = ap (λ t. t.base) placed.left ∙ b1;
      right_base = ap (λ t. t.base) placed.right ∙ b2;
      left_left = ap (λ t. t.left) placed.left ∙ l1;
      right_right = ap (λ t. t.right) placed.right ∙ l2;
      left_right = ((λ n. ap (λ t. t.right) placed.left ∙ x1 n), (λ n. ap (λ t. t.right) placed.left ∙ y1 n));
      right_left = ((λ n. ap (λ t. t.left) placed.right ∙ x2 n), (λ n. ap (λ t. t.left) placed.right ∙ y2 n));
      children = λ r apart other. ap (λ t. t.children) (placed.others r apart other) ∙ inner.children r
          ∙ r2.children r ∙ r1.children r;
      new_children = (ap (λ t. t.children) placed.left ∙ k1, ap (λ t. t.children) placed.right ∙ k2);
      own_children = ap (λ t. t.children) placed.own;
      count = count;
    }

-- the pair of the mate is one of the pairs
pub mate_within : (pairs : List ℕ) (s k a mate : ℕ) → MayHalve pairs s k a mate → mate ≢ nowhere → mate < length pairs
mate_within pairs s k a mate ready given =
    let paired = ready.paired given in let b = mate_of-low a ready.low paired.0 in let is = paired.1 in
    ⊎_elim (λ w. w) (λ past. absurd (let z = get_or_past pairs mate 0 past in omega arith))
    (cases_lt mate (length pairs))

-- one leg of each child of the mate, linked to the new child of a across it, gives the inner links
pub inner_linked : (pairs : List ℕ) (n0 n1 n2 : List Node) (s k a mate : ℕ) → ArePairs pairs →
    MayHalve pairs s k a mate → mate ≢ nowhere →
    length n0 ≡ 2 * length pairs → length n1 ≡ length n0 →
    n1 ≡ set n0 (2 * mate) (with_link (node_at n0 (2 * mate)) false true (2 * k + 1)) →
    n2 ≡ set n1 (2 * mate + 1) (with_link (node_at n1 (2 * mate + 1)) false false (2 * k)) →
    AreInnerLinks pairs n0 n2 k a mate
inner_linked pairs n0 n1 n2 s k a mate h ready given count count_1 is_1 is_2 =
    let low = ready.low in
    let within = mate_within pairs s k a mate ready given in
    let short = h.short in
    let paired = ready.paired given in let some = paired.0 in
    let b = mate_of-low a low some in
    let back : mate_of (mate_of a) ≡ a = mate_of-back a low some in
    let of_1 : mate_of (4 * a + 1) ≡ 4 * mate_of a + 2 = (mate_of-1 a low).1 some in
    let of_2 : mate_of (4 * a + 2) ≡ 4 * mate_of a + 1 = (mate_of-2 a low).1 some in
    let none = ready.childless some in
    let at_left : address_at pairs (2 * mate) ≡ 2 * mate_of a = address_even pairs mate (mate_of a) paired.1 in
    let at_right : address_at pairs (2 * mate + 1) ≡ 2 * mate_of a + 1 =
    child_at pairs mate (mate_of a) 1 (omega arith) paired.1 in
    let level_1 : level_of (4 * a + 1) ≡ level_of (2 * mate_of a + 1) + 1 =
    let z : level_of (4 * mate_of a + 2) ≡ level_of (4 * a + 1) = ap level_of (sym of_1)
    ∙ mate_of-level (4 * a + 1) (omega arith) (omega arith) in
    let y : 2 * (2 * mate_of a + 1) ≡ 4 * mate_of a + 2 = omega arith in
    sym z ∙ ap level_of (sym y) ∙ level_of-left (2 * mate_of a + 1) (omega arith) in
    let level_2 : level_of (4 * a + 2) ≡ level_of (2 * mate_of a) + 1 =
    let z : level_of (4 * mate_of a + 1) ≡ level_of (4 * a + 2) = ap level_of (sym of_2)
    ∙ mate_of-level (4 * a + 2) (omega arith) (omega arith) in
    let y : 2 * (2 * mate_of a) + 1 ≡ 4 * mate_of a + 1 = omega arith in
    sym z ∙ ap level_of (sym y) ∙ level_of-right (2 * mate_of a) (omega arith) in
    let across_2 : IsAcross pairs (4 * a + 2) (2 * mate) =
    inr (
      omega arith,
      at_left ∙ sym (ap (owner (has_children pairs)) of_2 ∙ owner-whole (has_children pairs) (4 * mate_of a + 1)
          (ap (has_children pairs) (let y : (4 * mate_of a + 1) / 2 ≡ 2 * mate_of a = omega arith in y) ∙ none.0)
          ∙ (let y : (4 * mate_of a + 1) / 2 ≡ 2 * mate_of a = omega arith in y)),
    ) in
    let across_1 : IsAcross pairs (4 * a + 1) (2 * mate + 1) =
    inr (
      omega arith,
      at_right ∙ sym (ap (owner (has_children pairs)) of_1 ∙ owner-whole (has_children pairs) (4 * mate_of a + 2)
          (ap (has_children pairs) (let y : (4 * mate_of a + 2) / 2 ≡ 2 * mate_of a + 1 = omega arith in y) ∙ none.1)
          ∙ (let y : (4 * mate_of a + 2) / 2 ≡ 2 * mate_of a + 1 = omega arith in y)),
    ) in
    let r1 : IsRelinked pairs n0 n1 (4 * a + 2) (2 * k + 1) =
    relinked_turn pairs n0 n1 (2 * mate) (4 * a + 2) (2 * k + 1) false true h
    (omega arith) across_2 (λ w. omega arith) (omega arith)
    (sym (ne_eqb (level_of (address_at pairs (2 * mate))) (level_of (4 * a + 2))
    (λ w.
    let z : level_of (address_at pairs (2 * mate)) ≡ level_of (2 * mate_of a) = ap level_of at_left in
    omega arith)))
    (sym (eq-eqb ((4 * a + 2) % 2) 0 (omega arith))) is_1 in
    let r2 : IsRelinked pairs n1 n2 (4 * a + 1) (2 * k) =
    relinked_turn pairs n1 n2 (2 * mate + 1) (4 * a + 1) (2 * k) false false h
    (omega arith) across_1 (λ w. omega arith) (omega arith)
    (sym (ne_eqb (level_of (address_at pairs (2 * mate + 1))) (level_of (4 * a + 1))
    (λ w.
    let z : level_of (address_at pairs (2 * mate + 1)) ≡ level_of (2 * mate_of a + 1) = ap level_of at_right in
    omega arith)))
    (sym (ne_eqb ((4 * a + 1) % 2) 0 (λ w. omega arith))) is_2 in
    record {
      there = λ r e live own _. (
        (λ f. r2.there r e live own f),
        (λ f. r2.others r e live own (λ w. omega arith) ∙ r1.there r e live own f),
      );
      others = λ r e live own x y. r2.others r e live own x ∙ r1.others r e live own y;
      children = λ r. r2.children r ∙ r1.children r;
    }
