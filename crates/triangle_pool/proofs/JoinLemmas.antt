-- Taking the children of a triangle away.
use Rattle.std.proofs.Common.{◌≡◌, ◌≢◌, ap, sym, ◌∙◌, Bool, true, false, ℕ, ◌+◌, ◌*◌, ◌/◌, ◌%◌, ◌<◌, ◌≤◌, refl, arith}
use Rattle.std.proofs.Common.{inl, inr, ⊎_elim, subst, List, length, get_or, set, get_or-set_other, get_or-set_same}
use Rattle.std.proofs.lemmas.Bool.{cases_eq, cases_lt, true≢false}
use Rattle.std.proofs.lemmas.List.{get_or_past}
use Rattle.std.proofs.Math.ListN.{length-set}
use Rattle.mesh_laws.specs.Edge.{mate_of, owner}
use Rattle.mesh_laws.specs.Net.{IsTree, IsJoining}
use Rattle.mesh_laws.proofs.MateLemmas.{no_sibling, mate_of-root, mate_of-back, mate_of-level, mate_of-other}
use Rattle.mesh_laws.proofs.MateLemmas.{mate_of-no_child}
use Rattle.mesh_laws.proofs.IsMateLemmas.{mate_of-IsMate}
use Rattle.mesh_laws.proofs.OwnerLemmas.{owner_cases, owner-same, owner-split}
use Rattle.mesh_laws.proofs.NetLemmas.{read_link, read_less, IsLinked-joining, IsTree-joining}
use Rattle.mesh_defs.specs.Triangle.{level_of, IsSplittable, IsMate}
use Rattle.mesh_defs.specs.ClosedSet.{IsClosed}
use Rattle.bintree_laws.proofs.LevelLemmas.{level_of-below, level_of-parent}
use Rattle.mesh_laws.proofs.SlotLemmas.{has_children-set, set-has_children, slot_of, has_children-removed}
use Rattle.mesh_laws.proofs.SlotLemmas.{has_children-left, has_children_by, set_kept, set_false, pair_in, child_at}
use Rattle.triangle_pool.proofs.SplitLemmas.{whole_of}
use Rattle.triangle_pool.specs.declared.forest.Node.{Node}
use Rattle.mesh_laws.specs.Slots.{address_at, has_children, split_set}
use Rattle.triangle_pool.specs.Links.{node_at, edge_link, net_of, ArePairs, AreChildrenAt, IsForest, IsAcross}
use Rattle.triangle_pool.specs.Links.{IsRelinked, MayJoin, IsLeafAgain, MayMerge}
use Rattle.triangle_pool.proofs.RelinkLemmas.{edge-base, edge-left, edge-right}
use Rattle.triangle_pool.proofs.HalveLemmas.{tree_of, address-old, address-new}

pair_within : (pairs : List ℕ) (s k a : ℕ) → MayJoin pairs s k a → k < length pairs
pair_within pairs s k a h = let low = h.low in let is = h.pair in
    ⊎_elim (λ w. w) (λ past. absurd (let z = get_or_past pairs k 0 past in omega arith)) (cases_lt k (length pairs))

-- the pair of an address is one
pair_once : (pairs : List ℕ) (i k a : ℕ) → ArePairs pairs → 2 ≤ a → get_or pairs i 0 ≡ a → get_or pairs k 0 ≡ a → i ≡ k
pair_once pairs i k a h low at_i at_k =
    let hi : (2 * i) / 2 ≡ i = omega arith in let hk : (2 * k) / 2 ≡ k = omega arith in
    let x : address_at pairs (2 * i) ≡ 2 * a =
    let z : get_or pairs ((2 * i) / 2) 0 ≡ a = ap (λ t. get_or pairs t 0) hi ∙ at_i in
    omega arith in
    let y : address_at pairs (2 * k) ≡ 2 * a =
    let z : get_or pairs ((2 * k) / 2) 0 ≡ a = ap (λ t. get_or pairs t 0) hk ∙ at_k in
    omega arith in
    let same : 2 * i ≡ 2 * k = h.tree.once (2 * i) (2 * k) (omega arith) (x ∙ sym y) in omega arith

-- once the pair k has no triangle, its two slots are free
pub gone_low : (pairs : List ℕ) (k r : ℕ) → k < length pairs → r / 2 ≡ k → address_at (set pairs k 0) r < 2
gone_low pairs k r within here = let z = address-new pairs k 0 r within here in omega arith

-- the joining that the lists are: the pair k of the children of a is taken away

module _ (pairs : List ℕ) (n0 n1 n2 n3 : List Node) (s k a : ℕ) (h : ArePairs pairs) (bare : MayJoin pairs s k a)
    (r1 : IsRelinked pairs n0 n1 (2 * a) s) (r2 : IsRelinked pairs n1 n2 (2 * a + 1) s)
    (again : IsLeafAgain n2 n3 s (node_at n0 (2 * k)).base (node_at n0 (2 * k + 1)).base) where
  -- the pairs without that of a
  abbrev rest : List ℕ
  rest = set pairs k 0

  within : k < length pairs
  within = pair_within pairs s k a bare

  -- the children were at the two slots of the pair
  was_left : address_at pairs (2 * k) ≡ 2 * a
  was_left =
      let hk : (2 * k) / 2 ≡ k = omega arith in
      let z : get_or pairs ((2 * k) / 2) 0 ≡ a = ap (λ t. get_or pairs t 0) hk ∙ bare.pair in omega arith

  was_right : address_at pairs (2 * k + 1) ≡ 2 * a + 1
  was_right =
      let hk : (2 * k + 1) / 2 ≡ k = omega arith in
      let z : get_or pairs ((2 * k + 1) / 2) 0 ≡ a = ap (λ t. get_or pairs t 0) hk ∙ bare.pair in omega arith

  -- no other triangle is a leaf now that was split
  kept : (p : ℕ) → p ≢ a → has_children rest p ≡ has_children pairs p
  kept p n = has_children-left pairs k a p within bare.pair n

  -- a slot that is live now is no slot of the pair
  alive : (r : ℕ) → 2 ≤ address_at rest r → r / 2 ≢ k
  alive r live here = let z = gone_low pairs k r within here in omega arith

  -- and a keeps its slot
  s_apart : s / 2 ≢ k
  s_apart here = let low = bare.low in let is = bare.address in let left = was_left in let right = was_right in ⊎_elim
      (λ even.
      let e : s ≡ 2 * k = omega arith in
      let z : address_at pairs s ≡ address_at pairs (2 * k) = ap (address_at pairs) e in
      omega arith)
      (λ odd.
      let e : s ≡ 2 * k + 1 = omega arith in
      let z : address_at pairs s ≡ address_at pairs (2 * k + 1) = ap (address_at pairs) e in
      omega arith) (cases_lt (s % 2) 1)

  s_at : address_at rest s ≡ a
  s_at = address-old pairs k 0 s s_apart ∙ bare.address

  -- an edge of the rest that is no leg of a had the same owner
  before : (r e : ℕ) → 2 ≤ address_at rest r → owner (has_children rest) e ≡ address_at rest r → e / 2 ≢ a →
      owner (has_children pairs) e ≡ address_at pairs r
  before r e live own apart =
      owner-same (has_children pairs) (has_children rest) e (sym (kept (e / 2) apart)) ∙ own
      ∙ address-old pairs k 0 r (alive r live)

  -- and a's own node changes none of their links
  still : (r e : ℕ) → 2 ≤ address_at rest r → owner (has_children rest) e ≡ address_at rest r → e / 2 ≢ a →
      edge_link (node_at n3 r) (address_at rest r) e ≡ edge_link (node_at n2 r) (address_at pairs r) e
  still r e live own apart =
      let low = bare.low in
      let is = bare.address in
      let at = address-old pairs k 0 r (alive r live) in
      elim (cases_eq r s) [
        | inl same ↦
            let r_at : address_at rest r ≡ a = ap (address_at rest) same ∙ s_at in
            let base : e ≡ a = elim (owner_cases (has_children rest) e) [
              | inl v ↦ let o = v.1 in omega arith
              | inr v ↦ absurd (apart (let o = v.1 in omega arith))
            ] in
            edge-base (node_at n3 r) (address_at rest r) e (omega arith) ∙ ap (λ t. (node_at n3 t).base) same
            ∙ ap (λ t. t.base) again.own ∙ ap (λ t. (node_at n2 t).base) (sym same)
            ∙ sym (edge-base (node_at n2 r) (address_at pairs r) e (omega arith))
        | inr other ↦ ap (λ t. edge_link t (address_at rest r) e) (again.others r other)
            ∙ ap (λ t. edge_link (node_at n2 r) t e) at
      ]

  -- an edge across a leg of a links to a
  turned : (r e : ℕ) → 2 ≤ address_at rest r → owner (has_children rest) e ≡ address_at rest r →
      1 ≤ mate_of e → mate_of e / 2 ≡ a →
      edge_link (node_at n3 r) (address_at rest r) e ≡ s
  turned r e live own some turn =
      let low = bare.low in
      let keep : address_at rest r ≡ address_at pairs r = address-old pairs k 0 r (alive r live) in
      let e_low : 2 ≤ e = elim (owner_cases (has_children rest) e) [
        | inl v ↦ let o = v.1 in omega arith
        | inr v ↦ let o = v.1 in
            omega arith
      ] in
      let e_four : 4 ≤ e =
      ⊎_elim (λ top. absurd (let z = mate_of-root e e_low top in omega arith)) (λ deep. deep) (cases_lt e 4) in
      let apart : e / 2 ≢ a = λ w. no_sibling e e_four some (turn ∙ sym w) in
      let own_old = before r e live own apart in
      still r e live own apart ∙ ⊎_elim
      (λ even.
      let z : mate_of e ≡ 2 * a = omega arith in
      r2.others r e (omega arith) own_old (λ w. omega arith) ∙ r1.there r e (omega arith) own_old z)
      (λ odd. let z : mate_of e ≡ 2 * a + 1 = omega arith in r2.there r e (omega arith) own_old z)
      (cases_lt (mate_of e % 2) 1)

  -- and every other edge links to where it did
  same : (r e : ℕ) → 2 ≤ address_at rest r → owner (has_children rest) e ≡ address_at rest r →
      e / 2 ≢ a → mate_of e / 2 ≢ a →
      edge_link (node_at n3 r) (address_at rest r) e ≡ edge_link (node_at n0 r) (address_at pairs r) e
  same r e live own apart away =
      let keep : address_at rest r ≡ address_at pairs r = address-old pairs k 0 r (alive r live) in
      let own_old = before r e live own apart in
      still r e live own apart ∙ r2.others r e (omega arith) own_old (λ w. away (omega arith))
      ∙ r1.others r e (omega arith) own_old (λ w. away (omega arith))

  -- so the children of a are joined
  pub joining : IsJoining (net_of pairs n0) (net_of rest n3) s k a
  joining =
      let low = bare.low in
      let at = s_at in
      record {
        address = bare.address;
        low = low;
        whole_left = bare.whole_left;
        whole_right = bare.whole_right;
        was_split = has_children_by pairs k a (omega arith) bare.pair;
        left = was_left;
        right = was_right;
        gone = λ r here. gone_low pairs k r within here;
        old = λ r apart. address-old pairs k 0 r apart;
        removed = has_children-removed pairs k a within bare.pair (omega arith)
            (λ i e. pair_once pairs i k a h low e bare.pair);
        kept = kept;
        left_leg = edge-left (node_at n3 s) (address_at rest s) (2 * a) (λ w. omega arith) (omega arith)
            ∙ ap (λ t. t.left) again.own
            ∙ sym (edge-base (node_at n0 (2 * k)) (address_at pairs (2 * k)) (2 * a) (sym was_left));
        right_leg = edge-right (node_at n3 s) (address_at rest s) (2 * a + 1) (λ w. omega arith) (omega arith)
            ∙ ap (λ t. t.right) again.own
            ∙ sym (edge-base (node_at n0 (2 * k + 1)) (address_at pairs (2 * k + 1)) (2 * a + 1) (sym was_right));
        turned = turned;
        same = same;
      }

-- A forest in which two leaves of one triangle were taken away is a forest.
pub forest_joined : (pairs parents : List ℕ) (n0 n1 n2 n3 : List Node) (s k a : ℕ) →
    IsForest pairs parents n0 → MayJoin pairs s k a →
    IsRelinked pairs n0 n1 (2 * a) s → IsRelinked pairs n1 n2 (2 * a + 1) s →
    IsLeafAgain n2 n3 s (node_at n0 (2 * k)).base (node_at n0 (2 * k + 1)).base → length n3 ≡ length n0 →
    IsForest (set pairs k 0) parents n3
forest_joined pairs parents n0 n1 n2 n3 s k a f bare r1 r2 again same_count =
    let low = bare.low in
    let h : ArePairs pairs = f.sound in
    let within = pair_within pairs s k a bare in
    let made : IsJoining (net_of pairs n0) (net_of (set pairs k 0) n3) s k a =
    joining pairs n0 n1 n2 n3 s k a h bare r1 r2 again in
    let tree : IsTree (net_of (set pairs k 0) n3) =
    IsTree-joining (net_of pairs n0) (net_of (set pairs k 0) n3) s k a (tree_of pairs n0 h)
    made in
    let count : length (set pairs k 0) ≡ length pairs = length-set pairs k 0 in
    let parent_count = f.parent_count in let node_count = f.node_count in let short = h.short in
    let alive : (r : ℕ) → 2 ≤ address_at (set pairs k 0) r → r / 2 ≢ k =
    λ r live here. let z = gone_low pairs k r within here in
    omega arith in
    record {
      sound = record {
        tree = record { root = tree.root; parent = tree.parent; live = tree.live; once = tree.once };
        small = λ i. elim (cases_eq i k) [
          | inl e ↦ let z : get_or (set pairs k 0) i 0 ≡ 0 =
              ap (λ t. get_or (set pairs k 0) t 0) e ∙ get_or-set_same pairs k 0 0 within in
              omega arith
          | inr n ↦ let z = get_or-set_other pairs k i 0 0 n in let y = h.small i in omega arith
        ];
        short = omega arith;
      };
      parent_count = omega arith;
      node_count = omega arith;
      linked = IsLinked-joining (net_of pairs n0) (net_of (set pairs k 0) n3) s k a (tree_of pairs n0 h) made f.linked;
      children = λ r live.
          let keep : address_at (set pairs k 0) r ≡ address_at pairs r = address-old pairs k 0 r (alive r live) in
          elim (cases_eq r s) [
            | inl same ↦ inl (
              ap (λ t. (node_at n3 t).children) same ∙ ap (λ t. t.children) again.own,
              ap (has_children (set pairs k 0))
                  (keep ∙ ap (address_at pairs) same ∙ bare.address) ∙ made.removed,
            )
            | inr other ↦
                let kept : (node_at n3 r).children ≡ (node_at n0 r).children =
                ap (λ t. t.children) (again.others r other) ∙ r2.children r
                ∙ r1.children r in
                let at_apart : address_at pairs r ≢ a =
                λ w. other (h.tree.once r s (omega arith) (w ∙ sym bare.address)) in
                let was : AreChildrenAt pairs (address_at pairs r) (node_at n0 r).children =
                f.children r (omega arith) in
                ⊎_elim
                (λ none. inl (
                  kept ∙ none.0,
                  ap (has_children (set pairs k 0)) keep ∙ made.kept (address_at pairs r) at_apart ∙ none.1,
                ))
                (λ some. inr (
                  (λ w. some.0 (sym kept ∙ w)),
                  ap (λ t. get_or (set pairs k 0) t 0) kept
                      ∙ get_or-set_other pairs k (node_at n0 r).children 0 0
                      (λ w. at_apart (sym some.1 ∙ ap (λ t. get_or pairs t 0) w ∙ bare.pair)) ∙ some.1 ∙ sym keep,
                )) was
          ];
      upward = λ i given. elim (cases_eq i k) [
        | inl here ↦ absurd (let z : get_or (set pairs k 0) i 0 ≡ 0 = ap (λ t. get_or (set pairs k 0) t 0) here
            ∙ get_or-set_same pairs k 0 0 within in omega arith)
        | inr apart ↦
            let top : get_or (set pairs k 0) i 0 ≡ get_or pairs i 0 = get_or-set_other pairs k i 0 0 apart in
            let old : address_at pairs (get_or parents i 0) ≡ get_or pairs i 0 = f.upward i (omega arith) in
            let parent_open : has_children pairs (get_or pairs i 0) ≡ true = has_children_by pairs i (get_or pairs i 0)
            (omega arith) refl in
            let away : get_or parents i 0 / 2 ≢ k = λ here.
            let pair_is : get_or pairs (get_or parents i 0 / 2) 0 ≡ a = ap (λ t. get_or pairs t 0) here ∙ bare.pair in
            ⊎_elim
            (λ even. let z : get_or pairs i 0 ≡ 2 * a = omega arith in
            true≢false (sym parent_open ∙ ap (has_children pairs) z ∙ bare.whole_left))
            (λ odd. let z : get_or pairs i 0 ≡ 2 * a + 1 = omega arith in
            true≢false (sym parent_open ∙ ap (has_children pairs) z ∙ bare.whole_right))
            (cases_lt (get_or parents i 0 % 2) 1) in
            address-old pairs k 0 (get_or parents i 0) away ∙ old ∙ sym top
      ];
    }

-- ---- merging

-- in a closed set, a triangle that may be merged may be joined: its address is below 2 ^ 29
pub bare_of : (n : ℕ) (pairs : List ℕ) (s k a : ℕ) → n ≤ 14 → IsClosed n (split_set pairs) →
    MayMerge pairs s k a → MayJoin pairs s k a
bare_of n pairs s k a high closed h =
    let low = h.low in
    let member : split_set pairs a ≡ true =
    has_children-set pairs a h.low (has_children_by pairs k a (omega arith) h.pair) in
    let coarse = (closed.splittable a member).coarse in
    record {
      address = h.address;
      low = h.low;
      high = (level_of-below a 28 h.low).0 (omega arith);
      pair = h.pair;
      whole_left =
          h.whole_left;
      whole_right = h.whole_right;
    }

-- the link of a child's base
pub base_across_child : (n : ℕ) (pairs parents : List ℕ) (nodes : List Node) (r e : ℕ) → IsForest pairs parents nodes →
    IsClosed n (split_set pairs) → 2 ≤ e →
    address_at pairs r ≡ e → IsAcross pairs e (node_at nodes r).base
base_across_child n pairs parents nodes r e forest closed low at =
    let live : has_children pairs (e / 2) ≡ true =
    ap (λ t. has_children pairs (t / 2)) (sym at) ∙ forest.sound.tree.live r (omega arith) in
    subst (λ t. IsAcross pairs e t) (edge-base (node_at nodes r) (address_at pairs r) e (sym at))
    (read_link (net_of pairs nodes) r e (whole_of n pairs parents nodes forest closed) forest.linked (omega arith)
    (owner-split (has_children pairs) e live ∙ sym at))

-- the base of a's left child is linked to the leaf across it, or on the border to nowhere
pub left_child : (n : ℕ) (pairs parents : List ℕ) (nodes : List Node) (s k a : ℕ) → IsForest pairs parents nodes →
    IsClosed n (split_set pairs) → MayMerge pairs s k a →
    IsAcross pairs (2 * a) (node_at nodes (2 * k)).base
left_child n pairs parents nodes s k a forest closed h =
    let low = h.low in
    let half : (2 * k) / 2 ≡ k = omega arith in
    base_across_child n pairs parents nodes (2 * k) (2 * a) forest closed (omega arith)
    (let z : get_or pairs ((2 * k) / 2) 0 ≡ a = ap (λ t. get_or pairs t 0) half ∙ h.pair in omega arith)

-- the same of a's right child
pub right_child : (n : ℕ) (pairs parents : List ℕ) (nodes : List Node) (s k a : ℕ) → IsForest pairs parents nodes →
    IsClosed n (split_set pairs) → MayMerge pairs s k a →
    IsAcross pairs (2 * a + 1) (node_at nodes (2 * k + 1)).base
right_child n pairs parents nodes s k a forest closed h =
    let low = h.low in
    base_across_child n pairs parents nodes (2 * k + 1) (2 * a + 1) forest closed (omega arith)
    (child_at pairs k a 1 (omega arith) h.pair)

-- a closed set is closed without a and b if no child of these is a member and neither has a mate but the other
pub closed_less : (n : ℕ) (has less : ℕ → Bool) (a b : ℕ) → IsClosed n has → less a ≡ false → less b ≡ false →
    ((p : ℕ) → p ≢ a → p ≢ b → less p ≡ has p) →
    ((p : ℕ) → has p ≡ true → (p / 2 ≢ a) × (p / 2 ≢ b)) → ((p : ℕ) → IsSplittable n p → IsMate n p a → p ≡ b) →
    ((p : ℕ) → IsSplittable n p → IsMate n p b → p ≡ a) → IsClosed n less
closed_less n has less a b closed no_a no_b same childless mate_a mate_b =
    let apart : (p : ℕ) → less p ≡ true → (p ≢ a)
    × (p ≢ b) = λ p h. ((λ e. true≢false (sym h ∙ ap less e ∙ no_a)), (λ e. true≢false (sym h ∙ ap less e ∙ no_b))) in
    let old : (p : ℕ) → less p ≡ true → has p ≡ true = λ p h. let n_p = apart p h in sym (same p n_p.0 n_p.1) ∙ h in
    record {
      splittable = λ p h. closed.splittable p (old p h);
      parent = λ p h deep. let c = childless p (old p h) in same (p / 2) c.0 c.1 ∙ closed.parent p (old p h) deep;
      mate = λ p q h m. let n_p = apart p h in
          same q (λ e. n_p.1 (mate_a p (closed.splittable p (old p h)) (subst (IsMate n p) e m)))
          (λ e. n_p.0 (mate_b p (closed.splittable p (old p h)) (subst (IsMate n p) e m)))
          ∙ closed.mate p q (old p h) m;
    }

no_children : (pairs : List ℕ) (s k a p : ℕ) → MayMerge pairs s k a → split_set pairs p ≡ true → p / 2 ≢ a
no_children pairs s k a p h member half = ⊎_elim
    (λ even.
    let z : p ≡ 2 * a = omega arith in
    true≢false (sym (set-has_children pairs p member) ∙ ap (has_children pairs) z
    ∙ h.whole_left))
    (λ odd.
    let z : p ≡ 2 * a + 1 = omega arith in
    true≢false (sym (set-has_children pairs p member) ∙ ap (has_children pairs) z
    ∙ h.whole_right)) (cases_lt (p % 2) 1)

mate_back : (n p a : ℕ) → 2 ≤ a → IsSplittable n p → IsMate n p a → mate_of a ≡ p
mate_back n p a low split m =
    let is : mate_of p ≡ a = mate_of-IsMate n p a split.low (let c = split.coarse in omega arith) m in
    ap mate_of (sym is) ∙ mate_of-back p split.low (omega arith)

-- at the border
pub closed_alone : (n : ℕ) (pairs parents : List ℕ) (nodes : List Node) (s k a : ℕ) → IsForest pairs parents nodes →
    IsClosed n (split_set pairs) → MayMerge pairs s k a → mate_of a ≡ 0 →
    IsClosed n (split_set (set pairs k 0))
closed_alone n pairs parents nodes s k a forest closed h none =
    let low = h.low in
    let within : k < length pairs = pair_in pairs k a low h.pair in
    let no : split_set (set pairs k 0) a ≡ false = set_false (set pairs k 0) a
    (has_children-removed pairs k a within h.pair (omega arith)
    (λ i e. pair_once pairs i k a forest.sound low e h.pair)) in
    let lone : (p : ℕ) → IsSplittable n p → IsMate n p a → p ≡ a = λ p split m. let z = mate_back n p a low split m in
    let p_low = split.low in absurd (omega arith) in
    closed_less n (split_set pairs) (split_set (set pairs k 0)) a a closed no no
    (λ p x y. set_kept pairs k a p within h.pair x)
    (λ p member. (no_children pairs s k a p h member, no_children pairs s k a p h member)) lone lone

-- a diamond
pub closed_both : (n : ℕ) (pairs parents : List ℕ) (nodes : List Node) (s t k j a : ℕ) → IsForest pairs parents nodes →
    IsClosed n (split_set pairs) → MayMerge pairs s k a → 1 ≤ mate_of a →
    MayMerge pairs t j (mate_of a) → IsClosed n (split_set (set (set pairs k 0) j 0))
closed_both n pairs parents nodes s t k j a forest closed h some g =
    let low = h.low in let b = g.low in
    let other = mate_of-other a low some in
    let back : mate_of (mate_of a) ≡ a = mate_of-back a low some in
    let within : k < length pairs = pair_in pairs k a low h.pair in
    let count : length (set pairs k 0) ≡ length pairs = length-set pairs k 0 in
    let apart : j ≢ k = λ e. other (sym g.pair ∙ ap (λ t. get_or pairs t 0) e ∙ h.pair) in
    let pair_j : get_or (set pairs k 0) j 0 ≡ mate_of a = get_or-set_other pairs k j 0 0 apart ∙ g.pair in
    let within_j : j < length (set pairs k 0) = pair_in (set pairs k 0) j (mate_of a) b pair_j in
    let no_a : split_set (set (set pairs k 0) j 0) a ≡ false =
    set_kept (set pairs k 0) j (mate_of a) a within_j pair_j (λ e. other (sym e))
    ∙ set_false (set pairs k 0) a (has_children-removed pairs k a within h.pair (omega arith)
    (λ i e. pair_once pairs i k a forest.sound low e h.pair)) in
    let once_j : (i : ℕ) → get_or (set pairs k 0) i 0 ≡ mate_of a → i ≡ j = λ i e. elim (cases_eq i k) [
      | inl same ↦ absurd (let z : get_or (set pairs k 0) i 0 ≡ 0 = ap (λ t. get_or (set pairs k 0) t 0) same
          ∙ get_or-set_same pairs k 0 0 within in omega arith)
      | inr n ↦ pair_once pairs i j (mate_of a) forest.sound b (sym (get_or-set_other pairs k i 0 0 n) ∙ e) g.pair
    ] in
    let no_b : split_set (set (set pairs k 0) j 0) (mate_of a) ≡ false = set_false (set (set pairs k 0) j 0) (mate_of a)
    (has_children-removed (set pairs k 0) j (mate_of a) within_j pair_j (omega arith) once_j) in
    closed_less n (split_set pairs) (split_set (set (set pairs k 0) j 0)) a (mate_of a) closed no_a no_b
    (λ p x y. set_kept (set pairs k 0) j (mate_of a) p within_j pair_j y ∙ set_kept pairs k a p within h.pair x)
    (λ p member. (no_children pairs s k a p h member, no_children pairs t j (mate_of a) p g member))
    (λ p split m. sym (mate_back n p a low split m)) (λ p split m. sym (mate_back n p (mate_of a) b split m) ∙ back)

-- the second half, where a's children are gone
pub may_merge_second : (pairs : List ℕ) (s t k j a : ℕ) → ArePairs pairs → MayMerge pairs s k a → 1 ≤ mate_of a →
    MayMerge pairs t j (mate_of a) → MayMerge (set pairs k 0) t j (mate_of a)
may_merge_second pairs s t k j a sound h some g =
    let low = h.low in let b = g.low in
    let other = mate_of-other a low some in
    let within : k < length pairs = pair_in pairs k a low h.pair in
    let no_child_of = mate_of-no_child a low some in
    let at = g.address in
    let t_apart : t / 2 ≢ k = λ here.
    let z : get_or pairs (t / 2) 0 ≡ a = ap (λ x. get_or pairs x 0) here ∙ h.pair in
    let up : level_of (mate_of a) ≡ level_of (mate_of a / 2) + 1 = level_of-parent (mate_of a) (omega arith) in
    let same : level_of (mate_of a) ≡ level_of a = mate_of-level a low some in
    let half : mate_of a / 2 ≡ a = omega arith in
    let y : level_of (mate_of a / 2) ≡ level_of a = ap level_of half in absurd (omega arith) in
    record {
      address = address-old pairs k 0 t t_apart ∙ g.address;
      low = b;
      pair = get_or-set_other pairs k j 0 0 (λ e. other (sym g.pair ∙ ap (λ x. get_or pairs x 0) e ∙ h.pair)) ∙ g.pair;
      whole_left = has_children-left pairs k a (2 * mate_of a) within h.pair no_child_of.0 ∙ g.whole_left;
      whole_right = has_children-left pairs k a (2 * mate_of a + 1) within h.pair no_child_of.1 ∙ g.whole_right;
    }

-- once a's children are gone, the base of each child of its mate is still linked to the leaf across, or to nowhere
pub leg_less : (n : ℕ) (pairs parents less_parents : List ℕ) (nodes less : List Node) (s t k j a side : ℕ) → side < 2 →
    IsForest pairs parents nodes → IsClosed n (split_set pairs) → MayMerge pairs s k a →
    1 ≤ mate_of a → MayMerge pairs t j (mate_of a) → IsForest (set pairs k 0) less_parents less →
    IsAcross (set pairs k 0) (2 * mate_of a + side) (node_at less (2 * j + side)).base
leg_less n pairs parents less_parents nodes less s t k j a side small forest closed h some g f =
    let low = h.low in let b = g.low in
    let second : MayMerge (set pairs k 0) t j (mate_of a) = may_merge_second pairs s t k j a forest.sound h some g in
    let within : k < length pairs = pair_in pairs k a low h.pair in
    let at : address_at pairs (2 * j + side) ≡ 2 * mate_of a + side = child_at pairs j (mate_of a) side small g.pair in
    let less_at : address_at (set pairs k 0) (2 * j + side) ≡ 2 * mate_of a + side =
    child_at (set pairs k 0) j (mate_of a) side small
    second.pair in
    let half : (2 * mate_of a + side) / 2 ≡ mate_of a = omega arith in
    let up : has_children pairs ((2 * mate_of a + side) / 2) ≡ true = ap (has_children pairs) half
    ∙ has_children_by pairs j (mate_of a) (omega arith) g.pair in
    let less_up : has_children (set pairs k 0) ((2 * mate_of a + side) / 2) ≡ true =
    ap (has_children (set pairs k 0)) half
    ∙ has_children_by (set pairs k 0) j (mate_of a) (omega arith) second.pair in
    subst (λ x. IsAcross (set pairs k 0) (2 * mate_of a + side) x)
    (edge-base (node_at less (2 * j + side)) (address_at (set pairs k 0) (2 * j + side))
    (2 * mate_of a + side) (sym less_at))
    (read_less (net_of pairs nodes) (net_of (set pairs k 0) less) (2 * j + side) (2 * mate_of a + side) a
    (whole_of n pairs parents nodes forest closed) f.linked f.sound.tree.root
    (λ c c_low c_up. slot_of (set pairs k 0) c c_low c_up) (λ p x. has_children-left pairs k a p within h.pair x)
    (has_children_by pairs k a (omega arith) h.pair) low some half
    (omega arith) (owner-split (has_children pairs) (2 * mate_of a + side) up ∙ sym at) (omega arith)
    (owner-split (has_children (set pairs k 0)) (2 * mate_of a + side) less_up ∙ sym less_at))

-- once a's children are gone, its mate may be joined
pub bare_second : (n : ℕ) (pairs : List ℕ) (s t k j a : ℕ) → n ≤ 14 → IsClosed n (split_set pairs) → ArePairs pairs →
    MayMerge pairs s k a → 1 ≤ mate_of a → MayMerge pairs t j (mate_of a) →
    MayJoin (set pairs k 0) t j (mate_of a)
bare_second n pairs s t k j a high closed sound h some g =
    let second = may_merge_second pairs s t k j a sound h some g in
    let first : MayJoin pairs t j (mate_of a) = bare_of n pairs t j (mate_of a) high closed g in
    record {
      address = second.address;
      low = second.low;
      high = first.high;
      pair = second.pair;
      whole_left = second.whole_left;
      whole_right = second.whole_right;
    }
