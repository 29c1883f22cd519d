-- Changing one link.
use Rattle.std.proofs.Common.{◌≡◌, ◌≢◌, ap, sym, ◌∙◌, ◌⊎◌, Bool, true, false, nat_eq, ℕ, ◌+◌, ◌/◌, ◌%◌, ◌<◌, ◌≤◌, refl}
use Rattle.std.proofs.Common.{arith, inl, inr, ⊎_elim, List, length, get_or, set, get_or-set_other, get_or-set_same}
use Rattle.std.proofs.lemmas.Bool.{cases_eq, cases_lt, eq-eqb, ne_eqb}
use Rattle.std.proofs.lemmas.List.{get_or_past}
use Rattle.mesh_defs.specs.Triangle.{level_of}
use Rattle.bintree_laws.proofs.LevelLemmas.{level_of-parent}
use Rattle.mesh_laws.specs.Edge.{mate_of, owner}
use Rattle.mesh_laws.specs.Net.{nowhere}
use Rattle.mesh_laws.proofs.MateLemmas.{mate_of-back, mate_of-low, mate_of-level, mate_of-parity, mate_of-root}
use Rattle.mesh_laws.proofs.OwnerLemmas.{owner_cases, owner-low}
use Rattle.triangle_pool.specs.declared.forest.Node.{Node}
use Rattle.mesh_laws.specs.Slots.{address_at, has_children, IsLive}
use Rattle.triangle_pool.specs.Links.{blank_node, node_at, edge_link, with_link, ArePairs, IsAcross, IsRelinked}

-- ---- edges of a node

-- the link across the edge a of the triangle a is that of the base
pub edge-base : (node : Node) (a e : ℕ) → e ≡ a → edge_link node a e ≡ node.base
edge-base node a e h = rw (eq-eqb e a h, edge_link) refl

-- across another edge that is even, it is that of the left leg
pub edge-left : (node : Node) (a e : ℕ) → e ≢ a → e % 2 ≡ 0 → edge_link node a e ≡ node.left
edge-left node a e h k = rw (ne_eqb e a h, eq-eqb (e % 2) 0 k, edge_link) refl

-- and across another that is odd, that of the right leg
pub edge-right : (node : Node) (a e : ℕ) → e ≢ a → e % 2 ≡ 1 → edge_link node a e ≡ node.right
edge-right node a e h k = rw (ne_eqb e a h, ne_eqb (e % 2) 0 (λ z. omega arith), edge_link) refl

-- ---- slots

-- an edge of a live triangle is at least 2
pub edge_low : (pairs : List ℕ) (r e : ℕ) → IsLive pairs r → owner (has_children pairs) e ≡ address_at pairs r → 2 ≤ e
edge_low pairs r e live own =
    elim (owner_cases (has_children pairs) e) [
      | inl v ↦ let o = v.1 in omega arith
      | inr v ↦ let o = v.1 in omega arith
    ]

-- what is linked across f is nowhere or a live slot, which has the leaf across
pub across_live : (pairs : List ℕ) (f x : ℕ) → ArePairs pairs → 4 ≤ f → IsAcross pairs f x → x ≢ nowhere →
    IsLive pairs x × (1 ≤ mate_of f) × (address_at pairs x ≡ owner (has_children pairs) (mate_of f))
across_live pairs f x h low is some = ⊎_elim (λ v. absurd (some v.1))
    (λ v. let two = mate_of-low f (omega arith) v.0 in
    let o = owner-low (has_children pairs) (mate_of f) h.tree.root two in let at = v.1 in (omega arith, v.0, v.1)) is

-- where no leaf lies across f, the edge is relinked with no change
pub relinked_nowhere : (pairs : List ℕ) (nodes : List Node) (f to : ℕ) → ArePairs pairs → 4 ≤ f →
    IsAcross pairs f nowhere →
    IsRelinked pairs nodes nodes f to
relinked_nowhere pairs nodes f to h low is =
    let none : mate_of f ≡ 0 = ⊎_elim (λ v. v.0)
    (λ v. let two = mate_of-low f (omega arith) v.0 in
    let o = owner-low (has_children pairs) (mate_of f) h.tree.root two in
    let short = h.short in
    let z : get_or pairs 2147483647 0 ≡ 0 = get_or_past pairs 2147483647 0 (omega arith) in
    let at = v.1 in absurd (omega arith)) is in
    record {
      there = λ r e live own same.
          let e_low = edge_low pairs r e live own in
          let back : mate_of (mate_of e) ≡ e = mate_of-back e e_low (omega arith) in
          absurd (let g : mate_of (mate_of e) ≡ mate_of f = ap mate_of same in omega arith);
      others = λ r e live own apart. refl;
      free = λ r none. refl;
      children = λ r. refl;
    }

turned_there : (node : Node) (c g f to : ℕ) (finer even : Bool) → finer ≡ nat_eq (level_of c) (level_of f) →
    even ≡ nat_eq (f % 2) 0 →
    level_of g ≡ level_of f → g % 2 + f % 2 ≡ 1 → 4 ≤ g → (g ≡ c) ⊎ (g / 2 ≡ c) →
    edge_link (with_link node finer even to) c g ≡ to
turned_there node c g f to finer even fine par same parity low which = ⊎_elim
    (λ base. let y : finer ≡ true = fine ∙ eq-eqb (level_of c) (level_of f) (ap level_of (sym base) ∙ same) in
    rw y (edge-base (with_link node true even to) c g base))
    (λ leg. let up : level_of g ≡ level_of (g / 2) + 1 = level_of-parent g low in
    let z : level_of (g / 2) ≡ level_of c = ap level_of leg in
    let y : finer ≡ false = fine ∙ ne_eqb (level_of c) (level_of f) (λ w. omega arith) in
    ⊎_elim (λ odd. let x : even ≡ true = par ∙ eq-eqb (f % 2) 0 (omega arith) in
    rw (y, x) (edge-right (with_link node false true to) c g (λ w. omega arith) (omega arith)))
    (λ ev. let x : even ≡ false = par ∙ ne_eqb (f % 2) 0 (λ w. omega arith) in
    rw (y, x) (edge-left (with_link node false false to) c g (λ w. omega arith) (omega arith)))
    (cases_lt (f % 2) 1)) which

turned_others : (node : Node) (c g e f to : ℕ) (finer even : Bool) → finer ≡ nat_eq (level_of c) (level_of f) →
    even ≡ nat_eq (f % 2) 0 →
    level_of g ≡ level_of f → g % 2 + f % 2 ≡ 1 → 4 ≤ g → 2 ≤ c → (g ≡ c) ⊎ (g / 2 ≡ c) →
    (e ≡ c) ⊎ (e / 2 ≡ c) → e ≢ g →
    edge_link (with_link node finer even to) c e ≡ edge_link node c e
turned_others node c g e f to finer even fine par same parity low live which of apart = ⊎_elim
    (λ base. let y : finer ≡ true = fine ∙ eq-eqb (level_of c) (level_of f) (ap level_of (sym base) ∙ same) in
    let other : e ≢ c = λ w. apart (w ∙ sym base) in
    ⊎_elim (λ ev. rw y (edge-left (with_link node true even to) c e other (omega arith)
    ∙ sym (edge-left node c e other (omega arith))))
    (λ odd. rw y (edge-right (with_link node true even to) c e other (omega arith)
    ∙ sym (edge-right node c e other (omega arith))))
    (cases_lt (e % 2) 1))
    (λ leg. let up : level_of g ≡ level_of (g / 2) + 1 = level_of-parent g low in
    let z : level_of (g / 2) ≡ level_of c = ap level_of leg in
    let y : finer ≡ false = fine ∙ ne_eqb (level_of c) (level_of f) (λ w. omega arith) in
    ⊎_elim (λ odd. let x : even ≡ true = par ∙ eq-eqb (f % 2) 0 (omega arith) in
    ⊎_elim (λ b. rw (y, x) (edge-base (with_link node false true to) c e b ∙ sym (edge-base node c e b)))
    (λ l. let n : e ≢ c = λ w. omega arith in
    rw (y, x) (edge-left (with_link node false true to) c e n (omega arith)
    ∙ sym (edge-left node c e n (omega arith)))) of)
    (λ ev. let x : even ≡ false = par ∙ ne_eqb (f % 2) 0 (λ w. omega arith) in
    ⊎_elim (λ b. rw (y, x) (edge-base (with_link node false false to) c e b ∙ sym (edge-base node c e b)))
    (λ l. let n : e ≢ c = λ w. omega arith in
    rw (y, x) (edge-right (with_link node false false to) c e n (omega arith)
    ∙ sym (edge-right node c e n (omega arith)))) of)
    (cases_lt (f % 2) 1)) which

with_link-children : (node : Node) (finer even : Bool) (to : ℕ) →
    (with_link node finer even to).children ≡ node.children
with_link-children node true even to = refl
with_link-children node false true to = refl
with_link-children node false false to = refl

-- an edge is the base or a leg of the triangle that owns it
pub owned : (pairs : List ℕ) (e c : ℕ) → owner (has_children pairs) e ≡ c → (e ≡ c) ⊎ (e / 2 ≡ c)
owned pairs e c own =
    elim (owner_cases (has_children pairs) e) [
      | inl v ↦ let o = v.1 in inl (omega arith)
      | inr v ↦ let o = v.1 in inr (omega arith)
    ]

-- one link set in the node of the leaf across f, its base's if that leaf is as fine as f, else a leg's, relinks f
pub relinked_turn : (pairs : List ℕ) (nodes after : List Node) (x f to : ℕ) (finer even : Bool) → ArePairs pairs →
    4 ≤ f → IsAcross pairs f x → x ≢ nowhere →
    x < length nodes → finer ≡ nat_eq (level_of (address_at pairs x)) (level_of f) → even ≡ nat_eq (f % 2) 0 →
    after ≡ set nodes x (with_link (node_at nodes x) finer even to) → IsRelinked pairs nodes after f to
relinked_turn pairs nodes after x f to finer even h low is some within fine par is_set =
    let found = across_live pairs f x h low is some in
    let live = found.0 in let mate = found.1 in let at = found.2 in
    let back : mate_of (mate_of f) ≡ f = mate_of-back f (omega arith) mate in
    let g_low : 2 ≤ mate_of f = mate_of-low f (omega arith) mate in
    let same : level_of (mate_of f) ≡ level_of f = mate_of-level f (omega arith) mate in
    let parity : mate_of f % 2 + f % 2 ≡ 1 = mate_of-parity f (omega arith) mate in
    let g_four : 4 ≤ mate_of f = ⊎_elim (λ top. absurd (let z = mate_of-root (mate_of f) g_low top in omega arith))
    (λ deep. deep) (cases_lt (mate_of f) 4) in
    let here : node_at after x ≡ with_link (node_at nodes x) finer even to = ap (λ t. node_at t x) is_set
    ∙ get_or-set_same nodes x (with_link (node_at nodes x) finer even to) blank_node within in
    let away : (r : ℕ) → r ≢ x → node_at after r ≡ node_at nodes r = λ r n. ap (λ t. node_at t r) is_set
    ∙ get_or-set_other nodes x r (with_link (node_at nodes x) finer even to) blank_node n in
    record {
      there = λ r e r_live own is_f.
          let e_low = edge_low pairs r e r_live own in
          let e_is : e ≡ mate_of f = sym (mate_of-back e e_low (omega arith)) ∙ ap mate_of is_f in
          let same_at : address_at pairs r ≡ address_at pairs x =
          sym own ∙ ap (owner (has_children pairs)) e_is ∙ sym at in
          let same_slot : r ≡ x = h.tree.once r x r_live same_at in
          rw (same_slot, e_is, here) (turned_there (node_at nodes x) (address_at pairs x) (mate_of f) f to finer even
          fine par same parity g_four (owned pairs (mate_of f) (address_at pairs x) (sym at)));
      others = λ r e r_live own apart. elim (cases_eq r x) [
        | inl e_r ↦ rw (e_r, here) (turned_others (node_at nodes x) (address_at pairs x)
            (mate_of f) e f to finer even fine par same parity g_four live
            (owned pairs (mate_of f) (address_at pairs x) (sym at)) (owned pairs e (address_at pairs x)
            (own ∙ ap (address_at pairs) e_r)) (λ w. apart (ap mate_of w ∙ back)))
        | inr n ↦ ap (λ t. edge_link t (address_at pairs r) e) (away r n)
      ];
      free = λ r none. away r
          (λ w. let z : address_at pairs r ≡ address_at pairs x = ap (address_at pairs) w in omega arith);
      children = λ r. elim (cases_eq r x) [
        | inl e_r ↦ ap (λ t. (node_at after t).children) e_r ∙ ap (λ t. t.children) here
            ∙ with_link-children (node_at nodes x) finer even to ∙ ap (λ t. (node_at nodes t).children) (sym e_r)
        | inr n ↦ ap (λ t. t.children) (away r n)
      ];
    }
