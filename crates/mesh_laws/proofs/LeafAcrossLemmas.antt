-- The leaves of a closed set, their edges, and the leaf across each of them.
use Rattle.std.proofs.Common.{◌≡◌, ◌≢◌, ◌↔◌, ap, sym, ◌∙◌, ◌⊎◌, Bool, true, false, nat_lt, ℕ, ◌+◌, ◌*◌, ◌/◌, ◌%◌, ◌^◌}
use Rattle.std.proofs.Common.{◌≤◌, refl, arith, inl, inr, ⊎_elim, subst}
use Rattle.std.proofs.lemmas.Bool.{cases_lt, cases_Bool, ltb-true}
use Rattle.mesh_defs.specs.declared.point.Point.{Point}
use Rattle.mesh_defs.specs.Triangle.{level_of, corners_of, child, IsEdge, OnOneSide}
use Rattle.mesh_defs.specs.ClosedSet.{IsClosed}
use Rattle.bintree_laws.proofs.LevelLemmas.{level_of-root, level_of-parent}
use Rattle.bintree_laws.proofs.CornerLemmas.{corners_of-left, corners_of-right}
use Rattle.mesh_laws.specs.Edge.{mate_of, owner, with_square, IsEdgeOf}
use Rattle.mesh_laws.specs.LeafAcross.{IsLeafOf, IsLeafAcross, IsAcrossEdge}
use Rattle.mesh_laws.proofs.MateLemmas.{mate_of-back, mate_of-low, mate_of-level, mate_of-other, no_sibling}
use Rattle.mesh_laws.proofs.IsMateLemmas.{IsMate-mate_of}
use Rattle.mesh_laws.proofs.OwnerLemmas.{owner-split, owner-whole, owner_cases, owner-low, never, IsSplitSet}
use Rattle.mesh_laws.proofs.OwnerLemmas.{owner-live}
use Rattle.mesh_laws.proofs.EdgeLemmas.{reversed, same_ends, ends_across, only_across, ends_apart, border_ends}

-- ---- the set with the square

-- the square is split in each set
pub with_square-root : (has : ℕ → Bool) → with_square has 1 ≡ true
with_square-root has = refl

-- above the square the set is as it was
pub with_square-deep : (has : ℕ → Bool) (p : ℕ) → 2 ≤ p → with_square has p ≡ has p
with_square-deep has p low = elim (cases_Bool (nat_lt p 2)) [
  | inl h ↦ absurd (let less = ltb-true p 2 h in omega arith)
  | inr h ↦ rw h refl
]

with_square-same : (has : ℕ → Bool) (p : ℕ) (b : Bool) → 2 ≤ p → has p ≡ b → with_square has p ≡ b
with_square-same has p b low h = with_square-deep has p low ∙ h

-- a closed set and the square are a set of split triangles
pub IsSplitSet-closed : (n : ℕ) (has : ℕ → Bool) → IsClosed n has → IsSplitSet (with_square has)
IsSplitSet-closed n has closed = record {
  root = with_square-root has;
  parent = λ p low split. ⊎_elim
      (λ top. ap (with_square has) (let half : p / 2 ≡ 1 = omega arith in half) ∙ with_square-root has)
      (λ deep. with_square-same has (p / 2) true (omega arith)
      (closed.parent p (sym (with_square-deep has p low) ∙ split) deep))
      (cases_lt p 4);
  mate = λ p low split some.
      let member : has p ≡ true = sym (with_square-deep has p low) ∙ split in
      let coarse = (closed.splittable p member).coarse in
      with_square-same has (mate_of p) true (mate_of-low p low some)
      (closed.mate p (mate_of p) member (IsMate-mate_of n p low (omega arith) some));
}

-- ---- a leaf, and an edge of it

-- a leaf's parent is split
pub leaf-up : (has : ℕ → Bool) (a : ℕ) → IsLeafOf has a → with_square has (a / 2) ≡ true
leaf-up has a leaf = let low = leaf.low in ⊎_elim
    (λ top. ap (with_square has) (let half : a / 2 ≡ 1 = omega arith in half) ∙ with_square-root has)
    (λ deep. with_square-same has (a / 2) true (omega arith) (leaf.above deep)) (cases_lt a 4)

-- a leaf is not split
pub leaf-shut : (has : ℕ → Bool) (a : ℕ) → IsLeafOf has a → with_square has a ≡ false
leaf-shut has a leaf = with_square-same has a false leaf.low leaf.whole

-- what has a split parent and is not split is a leaf
pub IsLeafOf-shut : (has : ℕ → Bool) (a : ℕ) → 2 ≤ a → with_square has (a / 2) ≡ true →
    with_square has a ≡ false → IsLeafOf has a
IsLeafOf-shut has a low up shut = record {
  low = low;
  above = λ deep. sym (with_square-deep has (a / 2) (omega arith)) ∙ up;
  whole = sym (with_square-deep has a low) ∙ shut;
}

-- a leaf is a triangle of the grid
pub leaf-level : (n : ℕ) (has : ℕ → Bool) (a : ℕ) → IsClosed n has → IsLeafOf has a → level_of a ≤ 2 * n
leaf-level n has a closed leaf = let low = leaf.low in ⊎_elim
    (λ top. let z = level_of-root a low top in omega arith)
    (λ deep.
    let coarse = (closed.splittable (a / 2) (leaf.above deep)).coarse in
    let z = level_of-parent a deep in omega arith) (cases_lt a 4)

-- an edge's name is no less than that of its triangle
pub edge-low : (a e : ℕ) → 2 ≤ a → IsEdgeOf a e → 2 ≤ e
edge-low a e low edge = ⊎_elim (λ v. omega arith) (λ v. omega arith) edge

-- a leaf owns its edges
pub edge-owner : (has : ℕ → Bool) (a e : ℕ) → IsLeafOf has a → IsEdgeOf a e → owner (with_square has) e ≡ a
edge-owner has a e leaf edge = ⊎_elim
    (λ v. owner-split (with_square has) e (ap (λ t. with_square has (t / 2)) v ∙ leaf-up has a leaf) ∙ v)
    (λ v. owner-whole (with_square has) e (ap (with_square has) v ∙ leaf-shut has a leaf) ∙ v) edge

-- an owner has the edge
pub IsEdgeOf-owner : (split : ℕ → Bool) (e : ℕ) → IsEdgeOf (owner split e) e
IsEdgeOf-owner split e = ⊎_elim (λ v. inl (sym v.1)) (λ v. inr (sym v.1)) (owner_cases split e)

-- an edge is at most one level below its triangle
pub edge-level : (n : ℕ) (has : ℕ → Bool) (a e : ℕ) → IsClosed n has → IsLeafOf has a →
    IsEdgeOf a e → level_of e ≤ 2 * n + 1
edge-level n has a e closed leaf edge =
    let level = leaf-level n has a closed leaf in
    let low = leaf.low in
    ⊎_elim (λ v. let z : level_of e ≡ level_of a = ap level_of v in omega arith)
    (λ v. let z : level_of (e / 2) ≡ level_of a = ap level_of v in
    let y = level_of-parent e (omega arith) in omega arith) edge

-- a leaf's edges name no split triangles
pub edge-shut : (n : ℕ) (has : ℕ → Bool) (a e : ℕ) → IsClosed n has → IsLeafOf has a → IsEdgeOf a e →
    with_square has e ≡ false
edge-shut n has a e closed leaf edge = let low = leaf.low in ⊎_elim
    (λ v. ap (with_square has) v ∙ leaf-shut has a leaf)
    (λ v. ⊎_elim (λ split. absurd (never (with_square has) a (ap (with_square has) (sym v)
    ∙ (IsSplitSet-closed n has closed).parent e (omega arith) split) (leaf-shut has a leaf)))
    (λ shut. shut) (cases_Bool (with_square has e))) edge

-- nor does a mate of such an edge
pub across-shut : (n : ℕ) (has : ℕ → Bool) (e : ℕ) → IsClosed n has → 2 ≤ e → with_square has e ≡ false →
    1 ≤ mate_of e → with_square has (mate_of e) ≡ false
across-shut n has e closed low shut some = ⊎_elim
    (λ split. absurd (let back = mate_of-back e low some in
    never (with_square has) e (ap (with_square has) (sym back)
    ∙ (IsSplitSet-closed n has closed).mate (mate_of e) (mate_of-low e low some) split (omega arith)) shut))
    (λ shut_too. shut_too) (cases_Bool (with_square has (mate_of e)))

-- ---- the leaf across

owner-shut : (split : ℕ → Bool) (f : ℕ) → split f ≡ false → split (owner split f) ≡ false
owner-shut split f shut = ⊎_elim (λ v. ap split v.1 ∙ shut) (λ v. ap split v.1 ∙ v.0) (owner_cases split f)

-- The owner of the mate of a leaf's edge is a leaf.
pub owner-leaf : (n : ℕ) (has : ℕ → Bool) (a e : ℕ) → IsClosed n has → IsLeafOf has a → IsEdgeOf a e → 1 ≤ mate_of e →
    IsLeafOf has (owner (with_square has) (mate_of e))
owner-leaf n has a e closed leaf edge some =
    let low = edge-low a e leaf.low edge in
    let own = edge-owner has a e leaf edge in
    IsLeafOf-shut has (owner (with_square has) (mate_of e))
    (owner-low (with_square has) (mate_of e) (with_square-root has) (mate_of-low e low some))
    (owner-live (with_square has) e (IsSplitSet-closed n has closed) low
    (ap (λ t. with_square has (t / 2)) own ∙ leaf-up has a leaf) some)
    (owner-shut (with_square has) (mate_of e)
    (across-shut n has e closed low (edge-shut n has a e closed leaf edge) some))

-- It is another leaf.
pub owner-other : (split : ℕ → Bool) (a e : ℕ) → 2 ≤ a → IsEdgeOf a e → 1 ≤ mate_of e → owner split (mate_of e) ≢ a
owner-other split a e low edge some same =
    let two = edge-low a e low edge in
    let level : level_of (mate_of e) ≡ level_of e = mate_of-level e two some in
    let deep = mate_of-low e two some in
    ⊎_elim
    (λ v. ⊎_elim
    (λ w. mate_of-other e two some (sym w.1 ∙ same ∙ sym v))
    (λ w. let half : mate_of e / 2 ≡ e = sym w.1 ∙ same ∙ sym v in
    let z : level_of (mate_of e / 2) ≡ level_of e = ap level_of half in
    let y = level_of-parent (mate_of e) (omega arith) in omega arith) (owner_cases split (mate_of e)))
    (λ v. ⊎_elim
    (λ w. let at : mate_of e ≡ e / 2 = sym w.1 ∙ same ∙ sym v in
    let z : level_of (mate_of e) ≡ level_of (e / 2) = ap level_of at in
    let y = level_of-parent e (omega arith) in omega arith)
    (λ w. no_sibling e (omega arith) some (sym w.1 ∙ same ∙ sym v)) (owner_cases split (mate_of e))) edge

-- The owner of the mate of an edge is the leaf across the edge.
pub leaf_across : (n : ℕ) (has : ℕ → Bool) (a e : ℕ) → IsClosed n has → IsLeafOf has a → IsEdgeOf a e → 1 ≤ mate_of e →
    IsLeafAcross n has a (corners_of n e).v0 (corners_of n e).v1 (owner (with_square has) (mate_of e))
leaf_across n has a e closed leaf edge some =
    let low = edge-low a e leaf.low edge in
    let level = edge-level n has a e closed leaf edge in
    let ends = ends_across n (with_square has) e low level some (with_square-root has) in record {
      leaf = owner-leaf n has a e closed leaf edge some;
      other = owner-other (with_square has) a e leaf.low edge some;
      first = ends.0;
      second = ends.1;
      only = λ c there other p q.
          only_across n (with_square has) a e c low level (edge-owner has a e leaf edge)
          (ends_apart n e low level) there.low (leaf-level n has c closed there)
          (leaf-up has c there) (leaf-shut has c there) other p q;
    }

-- An edge has no mate exactly where both its ends lie on one side of the square.
pub edge-border : (n : ℕ) (has : ℕ → Bool) (a e : ℕ) → IsClosed n has → IsLeafOf has a → IsEdgeOf a e →
    (mate_of e ≡ 0 ↔ OnOneSide (2 ^ n) (corners_of n e).v0 (corners_of n e).v1)
edge-border n has a e closed leaf edge =
    border_ends n e (edge-low a e leaf.low edge) (edge-level n has a e closed leaf edge)

-- ---- edges by their ends

-- The edges of a triangle by their ends: the base goes from v0 to v1, the left leg from the apex to v0, the right leg
-- from v1 to the apex.
pub edge-legs : (n a : ℕ) → 2 ≤ a →
    (((corners_of n (2 * a)).v0 ≡ (corners_of n a).apex) × ((corners_of n (2 * a)).v1 ≡ (corners_of n a).v0)) ×
    (((corners_of n (2 * a + 1)).v0 ≡ (corners_of n a).v1) × ((corners_of n (2 * a + 1)).v1 ≡ (corners_of n a).apex))
edge-legs n a low =
    let l : corners_of n (2 * a) ≡ child 0 (corners_of n a) = corners_of-left n a low in
    let r : corners_of n (2 * a + 1) ≡ child 1 (corners_of n a) = corners_of-right n a low in
    ((ap (λ t. t.v0) l, ap (λ t. t.v1) l), (ap (λ t. t.v0) r, ap (λ t. t.v1) r))

-- from p to q is the edge e
pub record HasEnds (n e : ℕ) (p q : Point) : Type 0 where
  pub start : p ≡ (corners_of n e).v0
  pub finish : q ≡ (corners_of n e).v1

-- each edge of a triangle has a name
pub edge_named : (n a : ℕ) (p q : Point) → 2 ≤ a → IsEdge (corners_of n a) p q →
    (e : ℕ) × IsEdgeOf a e × HasEnds n e p q
edge_named n a p q low edge =
    let legs = edge-legs n a low in
    elim edge [
      | inl v ↦ (2 * a, inr (omega arith), record { start = v.0 ∙ sym legs.0.0; finish = v.1 ∙ sym legs.0.1 })
      | inr (inl v) ↦ (a, inl refl, record { start = v.0; finish = v.1 })
      | inr (inr v) ↦ (2 * a + 1, inr (omega arith), record { start = v.0 ∙ sym legs.1.0; finish = v.1 ∙ sym legs.1.1 })
    ]

-- and each name is that of an edge
pub named_edge : (n a e : ℕ) → 2 ≤ a → IsEdgeOf a e → IsEdge (corners_of n a) (corners_of n e).v0 (corners_of n e).v1
named_edge n a e low edge =
    let legs = edge-legs n a low in
    ⊎_elim (λ is. inr (inl (ap (λ t. (corners_of n t).v0) is, ap (λ t. (corners_of n t).v1) is)))
    (λ half. ⊎_elim
    (λ even.
    let is : e ≡ 2 * a = omega arith in
    inl (ap (λ t. (corners_of n t).v0) is ∙ legs.0.0, ap (λ t. (corners_of n t).v1) is ∙ legs.0.1))
    (λ odd.
    let is : e ≡ 2 * a + 1 = omega arith in
    inr (inr (ap (λ t. (corners_of n t).v0) is ∙ legs.1.0, ap (λ t. (corners_of n t).v1) is ∙ legs.1.1)))
    (cases_lt (e % 2) 1)) edge

-- An edge with its direction has one name.
pub one_name : (n e g : ℕ) (p q : Point) → 2 ≤ e → 2 ≤ g → level_of e ≤ 2 * n + 1 → level_of g ≤ 2 * n + 1 →
    HasEnds n e p q → HasEnds n g p q → e ≡ g
one_name n e g p q low deep fits room here there =
    ⊎_elim (λ same. sym same)
    (λ mate. absurd (
    let some : 1 ≤ mate_of e = omega arith in
    let r = reversed n e low fits some in
    ends_apart n e low fits (sym here.start ∙ there.start ∙ ap (λ t. (corners_of n t).v0) (sym mate) ∙ sym r.1)))
    (same_ends n e g low deep fits room (inl (sym here.start ∙ there.start, sym here.finish ∙ there.finish)))

-- An edge, taken with its direction, belongs to at most one leaf.
pub one_leaf : (n : ℕ) (has : ℕ → Bool) (a b : ℕ) (p q : Point) → IsClosed n has → IsLeafOf has a → IsLeafOf has b →
    IsEdge (corners_of n a) p q → IsEdge (corners_of n b) p q → a ≡ b
one_leaf n has a b p q closed leaf other here there =
    let e = edge_named n a p q leaf.low here in
    let g = edge_named n b p q other.low there in
    let same : e.0 ≡ g.0 = one_name n e.0 g.0 p q (edge-low a e.0 leaf.low e.1) (edge-low b g.0 other.low g.1)
    (edge-level n has a e.0 closed leaf e.1) (edge-level n has b g.0 closed other g.1) e.2 g.2 in
    sym (edge-owner has a e.0 leaf e.1) ∙ ap (owner (with_square has)) same ∙ edge-owner has b g.0 other g.1

-- There is a leaf across each edge that is not on the border, and it has the edge reversed.
pub edge-reversed : (n : ℕ) (has : ℕ → Bool) (a : ℕ) (p q : Point) → IsClosed n has → IsLeafOf has a →
    IsEdge (corners_of n a) p q →
    (OnOneSide (2 ^ n) p q → ⊥) → (b : ℕ) × IsAcrossEdge n has a p q b
edge-reversed n has a p q closed leaf edge inner =
    let e = edge_named n a p q leaf.low edge in
    let low = edge-low a e.0 leaf.low e.1 in
    let border = edge-border n has a e.0 closed leaf e.1 in
    let ends = e.2 in
    let some : 1 ≤ mate_of e.0 = ⊎_elim
    (λ none. absurd (inner (subst (λ t. OnOneSide (2 ^ n) t q) (sym ends.start) (subst (λ t. OnOneSide (2 ^ n)
    (corners_of n e.0).v0 t) (sym ends.finish) (border.0 (let z : mate_of e.0 ≡ 0 = omega arith in z))))))
    (λ some. some) (cases_lt (mate_of e.0) 1) in
    let b : ℕ = owner (with_square has) (mate_of e.0) in
    let r = reversed n e.0 low (edge-level n has a e.0 closed leaf e.1) some in
    let across = leaf_across n has a e.0 closed leaf e.1 some in
    let back = named_edge n b (mate_of e.0) across.leaf.low (IsEdgeOf-owner (with_square has) (mate_of e.0)) in (
      b,
      record {
        across = subst (λ t. IsLeafAcross n has a t q b) (sym ends.start)
            (subst (λ t. IsLeafAcross n has a (corners_of n e.0).v0 t b) (sym ends.finish) across);
        back = subst (λ t. IsEdge (corners_of n b) t p) (sym r.1 ∙ sym ends.finish)
            (subst (λ t. IsEdge (corners_of n b) (corners_of n (mate_of e.0)).v0 t) (sym r.0 ∙ sym ends.start) back);
      },
    )

-- There is none across an edge on the border.
pub edge-alone : (n : ℕ) (has : ℕ → Bool) (a b : ℕ) (p q : Point) → IsClosed n has → IsLeafOf has a → IsLeafOf has b →
    IsEdge (corners_of n a) p q →
    OnOneSide (2 ^ n) p q → IsEdge (corners_of n b) q p → ⊥
edge-alone n has a b p q closed leaf other edge side there =
    let e = edge_named n a p q leaf.low edge in
    let g = edge_named n b q p other.low there in
    let low = edge-low a e.0 leaf.low e.1 in
    let deep = edge-low b g.0 other.low g.1 in
    let fits = edge-level n has a e.0 closed leaf e.1 in
    let room = edge-level n has b g.0 closed other g.1 in
    let ends = e.2 in let far = g.2 in
    let none : mate_of e.0 ≡ 0 = (edge-border n has a e.0 closed leaf e.1).1
    (subst (λ t. OnOneSide (2 ^ n) t (corners_of n e.0).v1) ends.start
    (subst (λ t. OnOneSide (2 ^ n) p t) ends.finish side)) in
    ⊎_elim (λ same. ends_apart n e.0 low fits (sym ends.start ∙ far.finish ∙ ap (λ t. (corners_of n t).v1) same))
    (λ mate. omega arith)
    (same_ends n e.0 g.0 low deep fits room (inr (sym ends.start ∙ far.finish, sym ends.finish ∙ far.start)))

-- ---- levels across an edge

-- Across a leaf's base stands its mate or its mate's parent.
pub base-across : (has : ℕ → Bool) (a : ℕ) →
    (owner (with_square has) (mate_of a) ≡ mate_of a) ⊎ (owner (with_square has) (mate_of a) ≡ mate_of a / 2)
base-across has a = ⊎_elim (λ v. inl v.1) (λ v. inr v.1) (owner_cases (with_square has) (mate_of a))

-- Across a leg stands a leaf of the same level or one level finer.
pub leg-across : (has : ℕ → Bool) (a e : ℕ) → 2 ≤ a → e / 2 ≡ a → 1 ≤ mate_of e →
    (level_of (owner (with_square has) (mate_of e)) ≡ level_of a)
    ⊎ (level_of (owner (with_square has) (mate_of e)) ≡ level_of a + 1)
leg-across has a e low leg some =
    let two : 2 ≤ e = omega arith in
    let deep = mate_of-low e two some in
    let same : level_of (mate_of e) ≡ level_of e = mate_of-level e two some in
    let up : level_of e ≡ level_of (e / 2) + 1 = level_of-parent e (omega arith) in
    let own : level_of (e / 2) ≡ level_of a = ap level_of leg in
    ⊎_elim
    (λ v.
    let z : level_of (owner (with_square has) (mate_of e)) ≡ level_of (mate_of e) = ap level_of v.1 in
    inr (omega arith))
    (λ v. let z : level_of (owner (with_square has) (mate_of e)) ≡ level_of (mate_of e / 2) = ap level_of v.1 in
    ⊎_elim (λ top. absurd (let flat = level_of-root (mate_of e) deep top in omega arith))
    (λ past. let y : level_of (mate_of e) ≡ level_of (mate_of e / 2) + 1 = level_of-parent (mate_of e) past in
    inl (omega arith)) (cases_lt (mate_of e) 4))
    (owner_cases (with_square has) (mate_of e))
