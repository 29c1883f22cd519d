-- What the heads of the queues tell.
use Rattle.std.proofs.Common.{◌≡◌, ℕ, ◌*◌, ◌<◌, ◌≤◌, inl, inr, true, false, None, Some, IsTrue, Contains, All}
use Rattle.std.proofs.Common.{MatchOption, refl, sym, ◌∙◌, ap, subst, arith, ⊎_elim}
use Rattle.std.proofs.lemmas.Bool.{cases_lt, cases_eq}
use Rattle.mesh_defs.specs.Triangle.{level_of, IsAddress, IsMate}
use Rattle.mesh_defs.specs.ClosedSet.{leaves_of, among}
use Rattle.mesh_defs.specs.Ranking.{RanksBefore, IsBefore}
use Rattle.bintree_laws.proofs.LevelLemmas.{level-le}
use Rattle.mesh_defs.specs.GridSet.{IsGridSet}
use Rattle.bintree_addr.specs.declared.rank.Rank.{Rank}
use Rattle.bintree_addr.specs.RankOrder.{ComesFirst}
use Rattle.mesh_laws.specs.Diamond.{IsInDiamond, CanMerge}
use Rattle.mesh_laws.specs.Order.{IsNoLater}
use Rattle.mesh_laws.specs.Deferred.{IsEntry, leaf, member, DeferredFrame, IsDeferredFrame}
use Rattle.mesh_laws.specs.Keys.{upper_key, lower_key, IsLastKey}
use Rattle.mesh_laws.proofs.DiamondLemmas.{diamond_trans, diamond_symmetric, leaf_outside}
use Rattle.mesh_laws.proofs.NextLemmas.{some_lead}
use Rattle.mesh_laws.proofs.KeyLemmas.{IsAddress-entry, first_known, zero_head, lead_no_later_key, all_before}
use Rattle.mesh_laws.proofs.KeyLemmas.{all_positive, upper_key-known}
use Rattle.deferred_loop.specs.Choice.{Priorities, IsFirstRank, IsLastRank}
use Rattle.deferred_loop.specs.Seen.{SeenMesh, best_key, worst_key, sure, IsDecided, IsToAsk, IsHead, IsLastHead}
use Rattle.deferred_loop.specs.Kept.{frame_priorities, IsSettled, IsMet, IsAllowed, IsNoneMet}
use Rattle.deferred_loop.specs.declared.queued.Head.{Head}
use Rattle.deferred_loop.specs.declared.queued.Last.{Last}
use Rattle.deferred_loop.specs.declared.queued.Located.{Located}
use Rattle.deferred_loop.specs.declared.limit.Limit.{Limit}
use Rattle.deferred_loop.specs.declared.limit.Limit.TheVariants.{Over, After, Zero}
use Rattle.deferred_loop.proofs.KeyLemmas.{present, present_is, best_key-upper, worst_key-lower, sure_key, unsure}
use Rattle.deferred_loop.proofs.KeyLemmas.{best_key-above, no_later_by, can_merge_with}

-- the grid of a frame's gauge
pub priorities_grid : (w : DeferredFrame) (priorities : Priorities) → priorities ≡ frame_priorities w
    → priorities.n ≡ w.n
priorities_grid w priorities same = ap (λ (z : Priorities). z.n) same

-- an address may be asked
pub asked_level : (w : DeferredFrame) (priorities : Priorities) (a : ℕ) → priorities ≡ frame_priorities w →
    IsAddress w.n a → level_of a ≤ 2 * priorities.n
asked_level w priorities a same address = omega (arith, level-le w.n a address, priorities_grid w priorities same)

-- a head with no triangle to ask is decided
pub last_decided : (s : SeenMesh) (h : Last) → IsLastHead s h → h.unasked ≡ None → IsDecided s h.rank.tri
last_decided s h last none =
    subst (λ z. MatchOption z (IsDecided s h.rank.tri) (λ (t : Located). IsToAsk s h.rank.tri t.tri)) none
    last.unasked

-- the triangle to ask
pub last_part : (s : SeenMesh) (h : Last) (t : Located) → IsLastHead s h → h.unasked ≡ Some t →
    IsInDiamond s.set.n h.rank.tri t.tri × (s.known t.tri ≡ false)
last_part s h t last some =
    let next : IsToAsk s h.rank.tri t.tri =
    subst (λ z. MatchOption z (IsDecided s h.rank.tri) (λ (u : Located). IsToAsk s h.rank.tri u.tri))
    some last.unasked in
    (next.in_diamond, unsure s t.tri next.not_sure)

-- the set of a settled mesh is closed
pub grid_set_here : (w : DeferredFrame) (s : SeenMesh) → IsSettled w s → IsGridSet s.set.n s.set.members
grid_set_here w s settled = subst (λ z. IsGridSet z s.set.members) (sym settled.grid) settled.valid

-- 0 or positive
pub positive_or_zero : (x : ℕ) → (x ≡ 0 → ⊥) → 0 < x
positive_or_zero x some =
    ⊎_elim (λ (more : 0 < x). more) (λ rest. absurd (some (let e : x ≡ 0 = omega arith in e))) (cases_lt 0 x)

module _ (w : DeferredFrame) (is : IsDeferredFrame w) (s : SeenMesh) (settled : IsSettled w s) where
  -- the set, at the frame's grid
  set : IsGridSet w.n s.set.members
  set = settled.valid

  -- the frame with the bounds of the mesh
  abbrev p : DeferredFrame
  p = present w s

  p_is : IsDeferredFrame p
  p_is = present_is w s is

  -- the split queue

  module _ (h : Head) (head : IsHead s h) where
    head_leaf : Contains (leaves_of w.n (among s.set.members)) h.rank.tri
    head_leaf = subst (λ z. Contains (leaves_of z (among s.set.members)) h.rank.tri) settled.grid head.leaf

    head_key : best_key s h.rank.tri ≡ upper_key p (sure s) h.rank.tri
    head_key = best_key-upper w s h.rank.tri (settled.keys h.rank.tri (leaf head_leaf))

    head_first : (l : ℕ) → Contains (leaves_of w.n (among s.set.members)) l →
        IsNoLater ((upper_key p (sure s)) h.rank.tri) h.rank.tri ((upper_key p (sure s)) l) l
    head_first l i = no_later_by (best_key s) (upper_key p (sure s)) h.rank.tri l head_key
        (best_key-upper w s l (settled.keys l (leaf i)))
        (head.first l (subst (λ z. Contains (leaves_of z (among s.set.members)) l) (sym settled.grid) i))

    -- the head is an entry of the mesh
    pub head_entry : IsEntry s.set.n (among s.set.members) h.rank.tri
    head_entry = leaf head.leaf

    -- and may be asked
    pub head_level : (priorities : Priorities) → priorities ≡ frame_priorities w
        → level_of h.rank.tri ≤ 2 * priorities.n
    head_level priorities same =
        asked_level w priorities h.rank.tri same (IsAddress-entry w.n s.set.members h.rank.tri set (leaf head_leaf))

    -- a head of key 0
    pub head_zero : h.rank.p ≡ 0 → All (λ a. w.priority a ≡ 0) (leaves_of w.n (among s.set.members))
    head_zero none =
        zero_head p p_is s.set.members (sure s) h.rank.tri (sym head_key ∙ sym head.value ∙ none) head_first

    -- a head that is known
    pub head_known : h.sure ≡ true → (h.rank.p ≡ 0 → ⊥) → IsFirstRank w.n w.priority s.set.members h.rank
    head_known told some =
        let value : h.rank.p ≡ w.priority h.rank.tri = head.value ∙ head_key
        ∙ upper_key-known p p_is (sure s) h.rank.tri (sym head.marked ∙ told) in
        let positive : 0 < w.priority h.rank.tri = subst (λ z. 0 < z) value (positive_or_zero h.rank.p some) in
        record {
          first = first_known p p_is s.set.members (sure s) h.rank.tri head_leaf
              (sym head.marked ∙ told) positive head_first;
          value = value;
        }

  -- the merge queue

  -- nothing can be merged
  pub none_empty : (limit : Limit) → IsAllowed w s.set.members limit →
      ((a : ℕ) → CanMerge s.set.n (among s.set.members) a → ⊥) →
      IsNoneMet w s.set.members limit
  none_empty Over over none = some_lead w.n w.priority s.set.members w.budget set.closed is.low over
      (λ d lead. none d (subst (λ z. CanMerge z (among s.set.members) d) (sym settled.grid) lead.mergeable))
  none_empty (After f) first none = λ d lead. absurd
      (none d (subst (λ z. CanMerge z (among s.set.members) d) (sym settled.grid) lead.mergeable))
  none_empty Zero _ none =
      λ d lead. absurd (none d (subst (λ z. CanMerge z (among s.set.members) d) (sym settled.grid) lead.mergeable))

  module _ (h : Last) (last : IsLastHead s h) where
    last_can : CanMerge w.n (among s.set.members) h.rank.tri
    last_can = subst (λ z. CanMerge z (among s.set.members) h.rank.tri) settled.grid last.mergeable

    last_address : IsAddress w.n h.rank.tri
    last_address = IsAddress-entry w.n s.set.members h.rank.tri set (member last_can)

    -- the key of a triangle that can be merged
    key_of : (a : ℕ) → CanMerge w.n (among s.set.members) a → worst_key s a ≡ lower_key p (sure s) a
    key_of a can = worst_key-lower w s a (settled.keys a (member can))

    pub last_value : h.rank.p ≡ lower_key p (sure s) h.rank.tri
    last_value = last.value ∙ key_of h.rank.tri last_can

    -- each triangle of the diamond, with the better one
    pub last_key : (t : ℕ) → IsInDiamond w.n h.rank.tri t → IsLastKey p s.set.members (sure s) t h.rank.tri
    last_key t i = record {
      mergeable = can_merge_with w.n (among s.set.members) h.rank.tri t set.closed last_can i;
      in_diamond = diamond_symmetric w.n h.rank.tri t last_address i;
      better = λ b j.
          let whole = diamond_trans w.n h.rank.tri t b last_address i j in
          no_later_by (worst_key s) (lower_key p (sure s)) h.rank.tri b (key_of h.rank.tri last_can)
          (key_of b (can_merge_with w.n (among s.set.members) h.rank.tri b set.closed last_can whole))
          (last.better b (subst (λ z. IsInDiamond z h.rank.tri b) (sym settled.grid) whole));
      last = λ d lead.
          let e = last.last d (subst (λ z. CanMerge z (among s.set.members) d) (sym settled.grid) lead.mergeable) in
          let inside = subst (λ z. IsInDiamond z d e.0) settled.grid e.1 in (
            e.0,
            inside,
            no_later_by (worst_key s) (lower_key p (sure s)) e.0 h.rank.tri
                (key_of e.0 (can_merge_with w.n (among s.set.members) d e.0 set.closed lead.mergeable inside))
                (key_of h.rank.tri last_can)
                e.2,
          );
    }

    own_key : IsLastKey p s.set.members (sure s) h.rank.tri h.rank.tri
    own_key = last_key h.rank.tri (inl refl)

    -- a key that is not after f is before it
    key_before : (f : Rank) → IsFirstRank w.n w.priority s.set.members f → (ComesFirst f h.rank → ⊥) →
        IsBefore ((lower_key p (sure s)) h.rank.tri) h.rank.tri (w.priority f.tri) f.tri
    key_before f first other = ⊎_elim
        (λ (less : h.rank.p < f.p). absurd (other (inl less)))
        (λ (most : f.p ≤ h.rank.p). ⊎_elim
        (λ (more : f.p < h.rank.p). inl (omega (arith, first.value, last_value)))
        (λ (least : h.rank.p ≤ f.p).
        let tie : f.p ≡ h.rank.p = omega arith in
        ⊎_elim
        (λ (early : f.tri < h.rank.tri). absurd (other (inr (tie, early))))
        (λ (late : h.rank.tri ≤ f.tri). ⊎_elim
        (λ (same : f.tri ≡ h.rank.tri).
        absurd ((leaf_outside w.n (among s.set.members) f.tri set.closed first.first.leaf).outside
        (subst (λ z. IsTrue (among s.set.members z)) (sym same) last_can.member)))
        (λ differ. inr (
          sym last_value ∙ sym tie ∙ first.value,
          ⊎_elim
              (λ (below : h.rank.tri < f.tri). below)
              (λ rest. absurd (differ (let e : f.tri ≡ h.rank.tri = omega arith in e)))
              (cases_lt h.rank.tri f.tri),
        ))
        (cases_eq f.tri h.rank.tri))
        (cases_lt f.tri h.rank.tri))
        (cases_lt f.p h.rank.p))
        (cases_lt h.rank.p f.p)

    -- a key that does not meet the limit
    pub none_met : (limit : Limit) → IsAllowed w s.set.members limit → (IsMet limit h.rank → ⊥) →
        IsNoneMet w s.set.members limit
    none_met Over over unmet = unmet tt
    none_met (After f) first unmet =
        λ d lead. all_before p p_is s.set.members (sure s) h.rank.tri h.rank.tri f.tri set own_key
        (key_before f first unmet) d lead
    none_met Zero _ unmet = λ d lead. all_positive p p_is s.set.members (sure s) h.rank.tri h.rank.tri set own_key
        (subst (λ z. 0 < z) last_value (positive_or_zero h.rank.p unmet)) d lead

    -- the triangle to ask is an entry of the mesh
    pub last_entry : (t : ℕ) → IsInDiamond s.set.n h.rank.tri t → IsEntry s.set.n (among s.set.members) t
    last_entry t inside =
        member (can_merge_with s.set.n (among s.set.members) h.rank.tri t (grid_set_here w s settled).closed
        last.mergeable inside)

    -- and may be asked
    pub last_level : (priorities : Priorities) (t : ℕ) → priorities ≡ frame_priorities w →
        IsInDiamond s.set.n h.rank.tri t → level_of t ≤ 2 * priorities.n
    last_level priorities t same inside = asked_level w priorities t same
        (IsAddress-entry w.n s.set.members t set
        (member (last_key t (subst (λ z. IsInDiamond z h.rank.tri t) settled.grid inside)).mergeable))

    -- a diamond that is decided
    pub last_is : IsDecided s h.rank.tri → IsLastRank w.n w.priority s.set.members h.rank
    last_is decided =
        let value : h.rank.p ≡ w.priority h.rank.tri = last.value
        ∙ (sure_key w s h.rank.tri (settled.keys h.rank.tri (member last_can)) decided.own).1 in
        record {
          last = record {
            lead = record {
              mergeable = last_can;
              first = λ b mate. ranks_first b mate value
                  (decided.mate b (subst (λ z. IsMate z h.rank.tri b) (sym settled.grid) mate));
            };
            last = λ d lead differ.
                strictly d differ value (lead_no_later_key p p_is s.set.members (sure s) h.rank.tri h.rank.tri set
                own_key d lead);
          };
          value = value;
        }
      where
        -- its mate ranks after it
        ranks_first : (b : ℕ) → IsMate w.n h.rank.tri b → h.rank.p ≡ w.priority h.rank.tri →
            IsNoLater ((worst_key s) h.rank.tri) h.rank.tri ((best_key s) b) b → RanksBefore w.priority h.rank.tri b
        ranks_first b mate value order =
            let above = best_key-above w s b (settled.keys b
            (member (can_merge_with w.n (among s.set.members) h.rank.tri b set.closed last_can (inr mate)))) in
            let key = last.value in
            ⊎_elim
            (λ (more : best_key s b < worst_key s h.rank.tri). inl (omega arith))
            (λ (tie : (worst_key s h.rank.tri ≡ best_key s b) × (h.rank.tri ≤ b)).
            let same = tie.0 in
            let early = tie.1 in
            ⊎_elim
            (λ (less : w.priority b < w.priority h.rank.tri). inl less)
            (λ (rest : w.priority h.rank.tri ≤ w.priority b). inr (
              omega arith,
              ⊎_elim
                  (λ (below : h.rank.tri < b). below)
                  (λ (over : b ≤ h.rank.tri). absurd (mate.other (let e : b ≡ h.rank.tri = omega arith in e)))
                  (cases_lt h.rank.tri b),
            ))
            (cases_lt (w.priority b) (w.priority h.rank.tri)))
            order

        -- another lead ranks before it
        strictly : (d : ℕ) → (d ≡ h.rank.tri → ⊥) → h.rank.p ≡ w.priority h.rank.tri →
            IsNoLater (w.priority d) d ((lower_key p (sure s)) h.rank.tri) h.rank.tri →
            RanksBefore w.priority d h.rank.tri
        strictly d differ value (inl more) = inl (omega (arith, last_value))
        strictly d differ value (inr tie) = inr (
          tie.0 ∙ sym last_value ∙ value,
          ⊎_elim
              (λ (less : d < h.rank.tri). less)
              (λ rest. absurd (differ (let low = tie.1 in let e : d ≡ h.rank.tri = omega arith in e)))
              (cases_lt d h.rank.tri),
        )
