-- Leads: each diamond that can be merged has one, and a closed set that holds all leads holds all members.
use Rattle.std.proofs.Common.{◌≡◌, ℕ, zero, suc, ◌+◌, ◌*◌, ◌/◌, ◌≤◌, inl, inr, Bool, IsTrue, refl, sym, subst, arith}
use Rattle.std.proofs.Common.{⊎_elim}
use Rattle.mesh_defs.specs.Triangle.{level_of, IsAddress, IsMate}
use Rattle.mesh_defs.specs.ClosedSet.{IsClosed, IsSubset}
use Rattle.mesh_defs.specs.Ranking.{RanksBefore}
use Rattle.bintree_laws.proofs.LevelLemmas.{level_of-parent}
use Rattle.bintree_laws.proofs.CentreLemmas.{mate_unique, mate_symmetric}
use Rattle.mesh_laws.proofs.DescentLemmas.{IsAddress-splittable}
use Rattle.mesh_laws.specs.Order.{RanksNoLater}
use Rattle.mesh_laws.specs.Diamond.{IsInDiamond, CanMerge}
use Rattle.mesh_laws.proofs.OrderLemmas.{before_cases, before-no_later, no_later_back, ranks_no_later}
use Rattle.mesh_laws.proofs.DiamondLemmas.{mate_or_none, diamond_trans, diamond_symmetric, diamond_closed}
use Rattle.mesh_laws.proofs.DiamondLemmas.{diamond_level, ChildMember, child_or_childless}
use Rattle.mesh_laws.specs.Lead.{IsLead}

module _ (n : ℕ) (priority : ℕ → ℕ) (has : ℕ → Bool) (closed : IsClosed n has) where
  -- a member is an address
  member_address : (a : ℕ) → IsTrue (has a) → IsAddress n a
  member_address a h = IsAddress-splittable n a (closed.splittable a h)

  -- with a triangle its mate can be merged
  mergeable_mate : (a m : ℕ) → CanMerge n has a → IsMate n a m → CanMerge n has m
  mergeable_mate a m h mate = record {
    member = closed.mate a m h.member mate;
    childless = λ b i. h.childless b (diamond_trans n a m b (member_address a h.member) (inr mate) i);
  }

  -- a diamond that can be merged has a lead
  pub lead_of : (a : ℕ) → CanMerge n has a → (d : ℕ) × IsLead n priority has d × IsInDiamond n a d
  lead_of a h =
      let address : IsAddress n a = member_address a h.member in
      ⊎_elim
      (λ (found : (m : ℕ) × IsMate n a m).
      let m : ℕ = found.0 in
      let mate : IsMate n a m = found.1 in
      ⊎_elim
      (λ (same : a ≡ m). absurd (mate.other (sym same)))
      (λ order. ⊎_elim
      (λ (first : RanksBefore priority a m). (
        a,
        record {
          mergeable = h;
          first = λ b w. subst (λ z. RanksBefore priority a z) (mate_unique n a m b address mate w) first;
        },
        inl refl,
      ))
      (λ (last : RanksBefore priority m a). (
        m,
        record {
          mergeable = mergeable_mate a m h mate;
          first = λ b w. subst (λ z. RanksBefore priority m z)
              (mate_unique n m a b mate.address (mate_symmetric n a m address mate) w) last;
        },
        inr mate,
      ))
      order)
      (before_cases (priority a) a (priority m) m))
      (λ none. (a, record { mergeable = h; first = λ b w. absurd (none b w) }, inl refl))
      (mate_or_none n a address)

  -- a diamond has one lead
  pub lead_unique : (a b : ℕ) → IsLead n priority has a → IsLead n priority has b → IsInDiamond n a b → b ≡ a
  lead_unique a b h k (inl same) = same
  lead_unique a b h k (inr mate) =
      absurd (no_later_back (before-no_later (h.first b mate))
      (k.first a (mate_symmetric n a b (member_address a h.mergeable.member) mate)))

  -- a lead ranks no later than its mate
  pub lead_first : (d c : ℕ) → IsLead n priority has d → IsInDiamond n d c → RanksNoLater priority d c
  lead_first d c h (inl same) = ranks_no_later priority (inl (sym same))
  lead_first d c h (inr mate) = before-no_later (h.first c mate)

  -- a lead without which a closed set does not have a
  abbrev pub IsHeldBy : ℕ → ℕ → Type 0
  IsHeldBy a d = IsLead n priority has d × ((other : ℕ → Bool) → IsClosed n other → IsTrue (other d) → IsTrue (other a))

  held_at : (levels a : ℕ) → IsTrue (has a) → 2 * n ≤ level_of a + levels → (d : ℕ) × IsHeldBy a d
  held_at zero a member deep = absurd (let s = (closed.splittable a member).coarse in omega arith)
  held_at (suc levels) a member deep =
      let address : IsAddress n a = member_address a member in
      ⊎_elim
      (λ (below : ChildMember n has a).
      let up = diamond_level n a (below.child / 2) below.in_diamond in
      let down = level_of-parent below.child below.big in
      let r = held_at levels below.child below.member (omega arith) in (
        r.0,
        (
          r.1.0,
          λ other shut is.
              let over = shut.parent below.child (r.1.1 other shut is) below.big in
              diamond_closed n other (below.child / 2) a shut over
              (diamond_symmetric n a (below.child / 2) address below.in_diamond),
        ),
      ))
      (λ childless.
      let r = lead_of a record { member = member; childless = childless } in
      (r.0, (r.1, λ other shut is. diamond_closed n other r.0 a shut is (diamond_symmetric n a r.0 address r.2))))
      (child_or_childless n has a address)

  -- each member is held by a lead
  pub held_by : (a : ℕ) → IsTrue (has a) → (d : ℕ) × IsHeldBy a d
  held_by a member = held_at (2 * n) a member (omega arith)

  -- a closed set that holds each lead holds all
  pub leads_hold : (other : ℕ → Bool) → IsClosed n other →
      ((d : ℕ) → IsLead n priority has d → IsTrue (other d)) → IsSubset has other
  leads_hold other shut leads a member = let r = held_by a member in r.1.1 other shut (leads r.0 r.1.0)
