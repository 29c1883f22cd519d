-- Where a frame ends, the set is the rank closure.
use Rattle.std.proofs.Common.{◌≡◌, ℕ, ◌<◌, ◌≤◌, IsTrue, List, length, All, sym, subst, arith, ⊎_elim}
use Rattle.mesh_defs.specs.ClosedSet.{IsClosed, leaves_of, among}
use Rattle.mesh_defs.specs.Ranking.{RanksBefore, IsRanking, IsPrefixClosure, IsRankClosure}
use Rattle.mesh_laws.proofs.DescentLemmas.{IsAddress-splittable}
use Rattle.mesh_defs.specs.Falling.{IsFalling}
use Rattle.mesh_laws.proofs.ForcingLemmas.{with-cases}
use Rattle.mesh_laws.proofs.ClosureLemmas.{leaves_of-more}
use Rattle.mesh_laws.proofs.RankLemmas.{HasMissing, place_of, first_is_missing}
use Rattle.mesh_laws.specs.Lead.{IsLead}
use Rattle.mesh_laws.proofs.FirstLeafLemmas.{prefix_subset, subset_prefix, zeros_hold, earlier_place}
use Rattle.mesh_laws.specs.Steps.{leaf_count, DoesNotFit, IsFinished, blocked, all_split}
use Rattle.mesh_laws.proofs.LeadLemmas.{leads_hold}

module _ (n : ℕ) (priority : ℕ → ℕ) (ranking : List ℕ) (ranked : IsRanking n priority ranking)
    (falling : IsFalling n priority) where
  -- where the first leaf in rank does not fit and all leads rank before it
  blocked_closure : (budget : ℕ) (members : List ℕ) (f : ℕ) → IsClosed n (among members) →
      leaf_count n members ≤ budget → DoesNotFit n budget priority members f →
      ((d : ℕ) → IsLead n priority (among members) d → RanksBefore priority d f) →
      (chosen : ℕ) × IsRankClosure n budget ranking chosen (among members)
  blocked_closure budget members f closed within no_room leads =
      let found = first_is_missing n priority ranking ranked falling (among members) closed f no_room.first in
      let m : HasMissing (among members) ranking = found.0 in
      let prefix : IsPrefixClosure n ranking m.0 (among members) = record {
        closed = closed;
        holds = prefix_subset (among members) ranking m.0 m.3;
        least = λ other shut holds. leads_hold n priority (among members) closed other shut (λ d lead.
            let address = IsAddress-splittable n d (closed.splittable d lead.mergeable.member) in
            let p = earlier_place n priority ranking ranked falling m.0 d m.1 address
            (subst (λ z. RanksBefore priority d z) (sym found.1) (leads d lead)) in
            subst (λ z. IsTrue (other z)) p.3 (subset_prefix other ranking m.0 holds p.0 p.1 p.2));
      } in (
        m.0,
        record {
          prefix = let b = m.1 in omega arith;
          closure = prefix;
          fits = within;
          longest = λ k other more inside closure.
              let holds = subset_prefix other ranking k closure.holds in
              let old = prefix.least other closure.closed
              (prefix_subset other ranking m.0 (λ i less b. holds i (omega arith) b)) in
              let new : IsTrue (other f) = subst (λ z. IsTrue (other z)) found.1 (holds m.0 more m.1) in
              let sub = no_room.forced.least.least other closure.closed (λ a h. ⊎_elim
              (λ was. old a was)
              (λ same. subst (λ z. IsTrue (other z)) same new)
              (with-cases (among members) f a h)) in
              let over = no_room.over in
              omega (arith, leaves_of-more n (among no_room.after) other sub);
        },
      )

  -- where no leaf and no lead has priority 0
  split_closure : (budget : ℕ) (members : List ℕ) → IsClosed n (among members) → leaf_count n members ≤ budget →
      All (λ a. priority a ≡ 0) (leaves_of n (among members)) →
      ((d : ℕ) → IsLead n priority (among members) d → 0 < priority d) →
      (chosen : ℕ) × IsRankClosure n budget ranking chosen (among members)
  split_closure budget members closed within zeros leads = (
    length ranking,
    record {
      prefix = omega arith;
      closure = record {
        closed = closed;
        holds = prefix_subset (among members) ranking (length ranking)
            (zeros_hold n priority ranking ranked falling (among members) closed zeros);
        least = λ other shut holds. leads_hold n priority (among members) closed other shut (λ d lead.
            let address = IsAddress-splittable n d (closed.splittable d lead.mergeable.member) in
            let p = place_of n priority ranking ranked falling d address (leads d lead) in
            subst (λ z. IsTrue (other z)) p.2 (subset_prefix other ranking (length ranking) holds p.0 p.1 p.1));
      };
      fits = within;
      longest = λ k other more inside closure. absurd (omega arith);
    },
  )

  -- a frame ends at the rank closure
  pub finished_closure : (budget : ℕ) (members : List ℕ) → IsClosed n (among members) →
      IsFinished n budget priority members →
      (chosen : ℕ) × IsRankClosure n budget ranking chosen (among members)
  finished_closure budget members closed (blocked f within no_room leads) =
      blocked_closure budget members f closed within no_room leads
  finished_closure budget members closed (all_split within zeros leads) =
      split_closure budget members closed within zeros leads
