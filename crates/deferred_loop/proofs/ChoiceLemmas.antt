-- What each branch chooses, and what a step counts.
use Rattle.std.proofs.Common.{◌≡◌, ℕ, ◌+◌, ◌-◌, ◌^◌, ◌<◌, ◌≤◌, inl, inr, List, length, All, None, Some, sym, ◌∙◌, subst}
use Rattle.std.proofs.Common.{refl, arith}
use Rattle.mesh_defs.specs.Triangle.{IsSplittable}
use Rattle.mesh_defs.specs.ClosedSet.{leaves_of, among}
use Rattle.mesh_defs.specs.Ranking.{RanksBefore}
use Rattle.mesh_defs.specs.GridSet.{IsGridSet, IsForced, IsGain}
use Rattle.mesh_defs.specs.Falling.{IsFalling}
use Rattle.bintree_addr.specs.declared.rank.Rank.{Rank}
use Rattle.bintree_addr.specs.declared.blocked.Blocked.{Blocked}
use Rattle.bintree_addr.specs.RankOrder.{ComesFirst}
use Rattle.mesh_laws.specs.Diamond.{CanMerge, IsWithoutDiamond}
use Rattle.mesh_laws.specs.Frame.{IsFrame}
use Rattle.mesh_laws.proofs.ForcingLemmas.{with-old}
use Rattle.mesh_laws.proofs.SizeLemmas.{length-members, length-leaves_of}
use Rattle.mesh_laws.proofs.LeafLemmas.{leaves-most}
use Rattle.mesh_laws.proofs.SetListLemmas.{length-subset}
use Rattle.mesh_laws.proofs.DiamondLemmas.{without_diamond-closed}
use Rattle.mesh_laws.proofs.ChangeLemmas.{one_forced}
use Rattle.mesh_laws.proofs.FirstLeafLemmas.{first_leaf_splittable}
use Rattle.mesh_laws.proofs.FrameLemmas.{IsFrame-done, IsFrame-stopped}
use Rattle.mesh_laws.specs.Lead.{IsLead}
use Rattle.mesh_laws.specs.Steps.{leaf_count, DoesNotFit, makes_room, IsFinished, blocked, all_split}
use Rattle.mesh_laws.specs.Deferred.{DeferredFrame}
use Rattle.mesh_laws.proofs.FrameRunLemmas.{finished_end}
use Rattle.deferred_loop.specs.Seen.{SeenMesh, HasRoom}
use Rattle.deferred_loop.specs.Choice.{IsFirstRank, IsLastRank, IsNextSplit, IsNextMerge, IsNextEnd}
use Rattle.deferred_loop.specs.Kept.{IsSettled}

-- the leaves, at the frame's grid
pub leaves_here : (w : DeferredFrame) (s : SeenMesh) → IsSettled w s → (count : ℕ) →
    count ≡ leaf_count s.set.n s.set.members → count ≡ leaf_count w.n s.set.members
leaves_here w s settled count counted = subst (λ z. count ≡ leaf_count z s.set.members) settled.grid counted

-- a closed set has two leaves more than members
set_leaves : (n : ℕ) (members : List ℕ) → IsGridSet n members → leaf_count n members ≡ length members + 2
set_leaves n members set = length-leaves_of n members set.ascending set.closed

-- and so has what a forced split makes of it
forced_leaves : (n : ℕ) (before : List ℕ) (t : ℕ) (after : List ℕ) → IsForced n before t after →
    leaf_count n after ≡ length after + 2
forced_leaves n before t after f = length-leaves_of n after f.ascending f.least.closed

-- the number of leaves has room in 32 bits
pub leaves_small : (n : ℕ) (members : List ℕ) → IsGridSet n members → leaf_count n members ≤ 2 ^ 30 + 2
leaves_small n members set = omega (arith, set_leaves n members set, length-members n members set)

module _ (n : ℕ) (priority : ℕ → ℕ) (falling : IsFalling n priority) (budget : ℕ) (low : 2 ≤ budget) (members : List ℕ)
    (set : IsGridSet n members) where
  -- the first leaf in rank has a positive priority, so it can be split
  pub first_splittable : (f : Rank) → IsFirstRank n priority members f → IsSplittable n f.tri
  first_splittable f first = first_leaf_splittable n priority falling (among members) f.tri set.closed first.first

  -- a first leaf that fits is split next
  pub fits_split : (f : Rank) (gain : ℕ) → leaf_count n members ≤ budget → IsFirstRank n priority members f →
      IsGain n members f.tri gain → leaf_count n members + gain ≤ budget →
      IsNextSplit n budget priority members f.tri
  fits_split f gain within first g fits = record {
    within = within;
    first = first.first;
    after = g.after;
    forced = g.forced;
    fits = omega (arith, set_leaves n members set, forced_leaves n members f.tri g.after g.forced, g.grown);
  }

  no_room : (f : Rank) (gain : ℕ) → IsFirstRank n priority members f → IsGain n members f.tri gain →
      budget < leaf_count n members + gain → DoesNotFit n budget priority members f.tri
  no_room f gain first g over = record {
    first = first.first;
    after = g.after;
    forced = g.forced;
    over = omega (arith, set_leaves n members set, forced_leaves n members f.tri g.after g.forced, g.grown);
  }

  -- what the ranks say, by priorities
  ranks_before : (f d : Rank) → IsFirstRank n priority members f → IsLastRank n priority members d → ComesFirst f d →
      RanksBefore priority f.tri d.tri
  ranks_before f d first last (inl more) = let u = first.value in let v = last.value in inl (omega arith)
  ranks_before f d first last (inr tie) = inr (sym first.value ∙ tie.0 ∙ last.value, tie.1)

  -- where it does not fit, the last diamond makes room if it ranks after it
  pub room_merge : (f d : Rank) (gain : ℕ) → leaf_count n members ≤ budget → IsFirstRank n priority members f →
      IsGain n members f.tri gain → budget < leaf_count n members + gain →
      IsLastRank n priority members d → ComesFirst f d → IsNextMerge n budget priority members d.tri
  room_merge f d gain within first g over last before =
      record {
        last = last.last;
        must = makes_room f.tri within (no_room f gain first g over) (ranks_before f d first last before);
      }

  -- and if none does, the frame ends there
  pub end_blocked : (count : ℕ) → count ≡ leaf_count n members → (f : Rank) (gain : ℕ) → leaf_count n members ≤ budget →
      IsFirstRank n priority members f → IsGain n members f.tri gain →
      budget < leaf_count n members + gain →
      ((d : ℕ) → IsLead n priority (among members) d → RanksBefore priority d f.tri) →
      IsNextEnd n budget priority members (record {
        worst = f.p;
        blocked = Some (record { tri = f.tri; need = count + gain });
      })
  end_blocked count counted f gain within first g over leads =
      let block : Blocked = record { tri = f.tri; need = count + gain } in
      let finished : IsFinished n budget priority members = blocked f.tri within (no_room f gain first g over) leads in
      record {
        finished = finished;
        frame = subst (λ z. IsFrame n budget priority (among members) z (Some block)) (sym first.value)
            (IsFrame-stopped n budget priority (among members) (among g.after) block falling low
            (finished_end n budget priority members set falling finished) first.first g.forced.least
            (omega (arith, set_leaves n members set, forced_leaves n members f.tri g.after g.forced, g.grown)));
      }

  -- the end where no leaf has a positive priority and every diamond has one
  pub end_split : leaf_count n members ≤ budget → All (λ a. priority a ≡ 0) (leaves_of n (among members)) →
      ((d : ℕ) → IsLead n priority (among members) d → 0 < priority d) →
      IsNextEnd n budget priority members (record { worst = 0; blocked = None })
  end_split within zeros leads =
      let finished : IsFinished n budget priority members = all_split within zeros leads in
      record {
        finished = finished;
        frame = IsFrame-done n budget priority (among members) falling low
            (finished_end n budget priority members set falling finished) zeros;
      }

-- a split that fits the budget fits the pool
pub split_room : (n most budget : ℕ) (priority : ℕ → ℕ) (members : List ℕ) (t : ℕ) (after : List ℕ) →
    HasRoom n most budget → IsNextSplit n budget priority members t →
    IsForced n members t after → leaf_count n after ≤ most
split_room n most budget priority members t after (inl room) next forced =
    let same = one_forced n members t t next.after after refl next.forced forced in
    let fits = subst (λ z. leaf_count n z ≤ budget) same next.fits in omega arith
split_room n most budget priority members t after (inr whole) next forced =
    let all = leaves-most n (among after) in
    omega arith

-- counts of one step

-- the leaves of two sets, as code counts them
pub record IsCounted (n m : ℕ) (less more : List ℕ) : Type 0 where
  pub few : leaf_count n less ≤ leaf_count m more
  pub count : leaf_count m more - leaf_count n less ≡ length more - length less
  pub small : leaf_count m more ≤ 2 ^ 30 + 2

-- of a split
pub split_counted : (n m : ℕ) (before : List ℕ) (t : ℕ) (after : List ℕ) → m ≡ n → IsGridSet n before →
    IsForced n before t after → IsCounted n m before after
split_counted n m before t after same set f =
    let held : IsGridSet n after = record {
      n_low = set.n_low;
      n_high = set.n_high;
      ascending = f.ascending;
      closed = f.least.closed;
    } in
    let longer =
    length-subset before after set.ascending f.ascending (λ a h. f.least.holds a (with-old (among before) t a h)) in
    subst (λ z. IsCounted n z before after) (sym same) (record {
      few = omega (arith, set_leaves n before set, set_leaves n after held);
      count = omega (arith, set_leaves n before set, set_leaves n after held);
      small = leaves_small n after held;
    })

-- of a merge
pub merge_counted : (n m : ℕ) (before : List ℕ) (d : ℕ) (after : List ℕ) → m ≡ n → IsGridSet n before →
    CanMerge n (among before) d → IsWithoutDiamond n before d after → IsCounted m n after before
merge_counted n m before d after same set can w =
    let held : IsGridSet n after = record {
      n_low = set.n_low;
      n_high = set.n_high;
      ascending = w.ascending;
      closed = without_diamond-closed n before d after set.closed can w;
    } in
    let shorter = length-subset after before w.ascending set.ascending (λ a h. ((w.members a).0 h).0) in
    subst (λ z. IsCounted z n after before) (sym same) (record {
      few = omega (arith, set_leaves n before set, set_leaves n after held);
      count = omega (arith, set_leaves n before set, set_leaves n after held);
      small = leaves_small n before set;
    })
