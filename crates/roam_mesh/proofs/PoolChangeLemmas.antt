-- A change of the pool: entries leave, the pool is another one, and slots are fresh. What holds then of the sizes, of
-- the places, and of what the loop sees.
use Rattle.std.proofs.Common.{◌≡◌, ℕ, zero, suc, ◌≤◌, ◌&&◌, Bool, true, false, not, cond, nat_eq, List, Option, None}
use Rattle.std.proofs.Common.{Some, refl, sym, ◌∙◌, ap, subst, arith, ⊎_elim, ◌+◌, ◌*◌, length, slice_index, ◌||◌, []}
use Rattle.std.proofs.Common.{IsTrue}
use Rattle.std.specs.List.{IsDistinct}
use Rattle.std.proofs.lemmas.Bool.{true≢false, both_ways, and_parts, and_from, not_from_false, false_from_ne_true}
use Rattle.std.proofs.lemmas.Bool.{cond-true, cond-false, cond_both, not-true}
use Rattle.mesh_laws.specs.Edge.{mate_of}
use Rattle.mesh_laws.specs.Slots.{address_at, IsPool, room_of, split_set}
use Rattle.mesh_laws.specs.Chief.{chief_of}
use Rattle.triangle_pool.specs.Slots.{PoolState}
use Rattle.bintree_addr.specs.declared.rank.Rank.{Rank}
use Rattle.roam_mesh.specs.Mesh.{slot_of, pool_members}
use Rattle.roam_mesh.specs.Parts.{PartsState, entry_at, merging_key, is_leaf_at, is_ready_at, is_chief_at, is_entry_at}
use Rattle.roam_mesh.specs.Parts.{is_out, leaf_rank, better_of, diamond_rank, deadline_of, IsPlaced, IsWhole}
use Rattle.roam_mesh.specs.Parts.{seen_parts, stamp_in, IsNear}
use Rattle.roam_mesh.proofs.PlaceLemmas.{slot_of-at, one_slot}
use Rattle.roam_mesh.proofs.RoleLemmas.{leaf_entry, ready_entry, entry_cases, ready_live, ready_mate, entry_live}
use Rattle.roam_mesh.proofs.RoleLemmas.{entry_of-at, entry_at-of, IsChiefIn, chief_in, in_chief}
use Rattle.roam_mesh.proofs.TestLemmas.{same_cond}
use Rattle.mesh_laws.proofs.SlotLemmas.{leaves_count}
use Rattle.mesh_defs.specs.ClosedSet.{leaves_of, among}
use Rattle.roam_mesh.specs.declared.entry.Entry.{Entry}
use Rattle.roam_mesh.specs.Change.{gone_entry}
use Rattle.roam_mesh.proofs.PlacedLemmas.{HasLeft, placed_same}
use Rattle.roam_mesh.proofs.FreshLemmas.{HasPushed}
use Rattle.mesh_laws.specs.Deferred.{IsEntry}
use Rattle.deferred_loop.specs.Seen.{IsSame, IsNewEntry, IsRenewed}
use Rattle.roam_mesh.proofs.SlotListLemmas.{seen_in, in_seen, seen_distinct}
use Rattle.text_laws.proofs.TestLemmas.{by_bool}

-- ---- sizes

-- a pool that counts its leaves has a pair for each leaf but one
pub pairs_counted : (pool : PoolState) (leaves : ℕ) → IsPool pool.n pool.pairs →
    leaves + room_of pool.pairs ≡ pool.most → leaves ≡ length (leaves_of pool.n (split_set pool.pairs)) →
    length pool.pairs + 1 ≡ pool.most
pairs_counted pool leaves is all count = let e = leaves_count pool.n pool.pairs is in omega arith

-- so each place is there still, for a pool of the same size with the same first pair
pub whole_repooled : (parts : PartsState) (pool : PoolState) → IsWhole parts → pool.most ≡ parts.pool.most →
    length pool.pairs + 1 ≡ pool.most → slice_index pool.pairs 0 ≡ 1 →
    IsWhole (record parts { pool = pool }) × (length pool.pairs ≡ length parts.pool.pairs)
whole_repooled parts pool whole most count root =
    let before = whole.pairs in
    let same : length pool.pairs ≡ length parts.pool.pairs = omega arith in
    let few = whole.few in (
      record {
        few = omega arith;
        pairs = count;
        root = root;
        entries = whole.entries ∙ ap (λ z. 2 * z) (sym same);
        split = whole.split ∙ ap (λ z. 2 * z) (sym same);
        merge = whole.merge ∙ ap (λ z. 2 * z) (sym same);
        due = whole.due ∙ ap (λ z. 2 * z) (sym same);
        asked = whole.asked;
        fresh = whole.fresh;
        known = whole.known;
      },
      same,
    )

-- the first pair is that of the square's halves as long as slot 0 keeps its triangle
pub root_kept : (before after : List ℕ) → slice_index before 0 ≡ 1 →
    address_at after 0 ≡ address_at before 0 → slice_index after 0 ≡ 1
root_kept before after root same = omega arith

-- ---- places

-- Of two pools the later one keeps each entry that is not away with its role and its triangle; all its other entries
-- are away after.
pub record IsRepooled (before after : PoolState) (away later : ℕ → Bool) : Type 0 where
  pub leaf : (s : ℕ) → is_leaf_at after.pairs s ≡ true → later s ≡ false →
      (is_leaf_at before.pairs s ≡ true) × (away s ≡ false)
  pub ready : (s : ℕ) → is_ready_at after.pairs s ≡ true → later s ≡ false →
      (is_ready_at before.pairs s ≡ true) × (away s ≡ false)
  pub old_leaf : (s : ℕ) → is_leaf_at before.pairs s ≡ true → away s ≡ false →
      (is_leaf_at after.pairs s ≡ true) × (later s ≡ false)
  pub old_ready : (s : ℕ) → is_ready_at before.pairs s ≡ true → away s ≡ false →
      (is_ready_at after.pairs s ≡ true) × (later s ≡ false)
  pub same : (s : ℕ) → is_entry_at before.pairs s ≡ true → away s ≡ false →
      address_at after.pairs s ≡ address_at before.pairs s

-- what is kept of the diamonds that are not out
abbrev pub AreKept : (before after : List ℕ) (away later : ℕ → Bool) → Type 0
AreKept before after away later = (s : ℕ) → is_ready_at before s ≡ true → away s ≡ false →
    (is_ready_at after s ≡ true) × (later s ≡ false) × (address_at after s ≡ address_at before s)

-- the mate's slot stays where it was
mate_kept : (n m : ℕ) (before after : List ℕ) (away later : ℕ → Bool) (s : ℕ) → IsPool n before → IsPool m after →
    AreKept before after away later →
    IsChiefIn before away s → 1 ≤ mate_of (address_at before s) →
    (slot_of after (mate_of (address_at before s)) ≡ slot_of before (mate_of (address_at before s)))
    × (later (slot_of before (mate_of (address_at before s))) ≡ false)
mate_kept n m before after away later s old new kept is some =
    let other = ready_mate n before s old is.ready some in
    let t : ℕ = slot_of before (mate_of (address_at before s)) in
    let stays = kept t other.0 (is.mate some) in
    let low : 2 ≤ address_at before t = ready_live before t other.0 in (
      one_slot m after t (mate_of (address_at before s)) new (subst (λ z. 2 ≤ z) other.1 low) (stays.2 ∙ other.1),
      stays.1,
    )

-- so a chief stays one
chief_kept : (n m : ℕ) (before after : List ℕ) (away later : ℕ → Bool) (s : ℕ) → IsPool n before → IsPool m after →
    AreKept before after away later →
    IsChiefIn before away s → IsChiefIn after later s
chief_kept n m before after away later s old new kept is =
    let stays = kept s is.ready is.own in
    record {
      ready = stays.0;
      chief = ap chief_of stays.2 ∙ is.chief ∙ sym stays.2;
      own = stays.1;
      mate = λ some.
          let was : 1 ≤ mate_of (address_at before s) = subst (λ z. 1 ≤ mate_of z) stays.2 some in
          let there = mate_kept n m before after away later s old new kept is was in
          subst (λ z. later (slot_of after (mate_of z)) ≡ false) (sym stays.2)
          (subst (λ z. later z ≡ false) (sym there.0) there.1);
    }

-- the key of a diamond reads the same entries
rank_same : (parts : PartsState) (pool : PoolState) (a : ℕ) → slot_of pool.pairs a ≡ slot_of parts.pool.pairs a →
    (1 ≤ mate_of a → slot_of pool.pairs (mate_of a) ≡ slot_of parts.pool.pairs (mate_of a)) →
    diamond_rank parts a ≡ diamond_rank (record parts { pool = pool }) a
rank_same parts pool a own other =
    let rank : ℕ → ℕ → Rank = λ t b. record { p = merging_key (entry_at parts t); tri = b } in
    let first : rank (slot_of parts.pool.pairs a) a ≡ rank (slot_of pool.pairs a) a = ap (λ t. rank t a) (sym own) in
    by_bool (nat_eq (mate_of a) 0)
    (λ none. cond-true (nat_eq (mate_of a) 0) _ _ none ∙ first ∙ sym (cond-true (nat_eq (mate_of a) 0) _ _ none))
    (λ some.
    let is : 1 ≤ mate_of a = present (mate_of a) some in
    let second : rank (slot_of parts.pool.pairs (mate_of a)) (mate_of a)
    ≡ rank (slot_of pool.pairs (mate_of a)) (mate_of a) = ap (λ t. rank t (mate_of a)) (sym (other is)) in
    cond-false (nat_eq (mate_of a) 0) _ _ some
    ∙ ap (λ z. better_of z (rank (slot_of parts.pool.pairs (mate_of a)) (mate_of a))) first
    ∙ ap (λ z. better_of (rank (slot_of pool.pairs a) a) z) second
    ∙ sym (cond-false (nat_eq (mate_of a) 0) _ _ some))
  where
    present : (m : ℕ) → nat_eq m 0 ≡ false → 1 ≤ m
    present zero none = absurd (true≢false none)
    present (suc m) none = omega arith

module _ (parts : PartsState) (pool : PoolState) (away later : ℕ → Bool) (old : IsPool parts.pool.n parts.pool.pairs)
    (new : IsPool pool.n pool.pairs)
    (is : IsRepooled parts.pool pool away later) where
  diamonds_stay : AreKept parts.pool.pairs pool.pairs away later
  diamonds_stay s ready in_place =
      let stays = is.old_ready s ready in_place in
      (stays.0, stays.1, is.same s (ready_entry parts.pool.pairs s ready) in_place)

  diamonds_were : AreKept pool.pairs parts.pool.pairs later away
  diamonds_were s ready in_place =
      let was = is.ready s ready in_place in
      (was.0, was.1, sym (is.same s (ready_entry parts.pool.pairs s was.0) was.1))

  -- an entry in its place stays one
  entry_kept : (s : ℕ) → is_entry_at parts.pool.pairs s ≡ true → away s ≡ false →
      (is_entry_at pool.pairs s ≡ true) × (later s ≡ false)
  entry_kept s entry in_place = ⊎_elim
      (λ leaf. let stays = is.old_leaf s leaf in_place in (leaf_entry pool.pairs s stays.0, stays.1))
      (λ ready. let stays = is.old_ready s ready.1 in_place in (ready_entry pool.pairs s stays.0, stays.1))
      (entry_cases parts.pool.pairs s entry)

  -- and was one
  entry_was : (s : ℕ) → is_entry_at pool.pairs s ≡ true → later s ≡ false →
      (is_entry_at parts.pool.pairs s ≡ true) × (away s ≡ false)
  entry_was s entry in_place = ⊎_elim
      (λ leaf. let was = is.leaf s leaf in_place in (leaf_entry parts.pool.pairs s was.0, was.1))
      (λ ready. let was = is.ready s ready.1 in_place in (ready_entry parts.pool.pairs s was.0, was.1))
      (entry_cases pool.pairs s entry)

  split_stays : (s : ℕ) → cond (is_leaf_at parts.pool.pairs s && not (away s)) (Some (leaf_rank parts s)) None
      ≡ cond (is_leaf_at pool.pairs s && not (later s)) (Some (leaf_rank (record parts { pool = pool }) s)) None
  split_stays s = same_cond (is_leaf_at parts.pool.pairs s && not (away s)) (is_leaf_at pool.pairs s && not (later s))
      (Some (leaf_rank parts s)) (Some (leaf_rank (record parts { pool = pool }) s)) None
      (λ test.
      let was = and_parts (is_leaf_at parts.pool.pairs s) (not (away s)) test in
      let in_place = not-true (away s) was.1 in
      let stays = is.old_leaf s was.0 in_place in
      let there = is.same s (leaf_entry parts.pool.pairs s was.0) in_place in
      let key : ℕ → Option Rank = λ z. Some (record (leaf_rank parts s) { tri = z }) in (
        and_from (is_leaf_at pool.pairs s) (not (later s)) stays.0 (not_from_false (later s) stays.1),
        ap key (sym there),
      ))
      (λ test.
      let now = and_parts (is_leaf_at pool.pairs s) (not (later s)) test in
      let was = is.leaf s now.0 (not-true (later s) now.1) in
      and_from (is_leaf_at parts.pool.pairs s) (not (away s)) was.0 (not_from_false (away s) was.1))

  merge_stays : (s : ℕ) → cond (is_chief_at parts.pool.pairs s && not (is_out parts.pool.pairs away s))
      (Some (diamond_rank parts (address_at parts.pool.pairs s))) None
      ≡ cond (is_chief_at pool.pairs s && not (is_out pool.pairs later s))
      (Some (diamond_rank (record parts { pool = pool }) (address_at pool.pairs s))) None
  merge_stays s = same_cond (is_chief_at parts.pool.pairs s && not (is_out parts.pool.pairs away s))
      (is_chief_at pool.pairs s && not (is_out pool.pairs later s))
      (Some (diamond_rank parts (address_at parts.pool.pairs s)))
      (Some (diamond_rank (record parts { pool = pool }) (address_at pool.pairs s))) None
      (λ test.
      let was : IsChiefIn parts.pool.pairs away s = chief_in parts.pool.pairs away s test in
      let a : ℕ = address_at parts.pool.pairs s in
      let stays = diamonds_stay s was.ready was.own in
      let low : 2 ≤ address_at parts.pool.pairs s = ready_live parts.pool.pairs s was.ready in
      let own : slot_of pool.pairs a ≡ slot_of parts.pool.pairs a =
      one_slot pool.n pool.pairs s a new low stays.2 ∙ sym (slot_of-at parts.pool.n parts.pool.pairs s old low) in
      let rank = rank_same parts pool a own (λ some.
      (mate_kept parts.pool.n pool.n parts.pool.pairs pool.pairs away later s old new diamonds_stay was some).0) in
      let key : Rank → Option Rank = λ z. Some z in
      let key_of : ℕ → Option Rank = λ z. Some (diamond_rank (record parts { pool = pool }) z) in (
        in_chief pool.pairs later s
            (chief_kept parts.pool.n pool.n parts.pool.pairs pool.pairs away later s old new diamonds_stay was),
        ap key rank ∙ ap key_of (sym stays.2),
      ))
      (λ test. in_chief parts.pool.pairs away s (chief_kept pool.n parts.pool.n pool.pairs parts.pool.pairs later away s
      new old diamonds_were (chief_in pool.pairs later s test)))

  due_stays : (s : ℕ) →
      cond (is_entry_at parts.pool.pairs s && not (away s)) (Some (deadline_of (entry_at parts s))) None
      ≡ cond (is_entry_at pool.pairs s && not (later s)) (Some (deadline_of (entry_at parts s))) None
  due_stays s = same_cond (is_entry_at parts.pool.pairs s && not (away s)) (is_entry_at pool.pairs s && not (later s))
      (Some (deadline_of (entry_at parts s))) (Some (deadline_of (entry_at parts s))) None
      (λ test.
      let was = and_parts (is_entry_at parts.pool.pairs s) (not (away s)) test in
      let stays = entry_kept s was.0 (not-true (away s) was.1) in
      (and_from (is_entry_at pool.pairs s) (not (later s)) stays.0 (not_from_false (later s) stays.1), refl))
      (λ test.
      let now = and_parts (is_entry_at pool.pairs s) (not (later s)) test in
      let was = entry_was s now.0 (not-true (later s) now.1) in
      and_from (is_entry_at parts.pool.pairs s) (not (away s)) was.0 (not_from_false (away s) was.1))

-- so what is in its place stays there; only entries that are in place have a stamp or are known
pub repooled_placed : (parts : PartsState) (pool : PoolState) (away later : ℕ → Bool) →
    IsPool parts.pool.n parts.pool.pairs → IsPool pool.n pool.pairs →
    IsRepooled parts.pool pool away later →
    ((s : ℕ) → away s ≡ true → ((entry_at parts s).stamped ≡ false) × ((entry_at parts s).known ≡ false)) →
    IsPlaced parts away → IsPlaced (record parts { pool = pool }) later
repooled_placed parts pool away later old new is gone placed = record {
  split = λ s. placed.split s ∙ split_stays parts pool away later old new is s;
  merge = λ s. placed.merge s ∙ merge_stays parts pool away later old new is s;
  due = λ s. placed.due s ∙ due_stays parts pool away later old new is s;
  stamped = λ s stamp. (entry_kept parts pool away later old new is s (placed.stamped s stamp)
      (false_from_ne_true (away s) (λ out. both_ways (entry_at parts s).stamped (gone s out).0 stamp))).0;
  known = λ s told. (entry_kept parts pool away later old new is s (placed.known s told)
      (false_from_ne_true (away s) (λ out. both_ways (entry_at parts s).known (gone s out).1 told))).0;
}

-- the entries that are gone left, the pool became that of after, and then the slots were listed
pub record HasMoved (before middle after : PartsState) (gone slots : List ℕ) : Type 0 where
  pub leaving : HasLeft before middle gone
  pub listing : HasPushed (record middle { pool = after.pool }) after slots
  pub settled : before.fresh ≡ []

module _ (before middle after : PartsState) (gone slots : List ℕ) (is : HasMoved before middle after gone slots) where
  -- what is kept of each slot
  pub moved_entry : (r : ℕ) →
      entry_at after r ≡ record (cond (among gone r) (gone_entry (entry_at before r)) (entry_at before r)) {
        fresh =
            among after.fresh r;
      }
  moved_entry r =
      let marked : Entry → Entry = λ e. record e { fresh = among after.fresh r } in
      is.listing.entries r ∙ ap marked (is.leaving.entries r)

  -- the slots that were listed are fresh, and no others
  pub moved_fresh : (r : ℕ) → among after.fresh r ≡ among slots r
  moved_fresh r = is.listing.fresh r ∙ ap (λ z. among z r || among slots r) (is.leaving.fresh ∙ is.settled)

  moved_out : IsPlaced before (among before.fresh) → IsPlaced middle (among gone)
  moved_out placed = placed_same middle (λ r. among before.fresh r || among gone r) (among gone)
      (λ r. sym (ap (λ z. among z r || among gone r) is.settled))
      (is.leaving.placed (among before.fresh) placed)

  -- what is gone has no stamp, and is not known
  moved_gone : (r : ℕ) → among gone r ≡ true →
      ((entry_at middle r).stamped ≡ false) × ((entry_at middle r).known ≡ false)
  moved_gone r away =
      let same : entry_at middle r ≡ gone_entry (entry_at before r) =
      is.leaving.entries r ∙ cond-true (among gone r) (gone_entry (entry_at before r)) (entry_at before r) away in
      (ap (λ (e : Entry). e.stamped) same, ap (λ (e : Entry). e.known) same)

  -- where the pool kept all else, each entry is in its place but the fresh ones
  pub moved_placed : IsPool before.pool.n before.pool.pairs → IsPool after.pool.n after.pool.pairs →
      IsRepooled before.pool after.pool (among gone) (among after.fresh) → IsPlaced before (among before.fresh) →
      IsPlaced after (among after.fresh)
  moved_placed old new repooled placed = is.listing.placed (among after.fresh)
      (repooled_placed middle after.pool (among gone) (among after.fresh)
      (subst (λ (z : PoolState). IsPool z.n z.pairs) (sym is.leaving.pool) old) new
      (subst (λ z. IsRepooled z after.pool (among gone) (among after.fresh)) (sym is.leaving.pool) repooled)
      moved_gone (moved_out placed))

-- ---- what the loop sees

-- The pool is another one, the entries that are gone are marked so, and each fresh slot has an entry.
pub record IsChanged (before after : PartsState) (gone : List ℕ) : Type 0 where
  pub old : IsPool before.pool.n before.pool.pairs
  pub new : IsPool after.pool.n after.pool.pairs
  pub n : after.pool.n ≡ before.pool.n
  pub whole : IsWhole after
  pub entries : (r : ℕ) → entry_at after r ≡ record (cond (among gone r) (gone_entry (entry_at before r))
      (entry_at before r)) { fresh = among after.fresh r }
  pub known : (r : ℕ) → (entry_at before r).known ≡ true → is_entry_at before.pool.pairs r ≡ true
  pub repooled : IsRepooled before.pool after.pool (among gone) (among after.fresh)
  pub fresh : (r : ℕ) → among after.fresh r ≡ true → is_entry_at after.pool.pairs r ≡ true

module _ (before after : PartsState) (gone : List ℕ) (is : IsChanged before after gone) where
  -- an entry that is not gone is as it was
  entry_same : (r : ℕ) → among gone r ≡ false →
      entry_at after r ≡ record (entry_at before r) { fresh = among after.fresh r }
  entry_same r stays =
      let marked : Entry → Entry = λ e. record e { fresh = among after.fresh r } in
      is.entries r ∙ ap marked (cond-false (among gone r) (gone_entry (entry_at before r)) (entry_at before r) stays)

  -- and what is gone is not known
  known_was : (r : ℕ) → (entry_at after r).known ≡ true → (among gone r ≡ false) × ((entry_at before r).known ≡ true)
  known_was r known = by_bool (among gone r)
      (λ away.
      let marked : Entry → Entry = λ e. record e { fresh = among after.fresh r } in
      let none : (entry_at after r).known ≡ false =
      ap (λ (e : Entry). e.known) (is.entries r
      ∙ ap marked (cond-true (among gone r) (gone_entry (entry_at before r)) (entry_at before r) away)) in
      absurd (both_ways (entry_at after r).known none known))
      (λ stays. (stays, sym (ap (λ (e : Entry). e.known) (entry_same r stays)) ∙ known))

  -- an entry that is not gone is not fresh
  entry_stays : (r : ℕ) → is_entry_at before.pool.pairs r ≡ true → among gone r ≡ false → among after.fresh r ≡ false
  entry_stays r entry stays =
      (entry_kept before after.pool (among gone) (among after.fresh) is.old is.new is.repooled r entry stays).1

  fresh_unknown : (r : ℕ) → among after.fresh r ≡ true → (entry_at after r).known ≡ false
  fresh_unknown r fresh = false_from_ne_true (entry_at after r).known (λ known.
      let was = known_was r known in
      both_ways (among after.fresh r) (entry_stays r (is.known r was.1) was.0) fresh)

  -- what is kept of it has the listed mark that it had
  pub listed_same : (r : ℕ) → (entry_at after r).listed ≡ (entry_at before r).listed
  listed_same r = ap (λ (e : Entry). e.listed) (is.entries r)
      ∙ cond_both (among gone r) (gone_entry (entry_at before r)) (entry_at before r)
      (λ (e : Entry). e.listed ≡ (entry_at before r).listed) (λ _. refl) (λ _. refl)

-- what is kept is near still
pub near_moved : (before after : PartsState) (gone : List ℕ) →
    ((r : ℕ) → entry_at after r ≡ record (cond (among gone r) (gone_entry (entry_at before r)) (entry_at before r))
    { fresh = among after.fresh r }) →
    ((r : ℕ) → IsNear (entry_at before r)) → (r : ℕ) → IsNear (entry_at after r)
near_moved before after gone entries near r =
    subst IsNear (sym (entries r)) (cond_both (among gone r) (gone_entry (entry_at before r)) (entry_at before r) IsNear
    (λ _. near r) (λ _. near r))

-- The pool changed, and then some slots, of entries before and after, had back what was kept of them. What is fresh in
-- the end is an entry and was none.
pub record IsKept (before changed after : PartsState) (gone : List ℕ) (kept : ℕ → Bool) : Type 0 where
  pub change : IsChanged before changed gone
  pub pool : after.pool ≡ changed.pool
  pub distinct : IsDistinct nat_eq after.fresh
  pub others : (r : ℕ) → kept r ≡ false →
      (entry_at after r ≡ entry_at changed r) × (among after.fresh r ≡ among changed.fresh r)
  pub own : (r : ℕ) → kept r ≡ true → (entry_at after r ≡ entry_at before r) × (among after.fresh r ≡ false)
  pub entry : (r : ℕ) → kept r ≡ true →
      (is_entry_at before.pool.pairs r ≡ true) × (address_at changed.pool.pairs r ≡ address_at before.pool.pairs r)
  pub new : (r : ℕ) → kept r ≡ false → among changed.fresh r ≡ true →
      IsEntry before.pool.n (among (pool_members before.pool)) (address_at changed.pool.pairs r) → ⊥

-- an entry with another mark
abbrev with_mark : Entry → Bool → Entry
with_mark e b = record e { fresh = b }

module _ (before changed after : PartsState) (gone : List ℕ) (kept : ℕ → Bool)
    (is : IsKept before changed after gone kept) where
  -- the same with the pool that is equal to its
  abbrev there : PartsState
  there = record after { pool = changed.pool }

  -- a fresh slot was fresh after the change, and had nothing back
  fresh_was : (r : ℕ) → among after.fresh r ≡ true → (kept r ≡ false) × (among changed.fresh r ≡ true)
  fresh_was r fresh = by_bool (kept r)
      (λ own. absurd (both_ways (among after.fresh r) (is.own r own).1 fresh))
      (λ other. (other, sym (is.others r other).1 ∙ fresh))

  -- an entry that stood at this slot and is kept there is as it was
  as_before : (a r : ℕ) (b : Bool) → slot_of changed.pool.pairs a ≡ r → is_entry_at before.pool.pairs r ≡ true →
      address_at before.pool.pairs r ≡ a →
      entry_at after r ≡ with_mark (entry_at before r) b →
      IsEntry changed.pool.n (among (pool_members before.pool)) a × IsSame (seen_parts before) (seen_parts there) a
  as_before a r b here entry at same =
      let low : 2 ≤ a = subst (λ z. 2 ≤ z) at (entry_live before.pool.pairs r entry) in
      let was : slot_of before.pool.pairs a ≡ r = one_slot before.pool.n before.pool.pairs r a is.change.old low at in
      let own : IsEntry before.pool.n (among (pool_members before.pool)) a = subst (λ z. IsEntry before.pool.n
      (among (pool_members before.pool)) z) at (entry_of-at before.pool r is.change.old entry) in
      let same_entry : entry_at after (slot_of changed.pool.pairs a)
      ≡ with_mark (entry_at before (slot_of before.pool.pairs a)) b =
      ap (entry_at after) here ∙ same ∙ ap (λ t. with_mark (entry_at before t) b) (sym was) in (
        subst (λ z. IsEntry z (among (pool_members before.pool)) a) (sym is.change.n) own,
        record {
          known = ap (λ (e : Entry). e.known) same_entry;
          exact = ap (λ (e : Entry). e.exact) same_entry;
          stamp = ap (λ (e : Entry). stamp_in e) same_entry;
        },
      )

  -- an entry that is not fresh was one, and is as it was
  kept_seen : (a : ℕ) → IsEntry changed.pool.n (among (pool_members changed.pool)) a →
      among (seen_parts there).fresh a ≡ false →
      IsEntry changed.pool.n (among (pool_members before.pool)) a × IsSame (seen_parts before) (seen_parts there) a
  kept_seen a entry none =
      let at = entry_at-of changed.pool a is.change.new entry in
      let r : ℕ = slot_of changed.pool.pairs a in
      let out : among after.fresh r ≡ false = false_from_ne_true (among after.fresh r) (λ fresh.
      both_ways (among (seen_parts there).fresh a) none (subst (λ z. among (seen_parts there).fresh z ≡ true) at.1
      (seen_in changed.pool.pairs after.fresh r fresh))) in
      by_bool (kept r)
      (λ own.
      let was = is.entry r own in
      as_before a r (entry_at before r).fresh refl was.0 (sym was.1 ∙ at.1) (is.own r own).0)
      (λ other.
      let rest = is.others r other in
      let was = entry_was before changed.pool (among gone)
      (among changed.fresh) is.change.old is.change.new is.change.repooled r at.0 (sym rest.1 ∙ out) in
      as_before a r (among changed.fresh r) refl was.0 (sym (is.change.repooled.same r was.0 was.1) ∙ at.1)
      (rest.0 ∙ entry_same before changed gone is.change r was.1))

  -- what is fresh is an entry and was none, and is not known
  fresh_seen : (a : ℕ) → IsTrue (among (seen_parts there).fresh a) →
      IsNewEntry changed.pool.n (among (pool_members before.pool)) (among (pool_members changed.pool)) a
      × ((entry_at after (slot_of changed.pool.pairs a)).known ≡ false)
  fresh_seen a h =
      let found = in_seen changed.pool.pairs after.fresh a h in
      let r : ℕ = found.0 in
      let was = fresh_was r found.1 in
      let entry = is.change.fresh r was.1 in
      let low : 2 ≤ a = subst (λ z. 2 ≤ z) found.2 (entry_live changed.pool.pairs r entry) in
      let here = one_slot changed.pool.n changed.pool.pairs r a is.change.new low found.2 in (
        (
          subst (λ z. IsEntry changed.pool.n (among (pool_members changed.pool)) z) found.2
              (entry_of-at changed.pool r is.change.new entry),
          λ old. is.new r was.0 was.1
              (subst (λ z. IsEntry before.pool.n (among (pool_members before.pool)) z) (sym found.2)
              (subst (λ z. IsEntry z (among (pool_members before.pool)) a) is.change.n old)),
        ),
        ap (λ t. (entry_at after t).known) here ∙ ap (λ (e : Entry). e.known) (is.others r was.0).0
            ∙ fresh_unknown before changed gone is.change r was.1,
      )

  renewed_there : IsRenewed (seen_parts before) (seen_parts there)
  renewed_there = record {
    distinct = seen_distinct changed.pool.n changed.pool.pairs after.fresh is.change.new is.distinct
        (λ r h. entry_live changed.pool.pairs r (is.change.fresh r (fresh_was r h).1));
    each = λ a h. (fresh_seen a h).0;
    unknown = λ a h. (fresh_seen a h).1;
    kept = kept_seen;
  }

  -- so the fresh entries are new ones, and all others are as they were
  pub kept_renewed : IsRenewed (seen_parts before) (seen_parts after)
  kept_renewed = subst (λ (z : PoolState). IsRenewed (seen_parts before) (seen_parts (record after { pool = z })))
      (sym is.pool) renewed_there
