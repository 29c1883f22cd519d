-- A mesh between frames, by the parts that it is made of.
use Rattle.std.proofs.Common.{◌≡◌, ℕ, ◌+◌, ◌≤◌, ◌^◌, ◌<◌, ◌&&◌, Bool, true, false, cond, not, nat_eq, nat_lt, List, []}
use Rattle.std.proofs.Common.{map, reverse, length, get_or, get_or-set_same, get_or-set_other, Option, None, Some}
use Rattle.std.proofs.Common.{option_map, slice_index, slice_index_or, slice_set, refl, sym, ◌∙◌, ap, subst, arith}
use Rattle.std.proofs.Common.{⊎_elim}
use Rattle.std.proofs.lemmas.Bool.{cases_eq, eq-eqb, ne_eqb, and_parts, ltb-true, false_from_ne_true}
use Rattle.std.proofs.lemmas.Bool.{true_from_ne_false}
use Rattle.std.proofs.Math.ListN.{get_or-map}
use Rattle.std.proofs.lemmas.Option.{none-some}
use Rattle.mesh_defs.specs.ClosedSet.{among}
use Rattle.bintree_addr.specs.declared.rank.Rank.{Rank}
use Rattle.mesh_laws.specs.Edge.{mate_of}
use Rattle.mesh_laws.specs.Slots.{address_at, split_set, IsLive, IsPool}
use Rattle.mesh_laws.proofs.SlotLemmas.{pair_of, set-has_children}
use Rattle.mesh_laws.specs.Deferred.{IsEntry}
use Rattle.mesh_laws.specs.Stamps.{Stamp, Readings, StampsHold}
use Rattle.deferred_loop.specs.Seen.{IsQuiet}
use Rattle.deferred_loop.specs.Log.{Log}
use Rattle.roam_mesh.specs.Mesh.{MeshState, slot_of, stamp_of, pool_members, with_expired}
use Rattle.roam_mesh.specs.Mesh.{OnlyEntriesStamped, seen_of}
use Rattle.roam_mesh.specs.Parts.{PartsState, entry_at, entry_of, blank, best_of, merging_key, better_of, deadline_of}
use Rattle.roam_mesh.specs.Parts.{stamp_in, seen_parts, mesh_of, is_leaf_at, is_chief_at, is_entry_at, is_out, IsParts}
use Rattle.roam_mesh.specs.Parts.{IsWhole}
use Rattle.roam_mesh.specs.Change.{expired_at}
use Rattle.roam_mesh.specs.declared.entry.Entry.{Entry}
use Rattle.roam_mesh.proofs.PlaceLemmas.{at-slot_of, one_slot, live_below}
use Rattle.roam_mesh.proofs.RoleLemmas.{entry_of-at, entry_at-of, entry_live}
use Rattle.std.proofs.Math.Path.{fun_ext}
use Rattle.deferred_loop.specs.Choice.{Priorities}
use Rattle.deferred_loop.specs.Promise.{IsAtMost, IsAtLeast, AreStampsGood}

-- the stamp of an address is that of its slot's entry
stamp_of-parts : (parts : PartsState) (log : Log) (a : ℕ)
    → stamp_of (mesh_of parts log) a ≡ stamp_in (entry_at parts (slot_of parts.pool.pairs a))
stamp_of-parts parts log a = get_or-map stamp_in parts.entries (slot_of parts.pool.pairs a) blank

-- parts of which nothing is kept are quiet
pub blank_quiet : (parts : PartsState) → ((s : ℕ) → entry_at parts s ≡ blank) → parts.fresh ≡ [] →
    IsQuiet (seen_parts parts)
blank_quiet parts nothing none = record {
  known = λ a. ap (λ e. e.known) (nothing (slot_of parts.pool.pairs a));
  fresh = ap (λ slots. reverse (map (address_at parts.pool.pairs) slots)) none;
}

-- and no triangle has a stamp
pub blank_stamps : (parts : PartsState) (log : Log) → ((s : ℕ) → entry_at parts s ≡ blank) → (a : ℕ) →
    stamp_of (mesh_of parts log) a ≡ None
blank_stamps parts log nothing a = stamp_of-parts parts log a ∙ ap stamp_in (nothing (slot_of parts.pool.pairs a))

-- in a pool that holds but the square's halves nothing is split
base_low : (test : Bool) → cond test 0 1 ≤ 1
base_low true = omega arith
base_low false = omega arith

-- no triangle of the two halves of the square is split
pub base_set : (pairs : List ℕ) → ((i : ℕ) → slice_index pairs i ≡ cond (nat_lt 0 i) 0 1) → (a : ℕ) →
    split_set pairs a ≡ false
base_set pairs base a = false_from_ne_true (split_set pairs a) (λ split.
    let big : 1 < a = ltb-true 1 a (and_parts (nat_lt 1 a) (among pairs a) split).0 in
    let pair = pair_of pairs a (set-has_children pairs a split) in
    let low : slice_index pairs pair.0 ≤ 1 = subst (λ z. z ≤ 1) (sym (base pair.0)) (base_low (nat_lt 0 pair.0)) in
    let own : slice_index pairs pair.0 ≡ a = pair.2 in
    let e : ⊥ = omega arith in e)

-- only what is stamped has a stamp
stamped_by : (e : Entry) (stamp : Stamp) → stamp_in e ≡ Some stamp → e.stamped ≡ true
stamped_by e stamp there = true_from_ne_false e.stamped (λ none.
    none-some stamp (sym (ap (λ b. cond b
    (Some (record {
      odometer = e.odometer;
      slack = e.slack;
      upper = e.upper;
      lower = e.lower;
      expired = e.expired;
    })) None) none) ∙ there))

-- so only entries have one
pub placed_only : (parts : PartsState) (log : Log) → IsParts parts → OnlyEntriesStamped (mesh_of parts log)
placed_only parts log is a stamp there =
    let s = slot_of parts.pool.pairs a in
    let stamped = stamped_by (entry_at parts s) stamp (sym (stamp_of-parts parts log a) ∙ there) in
    let entry = is.placed.stamped s stamped in
    subst (λ z. IsEntry parts.pool.n (among (pool_members parts.pool)) z)
    (at-slot_of parts.pool.pairs s a (entry_live parts.pool.pairs s entry) refl)
    (entry_of-at parts.pool s is.pool entry)

-- what does not read whether a stamp has expired reads the same
expired_read : {X : Type 0} (read : Entry → X) → ((e : Entry) → read (record e { expired = true }) ≡ read e) →
    (parts : PartsState) (s r : ℕ) →
    s < length parts.entries → read (entry_at (expired_at parts s) r) ≡ read (entry_at parts r)
expired_read read same parts s r below = ⊎_elim
    (λ own. ap read
    (ap (λ z. get_or (slice_set parts.entries s (record (entry_at parts s) { expired = true })) z blank) (sym own)
    ∙ get_or-set_same parts.entries s (record (entry_at parts s) { expired = true }) blank below)
    ∙ same (entry_at parts s)
    ∙ ap (λ z. read (entry_at parts z)) own)
    (λ other. ap read
    (get_or-set_other parts.entries s r (record (entry_at parts s) { expired = true }) blank (λ z. other (sym z))))
    (cases_eq s r)

-- an expired stamp is due at every odometer
expired_due : (e : Entry) → deadline_of (record e { expired = true }) ≡ 0
expired_due e = by_stamped e.stamped
  where
    by_stamped : (b : Bool) → cond (b && false) (e.odometer + e.slack + 1) 0 ≡ 0
    by_stamped true = refl
    by_stamped false = refl

expired_key : (test : Bool) (d : ℕ) → option_map {U = ℕ} (λ _. 0) (cond test (Some d) None) ≡ cond test (Some 0) None
expired_key true d = refl
expired_key false d = refl

-- to expire a slot's stamp leaves all in its place
pub expired_parts : (parts : PartsState) (s : ℕ) → IsWhole parts → IsLive parts.pool.pairs s → IsParts parts →
    IsParts (expired_at parts s)
expired_parts parts s whole live is =
    let places = live_below parts.pool.pairs s live in
    let entries = whole.entries in
    let dues = whole.due in
    let below : s < length parts.entries = omega arith in
    let pairs = parts.pool.pairs in
    let test : ℕ → Bool = λ r. is_entry_at pairs r && not (among parts.fresh r) in
    record {
      pool = is.pool;
      near = λ r. (
        subst (λ z. z ≤ 2 ^ 62) (sym (expired_read (λ e. e.odometer) (λ e. refl) parts s r below)) (is.near r).0,
        subst (λ z. z ≤ 2 ^ 32) (sym (expired_read (λ e. e.slack) (λ e. refl) parts s r below)) (is.near r).1,
      );
      placed = record {
        split = λ r. is.placed.split r
            ∙ ap (λ p. cond (is_leaf_at pairs r && not (among parts.fresh r))
            (Some (record { p = p; tri = address_at pairs r })) None)
            (sym (expired_read best_of (λ e. refl) parts s r below));
        merge = λ r.
            let a = address_at pairs r in
            let rank : ℕ → ℕ → Rank = λ x y. cond (nat_eq (mate_of a) 0) (record { p = x; tri = a })
            (better_of (record { p = x; tri = a }) (record { p = y; tri = mate_of a })) in
            is.placed.merge r
            ∙ ap (λ x. cond (is_chief_at pairs r && not (is_out pairs (among parts.fresh) r))
            (Some (rank x (merging_key (entry_of parts (mate_of a))))) None)
            (sym (expired_read merging_key (λ e. refl) parts s (slot_of pairs a) below))
            ∙ ap (λ y. cond (is_chief_at pairs r && not (is_out pairs (among parts.fresh) r))
            (Some (rank (merging_key (entry_of (expired_at parts s) a)) y)) None)
            (sym (expired_read merging_key (λ e. refl) parts s (slot_of pairs (mate_of a)) below));
        due = λ r. ⊎_elim
            (λ own. subst (λ z. slice_index_or (expired_at parts s).due z None ≡ cond (test z)
            (Some (deadline_of (entry_at (expired_at parts s) z))) None) own
            (get_or-set_same parts.due s (option_map {U = ℕ} (λ _. 0) (slice_index_or parts.due s None)) None
            (omega arith)
            ∙ ap (option_map {U = ℕ} (λ _. 0)) (is.placed.due s) ∙ expired_key (test s) (deadline_of (entry_at parts s))
            ∙ ap (λ d. cond (test s) (Some d) None)
            (sym (ap deadline_of
            (get_or-set_same parts.entries s (record (entry_at parts s) { expired = true }) blank below)
            ∙ expired_due (entry_at parts s)))))
            (λ other. get_or-set_other parts.due s r
            (option_map {U = ℕ} (λ _. 0) (slice_index_or parts.due s None)) None
            (λ z. other (sym z))
            ∙ is.placed.due r
            ∙ ap (λ e. cond (test r) (Some (deadline_of e)) None)
            (sym (get_or-set_other parts.entries s r
            (record (entry_at parts s) { expired = true }) blank (λ z. other (sym z)))))
            (cases_eq s r);
        stamped = λ r h. is.placed.stamped r (sym (expired_read (λ e. e.stamped) (λ e. refl) parts s r below) ∙ h);
        known = λ r h. is.placed.known r (sym (expired_read (λ e. e.known) (λ e. refl) parts s r below) ∙ h);
      };
      entries = is.entries;
    }

expired_stamp : (e : Entry) → stamp_in (record e { expired = true }) ≡ option_map with_expired (stamp_in e)
expired_stamp e = by_stamped e.stamped
  where
    by_stamped : (b : Bool) → cond b (Some
        (record { odometer = e.odometer; slack = e.slack; upper = e.upper; lower = e.lower; expired = true })) None
        ≡ option_map with_expired (cond b (Some
        (record {
          odometer = e.odometer;
          slack = e.slack;
          upper = e.upper;
          lower = e.lower;
          expired = e.expired;
        })) None)
    by_stamped true = refl
    by_stamped false = refl

-- one choice for the address t, another for all others
chosen : {X : Type 0} (t a : ℕ) (x y z : X) → (t ≡ a → x ≡ y) → ((t ≡ a → ⊥) → x ≡ z) → x ≡ cond (nat_eq t a) y z
chosen t a x y z same other = ⊎_elim
    (λ own. same own ∙ sym (ap (λ b. cond b y z) (eq-eqb t a own)))
    (λ apart. other apart ∙ sym (ap (λ b. cond b y z) (ne_eqb t a apart)))
    (cases_eq t a)

-- and expires the stamp of its triangle alone
pub expired_stamps : (parts : PartsState) (log : Log) (s t : ℕ) → IsWhole parts → IsParts parts
    → IsLive parts.pool.pairs s → address_at parts.pool.pairs s ≡ t → (a : ℕ) →
    stamp_of (mesh_of (expired_at parts s) log) a ≡ cond (nat_eq t a)
    (option_map with_expired (stamp_of (mesh_of parts log) a)) (stamp_of (mesh_of parts log) a)
expired_stamps parts log s t whole is live at a =
    let places = live_below parts.pool.pairs s live in
    let entries = whole.entries in
    let below : s < length parts.entries = omega arith in
    let pairs = parts.pool.pairs in
    chosen t a (stamp_of (mesh_of (expired_at parts s) log) a)
    (option_map with_expired (stamp_of (mesh_of parts log) a)) (stamp_of (mesh_of parts log) a)
    (λ own.
    let low : 2 ≤ a = subst (λ z. 2 ≤ z) (at ∙ own) live in
    let slot : slot_of pairs a ≡ s = one_slot parts.pool.n pairs s a is.pool low (at ∙ own) in
    stamp_of-parts (expired_at parts s) log a
    ∙ ap (λ z. stamp_in (entry_at (expired_at parts s) z)) slot
    ∙ ap stamp_in (get_or-set_same parts.entries s (record (entry_at parts s) { expired = true }) blank below)
    ∙ expired_stamp (entry_at parts s)
    ∙ ap (λ z. option_map with_expired (stamp_in (entry_at parts z))) (sym slot)
    ∙ ap (option_map with_expired) (sym (stamp_of-parts parts log a)))
    (λ apart.
    stamp_of-parts (expired_at parts s) log a
    ∙ ap stamp_in (get_or-set_other parts.entries s (slot_of pairs a)
    (record (entry_at parts s) { expired = true }) blank
    (λ same. apart (sym at ∙ at-slot_of pairs s a live same)))
    ∙ sym (stamp_of-parts parts log a))

-- and where the triangle is not live nothing changes
pub dead_stamps : (mesh : MeshState) (t : ℕ) → IsPool mesh.pool.n mesh.pool.pairs → OnlyEntriesStamped mesh
    → ((s : ℕ) → IsLive mesh.pool.pairs s → address_at mesh.pool.pairs s ≡ t → ⊥) → (a : ℕ) →
    stamp_of mesh a ≡ cond (nat_eq t a) (option_map with_expired (stamp_of mesh a)) (stamp_of mesh a)
dead_stamps mesh t pool only dead a =
    chosen t a (stamp_of mesh a) (option_map with_expired (stamp_of mesh a)) (stamp_of mesh a)
    (λ own. let none = nothing own (stamp_of mesh a) refl in none ∙ sym (ap (option_map with_expired) none))
    (λ apart. refl)
  where
    nothing : t ≡ a → (stamp : Option Stamp) → stamp_of mesh a ≡ stamp → stamp_of mesh a ≡ None
    nothing own None is = is
    nothing own (Some stamp) is =
        let there = entry_at-of mesh.pool a pool (only a stamp is) in
        absurd (dead (slot_of mesh.pool.pairs a)
        (entry_live mesh.pool.pairs (slot_of mesh.pool.pairs a) there.0) (there.1 ∙ sym own))

-- ---- a mesh between frames, as the loop sees it

-- its stamps are those of the parts
seen_stamps : (parts : PartsState) (log : Log) → (seen_parts parts).stamps ≡ stamp_of (mesh_of parts log)
seen_stamps parts log = fun_ext (λ a. sym (stamp_of-parts parts log a))

-- stamps that hold between frames hold as the loop sees them
pub stamps_hold : (priority : ℕ → ℕ) (odometer : ℕ) (parts : PartsState) (log : Log)
    → StampsHold priority odometer (stamp_of (mesh_of parts log))
    → StampsHold priority odometer (seen_parts parts).stamps
stamps_hold priority odometer parts log hold = subst (StampsHold priority odometer) (sym (seen_stamps parts log)) hold

-- what the loop takes at most is said of the mesh between frames
pub at_most : (priorities : Priorities) (readings : Readings) (odometer : ℕ) (parts : PartsState) (log : Log)
    (budget steps count more : ℕ) →
    IsAtMost priorities readings odometer (seen_parts parts) budget steps count more
    → IsAtMost priorities readings odometer (seen_of (mesh_of parts log)) budget steps count more
at_most priorities readings odometer parts log budget steps count more most =
    subst (λ (stamps : ℕ → Option Stamp). IsAtMost priorities readings odometer
    (record (seen_of (mesh_of parts log)) { stamps = stamps }) budget steps count more)
    (seen_stamps parts log) most

-- and what it takes at least
pub at_least : (before after : PartsState) (old new : Log) (count more : ℕ)
    → IsAtLeast (seen_parts before) (seen_parts after) count more
    → IsAtLeast (seen_of (mesh_of before old)) (seen_of (mesh_of after new)) count more
at_least before after old new count more least =
    subst (λ (stamps : ℕ → Option Stamp). IsAtLeast (record (seen_of (mesh_of before old)) { stamps = stamps })
    (seen_of (mesh_of after new)) count more) (seen_stamps before old)
    (subst (λ (stamps : ℕ → Option Stamp). IsAtLeast (seen_parts before)
    (record (seen_of (mesh_of after new)) { stamps = stamps }) count more) (seen_stamps after new) least)

-- and that its stamps are good
pub stamps_good : (readings : Readings) (odometer : ℕ) (before after : PartsState) (old new : Log)
    → AreStampsGood readings odometer (seen_parts before) (seen_parts after) →
    AreStampsGood readings odometer (seen_of (mesh_of before old)) (seen_of (mesh_of after new))
stamps_good readings odometer before after old new good =
    subst (λ (stamps : ℕ → Option Stamp). AreStampsGood readings odometer
    (record (seen_of (mesh_of before old)) { stamps = stamps }) (seen_of (mesh_of after new)))
    (seen_stamps before old)
    (subst (λ (stamps : ℕ → Option Stamp). AreStampsGood readings odometer (seen_parts before)
    (record (seen_of (mesh_of after new)) { stamps = stamps })) (seen_stamps after new) good)
