-- Leaves patched, at and below a triangle.
use Rattle.std.proofs.Common.{◌≡◌, ℕ, zero, suc, ◌+◌, ◌-◌, ◌*◌, ◌≤◌, Bool, true, false, List, [], ◌∷◌, ◌++◌, length}
use Rattle.std.proofs.Common.{take, drop, get_or, refl, sym, ◌∙◌, ap, subst, arith, ⊎_elim, append_assoc, append-nil}
use Rattle.std.proofs.lemmas.Bool.{cases_Bool, both_ways, eq-eqb}
use Rattle.std.proofs.lemmas.List.{take_at, drop_at}
use Rattle.mesh_defs.specs.Triangle.{level_of}
use Rattle.mesh_defs.specs.ClosedSet.{leaves_under, leaves_of}
use Rattle.mesh_defs.proofs.ListLemmas.{IsIn}
use Rattle.bintree_laws.proofs.LevelLemmas.{level_of-left, level_of-right, level_of-root}
use Rattle.mesh_laws.specs.Slots.{address_at, split_set, IsLive}
use Rattle.mesh_laws.proofs.LeafLemmas.{leaves_under-split, leaves_under-whole}
use Rattle.mesh_laws.proofs.SizeLemmas.{true-under}
use Rattle.mesh_arrays.specs.Order.{run_length, begins_with}
use Rattle.mesh_arrays.specs.Below.{is_at_or_below}
use Rattle.mesh_arrays.specs.ListChange.{alone, IsChange}
use Rattle.mesh_arrays.specs.Walk.{WalkState, AreUntouched, IsReady, IsPatched, IsWalkBegun}
use Rattle.mesh_arrays.proofs.SlotLemmas.{leaves_halves}
use Rattle.mesh_arrays.proofs.ListOrderLemmas.{AreHalved, halved, run-own, run-behind, run-end, begins-in}
use Rattle.mesh_arrays.proofs.UnderLemmas.{leaves-some, leaves-within, leaves-above, leaves-same, leaves-apart}
use Rattle.mesh_arrays.proofs.UnderLemmas.{halves-apart, halves_meet, leaves-shared}
use Rattle.mesh_arrays.proofs.ListChangeLemmas.{alone-self, alone-apart, alone-both, shared, shared-both, alone-alone}

-- what is to be read

-- the old leaves at and below t, and what follows
pub record IsRead (t : ℕ) (own more rest : List ℕ) : Type 0 where
  pub count : run_length t rest ≡ length own
  pub taken : take (run_length t rest) rest ≡ own
  pub dropped : drop (run_length t rest) rest ≡ more

-- where what follows does not begin before the end of t, the run of t is just the old leaves at and below t
pub read_own : (levels : ℕ) (before : ℕ → Bool) (t : ℕ) (more rest : List ℕ) → 2 ≤ t → level_of t + levels ≤ 28 →
    rest ≡ leaves_under levels before t ++ more → run_length t more ≡ 0 →
    IsRead t (leaves_under levels before t) more rest
read_own levels before t more rest low deep listed apart =
    let own : List ℕ = leaves_under levels before t in
    let count : run_length t rest ≡ length own =
    ap (run_length t) listed ∙ run-own t own more (λ b is. (leaves-within levels before t low deep b is).1) apart in
    record {
      count = count;
      taken = ap (λ k. take k rest) count ∙ ap (take (length own)) listed ∙ take_at own more (length own) refl;
      dropped = ap (λ k. drop k rest) count ∙ ap (drop (length own)) listed ∙ drop_at own more (length own) refl;
    }

-- a list that begins with t has no other old leaf there
pub begins_leaf : (levels : ℕ) (before : ℕ → Bool) (t : ℕ) (more rest : List ℕ) → 2 ≤ t →
    rest ≡ leaves_under levels before t ++ more →
    begins_with t rest ≡ true → leaves_under levels before t ≡ t ∷ []
begins_leaf zero before t more rest low listed begins = refl
begins_leaf (suc levels) before t more rest low listed begins = ⊎_elim
    (λ split.
    let own : List ℕ = leaves_under (suc levels) before t in
    let is : IsIn t own =
    begins-in t own more (leaves-some (suc levels) before t) (sym (ap (begins_with t) listed) ∙ begins) in
    absurd (let above = leaves-above (suc levels) before t t (omega arith) (omega arith) split is in omega arith))
    (λ whole. leaves_under-whole (suc levels) before t whole)
    (cases_Bool (before t))

-- and one that does not has the old leaves of its children
pub begins_split : (levels : ℕ) (before : ℕ → Bool) (t : ℕ) (more rest : List ℕ) →
    rest ≡ leaves_under levels before t ++ more →
    begins_with t rest ≡ false → (1 ≤ levels) × (before t ≡ true)
begins_split zero before t more rest listed begins =
    absurd (both_ways (begins_with t rest) begins (ap (begins_with t) listed ∙ eq-eqb t t refl))
begins_split (suc levels) before t more rest listed begins = ⊎_elim
    (λ split. (omega arith, split))
    (λ whole. absurd (both_ways (begins_with t rest) begins
    (ap (begins_with t) (listed ∙ ap (λ xs. xs ++ more) (leaves_under-whole (suc levels) before t whole))
    ∙ eq-eqb t t refl)))
    (cases_Bool (before t))

module _ (pairs : List ℕ) (touched : List Bool) (levels t : ℕ) (w : WalkState) (low : 2 ≤ t)
    (deep : level_of t + levels ≤ 28)
    (ready : IsReady pairs touched levels t w.rest) where
  abbrev own : List ℕ
  own = leaves_under levels ready.before t

  abbrev now : List ℕ
  now = leaves_under levels (split_set pairs) t

  read : IsRead t own ready.more w.rest
  read = read_own levels ready.before t ready.more w.rest low deep ready.listed ready.apart

  -- how many old leaves there are
  pub own_same : AreUntouched pairs touched ready.before → (s : ℕ) → IsLive pairs s → address_at pairs s ≡ t →
      get_or touched s true ≡ false → own ≡ now
  own_same untouched s live is unmarked = leaves-same levels ready.before (split_set pairs) t low
      (λ b under. untouched s live unmarked b
      (subst (λ k. is_at_or_below k b ≡ true) (sym is) (true-under t b low under)))

  -- below a slot without a mark all stays: so many there are
  pub kept_room : own ≡ now → run_length t w.rest ≡ length now
  kept_room same = read.count ∙ ap length same

  -- and this is the patch
  pub patched_kept : (after : WalkState) → own ≡ now →
      after ≡ record w
      { leaves = w.leaves ++ take (run_length t w.rest) w.rest; rest = drop (run_length t w.rest) w.rest } →
      IsPatched now t w after
  patched_kept after same e =
      let taken : take (run_length t w.rest) w.rest ≡ now = read.taken ∙ same in
      rw e (record {
        leaves = ap (λ xs. w.leaves ++ xs) taken;
        rest = refl;
        gone = sym (ap (λ xs. w.gone ++ alone xs now) taken
            ∙ ap (λ xs. w.gone ++ xs) (alone-self now) ∙ append-nil w.gone);
        come = sym (ap (λ xs. w.come ++ alone now xs) taken
            ∙ ap (λ xs. w.come ++ xs) (alone-self now) ∙ append-nil w.come);
        touched = refl;
        most = refl;
      })

  -- a leaf that was one stays
  pub patched_leaf_stays : (after : WalkState) → now ≡ t ∷ [] → begins_with t w.rest ≡ true →
      after ≡ record w { leaves = w.leaves ++ t ∷ []; rest = drop 1 w.rest } → IsPatched now t w after
  patched_leaf_stays after leaf begins e =
      let mine : own ≡ t ∷ [] = begins_leaf levels ready.before t ready.more w.rest low ready.listed begins in
      let one : run_length t w.rest ≡ 1 = read.count ∙ ap length mine in
      let same : own ≡ now = mine ∙ sym leaf in
      patched_kept after same
      (e ∙ ap (λ xs. record w { leaves = w.leaves ++ xs; rest = drop 1 w.rest }) (sym (read.taken ∙ mine))
      ∙ ap (λ k. record w { leaves = w.leaves ++ take (run_length t w.rest) w.rest; rest = drop k w.rest }) (sym one))

  -- one that was split comes for what was below it
  pub patched_leaf_comes : (after : WalkState) → now ≡ t ∷ [] → begins_with t w.rest ≡ false →
      after ≡ record w {
        leaves = w.leaves ++ t ∷ [];
        rest = drop (run_length t w.rest) w.rest;
        gone = w.gone ++ take (run_length t w.rest) w.rest;
        come = w.come ++ t ∷ [];
      } → IsPatched now t w after
  patched_leaf_comes after leaf begins e =
      let split = begins_split levels ready.before t ready.more w.rest ready.listed begins in
      let apart : (b : ℕ) → IsIn b own → IsIn b (t ∷ []) → ⊥ = λ b is other. ⊎_elim
      (λ (same : t ≡ b). let above = leaves-above levels ready.before t b (omega arith) split.0 split.1 is in
      absurd (omega arith)) (λ none. none) other in
      let taken : take (run_length t w.rest) w.rest ≡ own = read.taken in
      let left : alone (take (run_length t w.rest) w.rest) now ≡ take (run_length t w.rest) w.rest =
      ap (λ xs. alone xs now) taken ∙ ap (alone own) leaf ∙ alone-apart own (t ∷ []) apart ∙ sym taken in
      let new : alone now (take (run_length t w.rest) w.rest) ≡ t ∷ [] =
      ap (alone now) taken ∙ ap (λ xs. alone xs own) leaf ∙ alone-apart (t ∷ []) own (λ b one two. apart b two one) in
      rw e (record {
        leaves = ap (λ xs. w.leaves ++ xs) (sym leaf);
        rest = refl;
        gone = ap (λ xs. w.gone ++ xs) (sym left);
        come = ap (λ xs. w.come ++ xs) (sym new);
        touched = refl;
        most = refl;
      })

  -- a leaf before that is split now goes, and what is below it comes
  pub patched_split_comes : (after : WalkState) → 1 ≤ levels → split_set pairs t ≡ true → begins_with t w.rest ≡ true →
      after ≡ record w {
        leaves = w.leaves ++ now;
        rest = drop 1 w.rest;
        gone = w.gone ++ take 1 w.rest;
        come = w.come ++ now;
      } → IsPatched now t w after
  patched_split_comes after some split begins e =
      let mine : own ≡ t ∷ [] = begins_leaf levels ready.before t ready.more w.rest low ready.listed begins in
      let one : run_length t w.rest ≡ 1 = read.count ∙ ap length mine in
      let taken : take (run_length t w.rest) w.rest ≡ t ∷ [] = read.taken ∙ mine in
      let apart : (b : ℕ) → IsIn b now → IsIn b (t ∷ []) → ⊥ = λ b is other. ⊎_elim
      (λ (same : t ≡ b). let above = leaves-above levels (split_set pairs) t b (omega arith) some split is in
      absurd (omega arith)) (λ none. none) other in
      let left : alone (take (run_length t w.rest) w.rest) now ≡ take 1 w.rest =
      ap (λ xs. alone xs now) taken ∙ alone-apart (t ∷ []) now (λ b x y. apart b y x) ∙ sym taken
      ∙ ap (λ k. take k w.rest) one in
      let new : alone now (take (run_length t w.rest) w.rest) ≡ now =
      ap (alone now) taken ∙ alone-apart now (t ∷ []) apart in
      rw e (record {
        leaves = refl;
        rest = ap (λ k. drop k w.rest) (sym one);
        gone = ap (λ xs. w.gone ++ xs) (sym left);
        come = ap (λ xs. w.come ++ xs) (sym new);
        touched = refl;
        most = refl;
      })

  -- the children of one that is split before and now: what is read for the left one,
  pub ready_left : 1 ≤ levels → ready.before t ≡ true → IsReady pairs touched (levels - 1) (2 * t) w.rest
  ready_left some split =
      let h : AreHalved t = halved t low (omega arith) in
      let e1 = h.left_end in let e2 = h.right_first in
      let right = level_of-right t low in
      let others : List ℕ = leaves_under (levels - 1) ready.before (2 * t + 1) in
      record {
        before = ready.before;
        more = others ++ ready.more;
        listed = ready.listed ∙ ap (λ xs. xs ++ ready.more) (leaves_under-split levels ready.before t some split)
            ∙ append_assoc (leaves_under (levels - 1) ready.before (2 * t)) others ready.more;
        apart = run-behind (2 * t) others ready.more (leaves-some (levels - 1) ready.before (2 * t + 1))
            (λ b is.
            let lies = (leaves-within (levels - 1) ready.before (2 * t + 1) (omega arith) (omega arith) b is).0 in
            omega arith);
        untouched = ready.untouched;
      }

  left_read : (some : 1 ≤ levels) → (split : ready.before t ≡ true) →
      IsRead (2 * t) (leaves_under (levels - 1) ready.before (2 * t))
      (leaves_under (levels - 1) ready.before (2 * t + 1) ++ ready.more) w.rest
  unfolding ready_left
  left_read some split =
      let r = ready_left some split in
      let left = level_of-left t low in
      read_own (levels - 1) ready.before (2 * t) (leaves_under (levels - 1) ready.before (2 * t + 1) ++ ready.more)
      w.rest (omega arith) (omega arith) r.listed r.apart

  -- and for the right one after it
  pub ready_right : (middle : WalkState) → 1 ≤ levels → ready.before t ≡ true → middle.touched ≡ touched →
      middle.rest ≡ drop (run_length (2 * t) w.rest) w.rest →
      IsReady pairs middle.touched (levels - 1) (2 * t + 1) middle.rest
  ready_right middle some split marks rest =
      let h : AreHalved t = halved t low (omega arith) in
      let e1 = h.right_end in let e2 = h.end in
      let r = left_read some split in
      record {
        before = ready.before;
        more = ready.more;
        listed = rest ∙ r.dropped;
        apart = run-end t (2 * t + 1) ready.more (omega arith) ready.apart;
        untouched = subst (λ ts. AreUntouched pairs ts ready.before) (sym marks) ready.untouched;
      }

  -- and the two together
  pub patched_both : (middle after : WalkState) → 1 ≤ levels → ready.before t ≡ true → split_set pairs t ≡ true →
      IsPatched (leaves_under (levels - 1) (split_set pairs) (2 * t)) (2 * t) w middle →
      IsPatched (leaves_under (levels - 1) (split_set pairs) (2 * t + 1)) (2 * t + 1) middle after →
      IsPatched now t w after
  patched_both middle after some was split one two =
      let h : AreHalved t = halved t low (omega arith) in
      let e1 = h.left_end in let e2 = h.right_first in let e3 = h.right_end in let e4 = h.end in
      let left_level = level_of-left t low in
      let right_level = level_of-right t low in
      let l : List ℕ = leaves_under (levels - 1) ready.before (2 * t) in
      let r : List ℕ = leaves_under (levels - 1) ready.before (2 * t + 1) in
      let m : List ℕ = leaves_under (levels - 1) (split_set pairs) (2 * t) in
      let s : List ℕ = leaves_under (levels - 1) (split_set pairs) (2 * t + 1) in
      let all : now ≡ m ++ s = leaves_under-split levels (split_set pairs) t some split in
      let mine : own ≡ l ++ r = leaves_under-split levels ready.before t some was in
      let first : IsRead (2 * t) l (r ++ ready.more) w.rest = left_read some was in
      let next : middle.rest ≡ r ++ ready.more = one.rest ∙ first.dropped in
      let second : IsRead (2 * t + 1) r ready.more middle.rest =
      read_own (levels - 1) ready.before (2 * t + 1) ready.more middle.rest (omega arith) (omega arith) next
      (run-end t (2 * t + 1) ready.more (omega arith) ready.apart) in
      let apart : (has other : ℕ → Bool) (b : ℕ) → IsIn b (leaves_under (levels - 1) has (2 * t)) →
      IsIn b (leaves_under (levels - 1) other (2 * t + 1)) → ⊥ =
      λ has other b x y. leaves-apart (levels - 1) has other t low (omega arith) b x y in
      let taken : take (run_length t w.rest) w.rest ≡ l ++ r = read.taken ∙ mine in
      let left : alone (take (run_length t w.rest) w.rest) now ≡ alone l m ++ alone r s =
      ap (λ xs. alone xs now) taken ∙ ap (alone (l ++ r)) all
      ∙ alone-both l r m s (apart ready.before (split_set pairs))
      (λ b x y. apart (split_set pairs) ready.before b y x) in
      let new : alone now (take (run_length t w.rest) w.rest) ≡ alone m l ++ alone s r =
      ap (alone now) taken ∙ ap (λ xs. alone xs (l ++ r)) all
      ∙ alone-both m s l r (apart (split_set pairs) ready.before)
      (λ b x y. apart ready.before (split_set pairs) b y x) in
      record {
        leaves = two.leaves ∙ ap (λ xs. xs ++ s) one.leaves ∙ append_assoc w.leaves m s
            ∙ ap (λ xs. w.leaves ++ xs) (sym all);
        rest = two.rest ∙ second.dropped ∙ sym read.dropped;
        gone = two.gone ∙ ap (λ xs. middle.gone ++ alone xs s) second.taken ∙ ap (λ xs. xs ++ alone r s) one.gone
            ∙ append_assoc w.gone (alone (take (run_length (2 * t) w.rest) w.rest) m) (alone r s)
            ∙ ap (λ xs. w.gone ++ (alone xs m ++ alone r s)) first.taken ∙ ap (λ xs. w.gone ++ xs) (sym left);
        come = two.come ∙ ap (λ xs. middle.come ++ alone s xs) second.taken ∙ ap (λ xs. xs ++ alone s r) one.come
            ∙ append_assoc w.come (alone m (take (run_length (2 * t) w.rest) w.rest)) (alone s r)
            ∙ ap (λ xs. w.come ++ (alone m xs ++ alone s r)) first.taken ∙ ap (λ xs. w.come ++ xs) (sym new);
        touched = two.touched ∙ one.touched;
        most = two.most ∙ one.most;
      }

-- the whole

module _ (n : ℕ) (pairs : List ℕ) (levels : ℕ) (w : WalkState) (few : n ≤ 14) (all : levels ≡ 2 * n)
    (begun : IsWalkBegun n pairs w) where
  abbrev was : ℕ → List ℕ
  was a = leaves_under levels begun.before a

  abbrev is : ℕ → List ℕ
  is a = leaves_under levels (split_set pairs) a

  first_level : level_of 2 ≡ 0
  first_level = level_of-root 2 (omega arith) (omega arith)

  second_level : level_of 3 ≡ 0
  second_level = level_of-root 3 (omega arith) (omega arith)

  listed : w.rest ≡ was 2 ++ was 3
  listed = begun.listed ∙ leaves_halves n begun.before
      ∙ ap (λ l. leaves_under l begun.before 2 ++ leaves_under l begun.before 3) (sym all)

  behind : run_length 2 (was 3) ≡ 0
  behind =
      let meet = halves_meet in
      let level = second_level in
      ap (run_length 2) (sym (append-nil (was 3))) ∙ run-behind 2 (was 3) [] (leaves-some levels begun.before 3)
      (λ b there. let lies = (leaves-within levels begun.before 3 (omega arith) (omega arith) b there).0 in omega arith)

  -- what is read for the lower half of the square,
  pub ready_lower : IsReady pairs w.touched levels 2 w.rest
  ready_lower = record {
    before = begun.before;
    more = was 3;
    listed = listed;
    apart = behind;
    untouched = begun.untouched;
  }

  lower_read : IsRead 2 (was 2) (was 3) w.rest
  lower_read =
      let level = first_level in
      read_own levels begun.before 2 (was 3) w.rest (omega arith) (omega arith) listed behind

  -- and for the upper one
  pub ready_upper : (middle : WalkState) → IsPatched (is 2) 2 w middle →
      IsReady pairs middle.touched levels 3 middle.rest
  ready_upper middle one = record {
    before = begun.before;
    more = [];
    listed = one.rest ∙ lower_read.dropped ∙ sym (append-nil (was 3));
    apart = refl;
    untouched = subst (λ ts. AreUntouched pairs ts begun.before) (sym one.touched) begun.untouched;
  }

  -- the leaves of the pool are written then,
  pub halves_leaves : (middle after : WalkState) → IsPatched (is 2) 2 w middle → IsPatched (is 3) 3 middle after →
      after.leaves ≡ leaves_of n (split_set pairs)
  halves_leaves middle after one two =
      two.leaves ∙ ap (λ xs. xs ++ is 3) (one.leaves ∙ ap (λ xs. xs ++ is 2) begun.none)
      ∙ ap (λ l. leaves_under l (split_set pairs) 2 ++ leaves_under l (split_set pairs) 3) all
      ∙ sym (leaves_halves n (split_set pairs))

  -- and it is told what went and what came
  pub halves_change : (middle after : WalkState) → IsPatched (is 2) 2 w middle → IsPatched (is 3) 3 middle after →
      IsChange w.rest after.leaves after.gone after.come
  halves_change middle after one two =
      let level = second_level in
      let lower = lower_read in
      let next : middle.rest ≡ was 3 ++ [] = one.rest ∙ lower.dropped ∙ sym (append-nil (was 3)) in
      let upper : IsRead 3 (was 3) [] middle.rest =
      read_own levels begun.before 3 [] middle.rest (omega arith) (omega arith) next refl in
      let written : after.leaves ≡ is 2 ++ is 3 =
      two.leaves ∙ ap (λ xs. xs ++ is 3) (one.leaves ∙ ap (λ xs. xs ++ is 2) begun.none) in
      let apart : (has other : ℕ → Bool) (b : ℕ) → IsIn b (leaves_under levels has 2) →
      IsIn b (leaves_under levels other 3) → ⊥ =
      λ has other b x y. halves-apart levels has other (omega arith) b x y in
      let left : after.gone ≡ alone w.rest after.leaves =
      two.gone ∙ ap (λ xs. middle.gone ++ alone xs (is 3)) upper.taken ∙ ap (λ xs. xs ++ alone (was 3) (is 3)) (one.gone
      ∙ ap (λ xs. xs ++ alone (take (run_length 2 w.rest) w.rest) (is 2)) begun.gone
      ∙ ap (λ xs. alone xs (is 2)) lower.taken)
      ∙ sym (alone-both (was 2) (was 3) (is 2) (is 3) (apart begun.before (split_set pairs))
      (λ b x y. apart (split_set pairs) begun.before b y x))
      ∙ ap (λ xs. alone xs (is 2 ++ is 3)) (sym listed) ∙ ap (alone w.rest) (sym written) in
      let new : after.come ≡ alone after.leaves w.rest =
      two.come ∙ ap (λ xs. middle.come ++ alone (is 3) xs) upper.taken ∙ ap (λ xs. xs ++ alone (is 3) (was 3)) (one.come
      ∙ ap (λ xs. xs ++ alone (is 2) (take (run_length 2 w.rest) w.rest)) begun.come
      ∙ ap (alone (is 2)) lower.taken)
      ∙ sym (alone-both (is 2) (is 3) (was 2) (was 3) (apart (split_set pairs) begun.before)
      (λ b x y. apart begun.before (split_set pairs) b y x))
      ∙ ap (λ xs. alone xs (was 2 ++ was 3)) (sym written) ∙ ap (alone after.leaves) (sym listed) in
      let one_level = first_level in
      let same : shared w.rest after.leaves ≡ shared after.leaves w.rest =
      ap (λ xs. shared xs after.leaves) listed ∙ ap (shared (was 2 ++ was 3)) written
      ∙ shared-both (was 2) (was 3) (is 2) (is 3) (apart begun.before (split_set pairs))
      (λ b x y. apart (split_set pairs) begun.before b y x)
      ∙ ap (λ xs. xs ++ shared (was 3) (is 3))
      (leaves-shared levels begun.before (split_set pairs) 2 (omega arith) (omega arith))
      ∙ ap (λ xs. shared (is 2) (was 2) ++ xs)
      (leaves-shared levels begun.before (split_set pairs) 3 (omega arith) (omega arith))
      ∙ sym (shared-both (is 2) (is 3) (was 2) (was 3) (apart (split_set pairs) begun.before)
      (λ b x y. apart begun.before (split_set pairs) b y x))
      ∙ ap (λ xs. shared xs (was 2 ++ was 3)) (sym written) ∙ ap (shared after.leaves) (sym listed) in
      record {
        left = left;
        new = new;
        kept = ap (alone w.rest) left ∙ alone-alone w.rest after.leaves ∙ same ∙ sym (alone-alone after.leaves w.rest)
            ∙ ap (alone after.leaves) (sym new);
      }
