use Rattle.std.proofs.Common.{◌≡◌, ℕ, ◌-◌, ◌*◌, true, false, List, ◌∷◌, [], ◌++◌, length, take, drop, refl, sym, ◌∙◌}
use Rattle.std.proofs.Common.{ap, subst, arith, length-append, ⊎_elim}
use Rattle.std.proofs.lemmas.Bool.{cases_Bool}
use Rattle.mesh_defs.specs.ClosedSet.{leaves_under}
use Rattle.mesh_laws.specs.Slots.{address_at, split_set, has_children}
use Rattle.mesh_laws.proofs.SlotLemmas.{set_false}
use Rattle.mesh_laws.proofs.LeafLemmas.{leaves_under-whole}
use Rattle.mesh_arrays.specs.Order.{run_length, begins_with}
use Rattle.mesh_arrays.specs.Walk.{WalkState, IsReady, IsPatched}
use Rattle.mesh_arrays.proofs.SlotLemmas.{when_some, AreBelow, slots_below}
use Rattle.mesh_arrays.proofs.PatchLemmas.{begins_split, own_same, kept_room, patched_kept, patched_leaf_stays}
use Rattle.mesh_arrays.proofs.PatchLemmas.{patched_leaf_comes, patched_split_comes, ready_left, ready_right, patched_both}
use Rattle.mesh_arrays.proofs.patch.+patch_under.Goals as goal

-- at a slot without a mark all stays
pub keep_all-requires : goal.keep_all-requires
keep_all-requires t c =
    let a = address_at c.args.pool.now.pairs c.args.s.0 in
    let pairs = c.args.pool.now.pairs in
    let w : WalkState = c.args.walk.now in
    let same = own_same pairs w.touched c.args.levels a w c.requires.live
    (omega arith) c.requires.ready c.requires.ready.untouched c.args.s.0 c.requires.live refl
    (sym c.is_touched.ensures ∙ c.if-not-is_touched.true) in
    let room = kept_room pairs w.touched c.args.levels a w c.requires.live (omega arith) c.requires.ready same in
    record { room = rw c.tri-t.ensures.value (rw room c.requires.room) }

pub returns-then-not-is_touched : goal.returns-then-not-is_touched
returns-then-not-is_touched t c =
    let a = address_at c.args.pool.now.pairs c.args.s.0 in
    let pairs = c.args.pool.now.pairs in
    let w : WalkState = c.args.walk.now in
    let same = own_same pairs w.touched c.args.levels a w c.requires.live
    (omega arith) c.requires.ready c.requires.ready.untouched c.args.s.0 c.requires.live refl
    (sym c.is_touched.ensures ∙ c.if-not-is_touched.true) in
    patched_kept pairs w.touched c.args.levels a w c.requires.live
    (omega arith) c.requires.ready c.keep_all.new.walk same
    (subst (λ k. c.keep_all.new.walk ≡ record w {
      leaves = w.leaves ++ take (run_length k w.rest) w.rest;
      rest = drop (run_length k w.rest) w.rest;
    })
    c.tri-t.ensures.value c.keep_all.ensures)

-- the children
pub patch_under-requires : goal.patch_under-requires
patch_under-requires t c =
    let pairs = c.args.pool.now.pairs in
    let a = address_at pairs c.args.s.0 in
    let w : WalkState = c.args.walk.now in
    let split = when_some (has_children pairs a) c.in-Some.ensures.none.1 in
    let below : AreBelow c.args.pool.now.n pairs c.args.levels c.args.s.0 c.in-Some.left.0 c.in-Some.right.0 =
    slots_below c.args.pool.now.n pairs c.args.levels c.args.s.0 c.in-Some.left.0 c.in-Some.right.0
    c.n-n.ensures.valid c.requires.live c.requires.level split c.in-Some.ensures.some.0 c.in-Some.ensures.some.1 in
    let begins : begins_with a w.rest ≡ false =
    ap (λ k. begins_with k w.rest) (sym c.tri-t.ensures.value) ∙ sym c.is_next.ensures ∙ c.if-is_next.false in
    let was = begins_split c.args.levels c.requires.ready.before a c.requires.ready.more w.rest
    c.requires.ready.listed begins in (
      omega arith,
      (
        below.left_live,
        (
          below.left_level,
          (
            subst (λ k. IsReady pairs w.touched (c.args.levels - 1) k w.rest) (sym c.in-Some.ensures.some.0)
                (ready_left pairs w.touched c.args.levels a w c.requires.live
                (omega arith) c.requires.ready was.0 was.1),
            (c.requires.most, omega arith),
          ),
        ),
      ),
    )

pub patch_under-requires-else-is_next : goal.patch_under-requires-else-is_next
patch_under-requires-else-is_next t c =
    let pairs = c.args.pool.now.pairs in
    let a = address_at pairs c.args.s.0 in
    let w : WalkState = c.args.walk.now in
    let middle : WalkState = c.patch_under.new.walk in
    let split = when_some (has_children pairs a) c.in-Some.ensures.none.1 in
    let below : AreBelow c.args.pool.now.n pairs c.args.levels c.args.s.0 c.in-Some.left.0 c.in-Some.right.0 =
    slots_below c.args.pool.now.n pairs c.args.levels c.args.s.0 c.in-Some.left.0 c.in-Some.right.0
    c.n-n.ensures.valid c.requires.live c.requires.level split c.in-Some.ensures.some.0 c.in-Some.ensures.some.1 in
    let begins : begins_with a w.rest ≡ false =
    ap (λ k. begins_with k w.rest) (sym c.tri-t.ensures.value) ∙ sym c.is_next.ensures ∙ c.if-is_next.false in
    let was = begins_split c.args.levels c.requires.ready.before a c.requires.ready.more w.rest
    c.requires.ready.listed begins in
    let rest : middle.rest ≡ drop (run_length (2 * a) w.rest) w.rest =
    subst (λ k. middle.rest ≡ drop (run_length k w.rest) w.rest) c.in-Some.ensures.some.0 c.patch_under.ensures.rest in
    let written = ap length c.patch_under.ensures.leaves
    ∙ length-append w.leaves (leaves_under (c.args.levels - 1) (split_set pairs) (address_at pairs c.in-Some.left.0)) in
    let most = c.patch_under.ensures.most in (
      omega arith,
      (
        below.right_live,
        (
          below.right_level,
          (
            subst (λ k. IsReady pairs middle.touched (c.args.levels - 1) k middle.rest) (sym c.in-Some.ensures.some.1)
                (ready_right pairs w.touched c.args.levels a w c.requires.live
                (omega arith) c.requires.ready middle was.0 was.1 c.patch_under.ensures.touched rest),
            (omega arith, omega arith),
          ),
        ),
      ),
    )

pub returns-else-is_next : goal.returns-else-is_next
returns-else-is_next t c =
    let pairs = c.args.pool.now.pairs in
    let a = address_at pairs c.args.s.0 in
    let w : WalkState = c.args.walk.now in
    let middle : WalkState = c.patch_under.new.walk in
    let after : WalkState = c.patch_under-else-is_next.new.walk in
    let split = when_some (has_children pairs a) c.in-Some.ensures.none.1 in
    let below : AreBelow c.args.pool.now.n pairs c.args.levels c.args.s.0 c.in-Some.left.0 c.in-Some.right.0 =
    slots_below c.args.pool.now.n pairs c.args.levels c.args.s.0 c.in-Some.left.0 c.in-Some.right.0
    c.n-n.ensures.valid c.requires.live c.requires.level split c.in-Some.ensures.some.0 c.in-Some.ensures.some.1 in
    let begins : begins_with a w.rest ≡ false =
    ap (λ k. begins_with k w.rest) (sym c.tri-t.ensures.value) ∙ sym c.is_next.ensures ∙ c.if-is_next.false in
    let was = begins_split c.args.levels c.requires.ready.before a c.requires.ready.more w.rest
    c.requires.ready.listed begins in
    patched_both pairs w.touched c.args.levels a w c.requires.live
    (omega arith) c.requires.ready middle after was.0 was.1 below.split
    (subst (λ k. IsPatched (leaves_under (c.args.levels - 1) (split_set pairs) k) k w middle)
    c.in-Some.ensures.some.0 c.patch_under.ensures)
    (subst (λ k. IsPatched (leaves_under (c.args.levels - 1) (split_set pairs) k) k middle after)
    c.in-Some.ensures.some.1 c.patch_under-else-is_next.ensures)

-- a leaf
pub returns-in-None : goal.returns-in-None
returns-in-None t c =
    let pairs = c.args.pool.now.pairs in
    let a = address_at pairs c.args.s.0 in
    let w : WalkState = c.args.walk.now in
    let after : WalkState = c.patch_leaf.new.walk in
    let leaf : leaves_under c.args.levels (split_set pairs) a ≡ a ∷ [] =
    leaves_under-whole c.args.levels (split_set pairs) a (set_false pairs a (c.in-None.ensures.none.0 refl)) in
    let is = c.tri-t.ensures.value in
    ⊎_elim
    (λ (begins : begins_with a w.rest ≡ true).
    patched_leaf_stays pairs w.touched c.args.levels a w c.requires.live
    (omega arith) c.requires.ready after leaf begins
    (subst (λ k. after ≡ record w { leaves = w.leaves ++ k ∷ []; rest = drop 1 w.rest }) is
    (c.patch_leaf.ensures.stays (ap (λ k. begins_with k w.rest) is ∙ begins))))
    (λ (begins : begins_with a w.rest ≡ false).
    patched_leaf_comes pairs w.touched c.args.levels a w c.requires.live
    (omega arith) c.requires.ready after leaf begins
    (subst (λ k. after ≡ record w {
      leaves = w.leaves ++ k ∷ [];
      rest = drop (run_length k w.rest) w.rest;
      gone = w.gone ++ take (run_length k w.rest) w.rest;
      come = w.come ++ k ∷ [];
    }) is (c.patch_leaf.ensures.comes (ap (λ k. begins_with k w.rest) is ∙ begins))))
    (cases_Bool (begins_with a w.rest))

-- a leaf before that is split now
pub returns-then-is_next : goal.returns-then-is_next
returns-then-is_next t c =
    let pairs = c.args.pool.now.pairs in
    let a = address_at pairs c.args.s.0 in
    let w : WalkState = c.args.walk.now in
    let now : List ℕ = leaves_under c.args.levels (split_set pairs) a in
    let split = when_some (has_children pairs a) c.in-Some.ensures.none.1 in
    let below : AreBelow c.args.pool.now.n pairs c.args.levels c.args.s.0 c.in-Some.left.0 c.in-Some.right.0 =
    slots_below c.args.pool.now.n pairs c.args.levels c.args.s.0 c.in-Some.left.0 c.in-Some.right.0
    c.n-n.ensures.valid c.requires.live c.requires.level split c.in-Some.ensures.some.0 c.in-Some.ensures.some.1 in
    let begins : begins_with a w.rest ≡ true =
    ap (λ k. begins_with k w.rest) (sym c.tri-t.ensures.value) ∙ sym c.is_next.ensures ∙ c.if-is_next.true in
    patched_split_comes pairs w.touched c.args.levels a w c.requires.live
    (omega arith) c.requires.ready c.put_under.new.walk below.some below.split begins
    (c.put_under.ensures
    ∙ ap (λ (z : WalkState). record z { leaves = z.leaves ++ now; come = z.come ++ now }) c.leave.ensures)
