-- No flag is set, so the leaves are 2 and 3.
use Rattle.std.proofs.Common.{◌≡◌, ℕ, ◌≤◌, Bool, false, List, length, take, replicate, ap, sym, subst, ◌∙◌}
use Rattle.std.proofs.lemmas.List.{with_items_is, length-replicate}
use Rattle.mesh_defs.specs.Tiling.{IsConforming}
use Rattle.mesh_laws.specs.Sweep.{is_flagged}
use Rattle.mesh_laws.proofs.FlagLemmas.{flagged-unset}
use Rattle.obj_write.specs.Numbers.{numbers_of}
use Rattle.least_mesh.proofs.FrameLemmas.{levels-listed}
use Rattle.least_mesh.proofs.least.Least.make.Goals as goal

pub number-requires-clause-levels : goal.number-requires-clause-levels
number-requires-clause-levels c =
    let room = c.deref-2.ensures.value ∙ with_items_is c.in_ok-room.room c.list_leaves-count.new.list
    (c.list_leaves-count.auto.list ∙ c.deref_mut.ensures.len) in
    levels-listed c.args.n (is_flagged c.deref.result.now) (take c.list_leaves-count.result c.deref-2.result.now)
    (ap (take c.list_leaves-count.result) room ∙ c.list_leaves-count.ensures.listed)

pub returns-clause-base : goal.returns-clause-base
returns-clause-base c =
    let room = with_items_is c.in_ok-room.room c.list_leaves-count.new.list
    (c.list_leaves-count.auto.list ∙ c.deref_mut.ensures.len) in
    let unset : c.deref.result.now ≡ replicate c.end.result false =
    c.deref.ensures.value ∙ c.in_ok-flags.ensures.items_if_clones_equal (λ y h. h) in
    ap (take c.list_leaves-count.result) room ∙ c.list_leaves-count.ensures.base
    (λ a. subst (λ (l : List Bool). is_flagged l a ≡ false) (sym unset) (flagged-unset c.end.result a))

pub invariant_of-result : goal.invariant_of-result
invariant_of-result c =
    let count = c.list_leaves-count.result in
    let list = c.list_leaves-count.new.list in
    let room = with_items_is c.in_ok-room.room list (c.list_leaves-count.auto.list ∙ c.deref_mut.ensures.len) in
    let unset : c.in_ok-flags.flags.items ≡ replicate c.end.result false =
    c.in_ok-flags.ensures.items_if_clones_equal (λ y h. h) in
    let blank = c.in_ok-room.ensures.items_if_clones_equal (λ y h. h) in
    record {
      n_low = c.requires.in_grid.0;
      n_high = c.requires.in_grid.1;
      flagged = ap length unset ∙ length-replicate c.end.result false ∙ c.end.ensures.value;
      roomy = ap length room ∙ c.list_leaves-count.auto.list ∙ ap length c.deref_mut.ensures.value ∙ ap length blank
          ∙ length-replicate _ _ ∙ c.end-2.ensures.value;
      within = subst (λ (l : List ℕ). count ≤ length l) (sym room) c.list_leaves-count.ensures.within;
      conforming =
          subst (λ (l : List ℕ). IsConforming c.args.n l) (sym (returns-clause-base c)) c.base_mesh.ensures.conforming;
      places = c.number.ensures.places ∙ ap length c.in_ok-numbers.ensures ∙ length-replicate _ _;
      numbered =
          c.number.ensures.numbers ∙ ap (λ (l : List ℕ). numbers_of c.args.n (take count l)) c.deref-2.ensures.value;
    }
