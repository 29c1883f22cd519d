-- No flag is set, so the leaves are 2 and 3.
use Rattle.std.proofs.Common.{◌≡◌, ℕ, Bool, false, List, length, replicate, ap, sym, subst, ◌∙◌, arith}
use Rattle.std.proofs.Common.{[]}
use Rattle.std.proofs.lemmas.List.{length-replicate}
use Rattle.mesh_defs.specs.ClosedSet.{leaves_of, among}
use Rattle.mesh_laws.proofs.ClosureLemmas.{leaves_of-same, nothing_closed}
use Rattle.mesh_laws.specs.Sweep.{is_flagged}
use Rattle.mesh_laws.proofs.FlagLemmas.{flagged-unset}
use Rattle.fit_laws.proofs.FitLemmas.{closed-same}
use Rattle.fit_mesh.proofs.GrownLemmas.{base_leaves}
use Rattle.fit_mesh.proofs.splits.SplitSet.make.Goals as goal

-- none is flagged in such a table
unset : (flags : List Bool) (count : ℕ) → flags ≡ replicate count false → (a : ℕ) → is_flagged flags a ≡ false
unset flags count is a = subst (λ (l : List Bool). is_flagged l a ≡ false) (sym is) (flagged-unset count a)

pub returns-clause-base : goal.returns-clause-base
returns-clause-base c =
    let blank : c.deref.result.now ≡ replicate c.end.result false =
    c.deref.ensures.value ∙ c.in_ok-flags.ensures.items_if_clones_equal (λ y h. h) in
    c.list_set.ensures.listed
    ∙ leaves_of-same c.args.n (is_flagged c.deref.result.now) (among []) (unset c.deref.result.now c.end.result blank)
    ∙ base_leaves c.args.n

pub invariant_of-result : goal.invariant_of-result
invariant_of-result c =
    let blank : c.in_ok-flags.flags.items ≡ replicate c.end.result false =
    c.in_ok-flags.ensures.items_if_clones_equal (λ y h. h) in
    record {
      n_low = c.requires.in_grid.0;
      n_high = c.requires.in_grid.1;
      flagged = ap (λ (l : List Bool). length l) blank ∙ length-replicate c.end.result false ∙ c.end.ensures.value;
      closed = closed-same c.args.n (λ a. false) (is_flagged c.in_ok-flags.flags.items)
          (λ a. sym (unset c.in_ok-flags.flags.items c.end.result blank a)) (nothing_closed c.args.n);
      listed = c.list_set.ensures.listed
          ∙ ap (λ (l : List Bool). leaves_of c.args.n (is_flagged l)) c.deref.ensures.value;
      log_roomy = (let k = c.in_ok-log.ensures.capacity in let e = c.end-2.ensures.value in omega arith);
      leaf_roomy = (let k = c.in_ok-leaves.ensures.capacity in let e = c.end-3.ensures.value in
          let s = c.list_set.ensures.capacity in omega arith);
    }
