-- At first nothing is split; then the parent of one triangle more.
use Rattle.std.proofs.Common.{◌≡◌, ℕ, ◌+◌, ◌<◌, Bool, false, List, [], ◌∷◌, ◌++◌, length, take, sym, ◌∙◌, ap, subst}
use Rattle.std.proofs.Common.{arith}
use Rattle.std.proofs.lemmas.List.{take_more, length-replicate}
use Rattle.mesh_laws.specs.Sweep.{is_flagged}
use Rattle.mesh_laws.proofs.FlagLemmas.{flagged-unset}
use Rattle.fit_mesh.specs.Log.{IsLogSince}
use Rattle.fit_mesh.specs.Splits.{IsLeastAbove}
use Rattle.fit_mesh.proofs.LogLemmas.{log-start}
use Rattle.fit_mesh.proofs.SplitLemmas.{above-none, above-more}
use Rattle.fit_mesh.proofs.list.split_above_all.Goals as goal

pub loop-t-init : goal.loop-t-init
loop-t-init c = record {
  flags = ap (λ (l : List Bool). length l) c.clear.ensures ∙ length-replicate (length c.args.flags.now) false;
  capacity = c.clear-2.ensures.capacity;
  log = (
    is_flagged c.clear.new.flags,
    subst (λ (l : List ℕ). IsLogSince (is_flagged c.clear.new.flags) c.clear.new.flags l) (sym c.clear-2.ensures.items)
        (log-start c.clear.new.flags),
  );
  above = above-none c.args.n (is_flagged c.clear.new.flags)
      (λ a. subst (λ (l : List Bool). is_flagged l a ≡ false) (sym c.clear.ensures)
      (flagged-unset (length c.args.flags.now) a));
}

pub split_above-requires-clause-log : goal.split_above-requires-clause-log
split_above-requires-clause-log c = c.loop-t.invariant.log

pub split_above-requires-clause-closed : goal.split_above-requires-clause-closed
split_above-requires-clause-closed c = c.loop-t.invariant.above.closed

pub loop-t-preserved : goal.loop-t-preserved
loop-t-preserved c =
    let i = c.loop-t.invariant in
    let k : ℕ = c.loop-t.t-index in
    let xs : List ℕ = c.args.triangles.now in
    let t : ℕ = c.t-item.result in
    let below : k < length xs = omega arith in
    let more : take (k + 1) xs ≡ take k xs ++ t ∷ [] =
    take_more xs k t below ∙ ap (λ a. take k xs ++ a ∷ []) (sym c.t-item.is) in
    record {
      flags = c.split_above.ensures.flags ∙ i.flags;
      capacity = c.split_above.ensures.capacity ∙ i.capacity;
      log = (i.log.0, c.split_above.ensures.log i.log.0 i.log.1);
      above = subst (λ (l : List ℕ). IsLeastAbove c.args.n l (is_flagged c.split_above.new.flags)) (sym more)
          (above-more c.args.n (take k xs) t (is_flagged c.loop-t.flags) (is_flagged c.split_above.new.flags) i.above
          c.split_above.ensures.prepared);
    }
