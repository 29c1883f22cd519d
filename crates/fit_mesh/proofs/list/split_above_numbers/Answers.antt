-- At first nothing is split; then the parent of the triangle of one number more.
use Rattle.std.proofs.Common.{◌≡◌, ℕ, ◌+◌, ◌<◌, Bool, false, List, [], ◌∷◌, ◌++◌, length, take, get_or, IfSome, sym, ◌∙◌, ap, subst}
use Rattle.std.proofs.Common.{All, arith}
use Rattle.std.proofs.lemmas.List.{take_more, length-replicate}
use Rattle.mesh_defs.specs.Triangle.{IsAddress}
use Rattle.mesh_laws.specs.Sweep.{is_flagged}
use Rattle.mesh_laws.proofs.FlagLemmas.{flagged-unset}
use Rattle.fit_mesh.specs.Log.{IsLogSince}
use Rattle.fit_mesh.specs.Splits.{IsLeastAbove}
use Rattle.fit_mesh.proofs.LogLemmas.{log-start}
use Rattle.fit_mesh.proofs.GrownLemmas.{address-small}
use Rattle.fit_mesh.proofs.SplitLemmas.{above-none, above-more}
use Rattle.fit_mesh.proofs.list.split_above_numbers.Goals as goal

pub loop-number-init : goal.loop-number-init
loop-number-init c = record {
  flags = ap (λ (l : List Bool). length l) c.clear.ensures ∙ length-replicate (length c.args.flags.now) false;
  capacity = c.clear-2.ensures.capacity;
  log = (
    is_flagged c.clear.new.flags,
    subst (λ (l : List ℕ). IsLogSince (is_flagged c.clear.new.flags) c.clear.new.flags l) (sym c.clear-2.ensures.items)
        (log-start c.clear.new.flags),
  );
  above = above-none c.args.n (is_flagged c.clear.new.flags)
      (λ a. subst (λ (l : List Bool). is_flagged l a ≡ false) (sym c.clear.ensures)
      (flagged-unset (length c.args.flags.now) a));
}

pub split_above-requires-clause-log : goal.split_above-requires-clause-log
split_above-requires-clause-log c = c.loop-number.invariant.log

pub split_above-requires-clause-closed : goal.split_above-requires-clause-closed
split_above-requires-clause-closed c = c.loop-number.invariant.above.closed

pub loop-number-preserved : goal.loop-number-preserved
loop-number-preserved c =
    let i = c.loop-number.invariant in
    let k : ℕ = c.loop-number.number-index in
    let xs : List ℕ = c.args.numbers.now in
    let t : ℕ = c.unwrap-t.result in
    let at : t ≡ get_or xs k 0 =
    subst (λ o. IfSome o (λ t. t ≡ get_or xs k 0)) c.unwrap-t.ensures c.at.ensures.value in
    let below : k < length xs = omega arith in
    let more : take (k + 1) xs ≡ take k xs ++ t ∷ [] =
    take_more xs k 0 below ∙ ap (λ a. take k xs ++ a ∷ []) (sym at) in
    record {
      flags = c.split_above.ensures.flags ∙ i.flags;
      capacity = c.split_above.ensures.capacity ∙ i.capacity;
      log = (i.log.0, c.split_above.ensures.log i.log.0 i.log.1);
      above = subst (λ (l : List ℕ). IsLeastAbove c.args.n l (is_flagged c.split_above.new.flags)) (sym more)
          (above-more c.args.n (take k xs) t (is_flagged c.loop-number.flags) (is_flagged c.split_above.new.flags) i.above
          c.split_above.ensures.prepared);
    }

-- each number is the address of a triangle of the grid
address-at : (n : ℕ) (xs : List ℕ) (k : ℕ) → All (IsAddress n) xs → k < length xs → IsAddress n (get_or xs k 0)
address-at n xs k all below = all k 0 below

pub unwrap-t-requires : goal.unwrap-t-requires
unwrap-t-requires c =
    let xs : List ℕ = c.args.numbers.now in
    let k : ℕ = c.loop-number.number-index in
    let high = c.requires.in_grid.1 in
    c.at.ensures.valid.1 (address-small c.args.n (get_or xs k 0) (omega arith)
    (address-at c.args.n xs k c.requires.addresses (omega arith)))

pub split_above-requires-clause-address : goal.split_above-requires-clause-address
split_above-requires-clause-address c =
    let xs : List ℕ = c.args.numbers.now in
    let k : ℕ = c.loop-number.number-index in
    let at : c.unwrap-t.result ≡ get_or xs k 0 =
    subst (λ o. IfSome o (λ t. t ≡ get_or xs k 0)) c.unwrap-t.ensures c.at.ensures.value in
    subst (λ z. IsAddress c.args.n z) (sym at) (address-at c.args.n xs k c.requires.addresses (omega arith))
