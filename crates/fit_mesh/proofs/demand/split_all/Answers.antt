-- At first nothing is forced; then what one triangle more forces.
use Rattle.std.proofs.Common.{◌≡◌, ℕ, ◌+◌, ◌<◌, Bool, ◌||◌, eqb, List, [], ◌∷◌, ◌++◌, length, take, refl, sym, ◌∙◌, ap}
use Rattle.std.proofs.Common.{arith}
use Rattle.std.proofs.lemmas.Bool.{false≢true}
use Rattle.std.proofs.lemmas.List.{take_more}
use Rattle.mesh_defs.specs.ClosedSet.{among}
use Rattle.mesh_laws.specs.Sweep.{is_flagged}
use Rattle.fit_mesh.proofs.DemandLemmas.{closure-start, closure-joined, listed-more}
use Rattle.fit_mesh.proofs.demand.split_all.Goals as goal

pub loop-t-init : goal.loop-t-init
loop-t-init c = record {
  flags = refl;
  capacity = refl;
  log = λ before logged. logged;
  least = closure-start c.args.n (is_flagged c.args.flags.now) (among []) c.requires.closed
      (λ a h. absurd (false≢true h));
}

pub force-requires-clause-log : goal.force-requires-clause-log
force-requires-clause-log c =
    (c.requires.log.0, c.loop-t.invariant.log c.requires.log.0 c.requires.log.1)

pub force-requires-clause-closed : goal.force-requires-clause-closed
force-requires-clause-closed c = c.loop-t.invariant.least.closed

pub loop-t-preserved : goal.loop-t-preserved
loop-t-preserved c =
    let i = c.loop-t.invariant in
    let k : ℕ = c.loop-t.t-index in
    let xs : List ℕ = c.args.triangles.now in
    let t : ℕ = c.t-item.result in
    let old : ℕ → Bool = is_flagged c.args.flags.now in
    let below : k < length xs = omega arith in
    let more : take (k + 1) xs ≡ take k xs ++ t ∷ [] =
    take_more xs k t below ∙ ap (λ a. take k xs ++ a ∷ []) (sym c.t-item.is) in
    record {
      flags = c.force.ensures.flags ∙ i.flags;
      capacity = c.force.ensures.capacity ∙ i.capacity;
      log = λ before logged. c.force.ensures.log before (i.log before logged);
      least = closure-joined c.args.n (λ a. old a || among (take k xs) a) (eqb t)
          (λ a. old a || among (take (k + 1) xs) a) (is_flagged c.loop-t.flags) (is_flagged c.force.new.flags)
          i.least c.force.ensures.least
          (λ a. ap (λ (l : List ℕ). old a || among l a) more ∙ listed-more old (take k xs) t a);
    }

pub returns-clause-log : goal.returns-clause-log
returns-clause-log c before logged = c.loop-t.invariant.log before logged
