-- At first nothing is forced; then what the triangles of one place more force.
use Rattle.std.proofs.Common.{◌≡◌, ℕ, ◌+◌, ◌<◌, Bool, ◌||◌, List, [], ◌∷◌, ◌++◌, length, take, get_or, refl}
use Rattle.std.proofs.Common.{◌∙◌, ap, subst, arith}
use Rattle.std.proofs.lemmas.Bool.{both_ways}
use Rattle.std.proofs.lemmas.List.{take_more, take_all}
use Rattle.mesh_defs.specs.ClosedSet.{IsLeastClosed}
use Rattle.mesh_laws.specs.Sweep.{is_flagged}
use Rattle.fit_mesh.specs.Required.{is_centred_at}
use Rattle.fit_mesh.proofs.DemandLemmas.{closure-start, closure-joined, centred-none, centred-more}
use Rattle.fit_mesh.proofs.demand.split_centred.Goals as goal

pub loop-place-init : goal.loop-place-init
loop-place-init c = record {
  flags = refl;
  capacity = refl;
  log = λ before logged. logged;
  least = closure-start c.args.n (is_flagged c.args.flags.now) (is_centred_at c.args.n []) c.requires.closed
      (λ a h. absurd (both_ways (is_centred_at c.args.n [] a) (centred-none c.args.n a) h));
}

pub split_at-requires-clause-log : goal.split_at-requires-clause-log
split_at-requires-clause-log c =
    (c.requires.log.0, c.loop-place.invariant.log c.requires.log.0 c.requires.log.1)

pub split_at-requires-clause-closed : goal.split_at-requires-clause-closed
split_at-requires-clause-closed c = c.loop-place.invariant.least.closed

pub loop-place-preserved : goal.loop-place-preserved
loop-place-preserved c =
    let i = c.loop-place.invariant in
    let n : ℕ = c.args.n in
    let k : ℕ = c.loop-place.place-index in
    let xs : List ℕ = c.args.places.now in
    let p : ℕ = get_or xs k 0 in
    let old : ℕ → Bool = is_flagged c.args.flags.now in
    let below : k < length xs = omega arith in
    let more : take (k + 1) xs ≡ take k xs ++ p ∷ [] = take_more xs k 0 below in
    record {
      flags = c.split_at.ensures.flags ∙ i.flags;
      capacity = c.split_at.ensures.capacity ∙ i.capacity;
      log = λ before logged. c.split_at.ensures.log before (i.log before logged);
      least = closure-joined n (λ a. old a || is_centred_at n (take k xs) a) (is_centred_at n (p ∷ []))
          (λ a. old a || is_centred_at n (take (k + 1) xs) a) (is_flagged c.loop-place.flags)
          (is_flagged c.split_at.new.flags) i.least c.split_at.ensures.least
          (λ a. ap (λ (l : List ℕ). old a || is_centred_at n l a) more ∙ centred-more n old (take k xs) p a);
    }

pub returns-clause-log : goal.returns-clause-log
returns-clause-log c before logged = c.loop-place.invariant.log before logged

pub returns-clause-least : goal.returns-clause-least
returns-clause-least c =
    let xs : List ℕ = c.args.places.now in
    let all : take c.loop-place.place-index xs ≡ xs = take_all c.loop-place.place-index xs (omega arith) in
    subst (λ (l : List ℕ). IsLeastClosed c.args.n (λ a. is_flagged c.args.flags.now a || is_centred_at c.args.n l a)
    (is_flagged c.loop-place.flags)) all c.loop-place.invariant.least
