-- An entry more.
use Rattle.std.proofs.Common.{◌≡◌, sym, ◌∙◌, subst, ap, Bool, false, List, length, arith}
use Rattle.std.proofs.lemmas.List.{length-replicate}
use Rattle.mesh_defs.proofs.ListLemmas.{IsIn-contains, among-in}
use Rattle.mesh_laws.specs.Sweep.{is_flagged}
use Rattle.mesh_laws.proofs.FlagLemmas.{flagged-unset}
use Rattle.fit_mesh.proofs.force.set_back.Goals as goal

pub loop-place-init : goal.loop-place-init
loop-place-init c = record {
  flags = ap (λ (l : List Bool). length l) c.clear.ensures ∙ length-replicate (length c.args.flags.now) false;
  same = λ a. subst (λ (l : List Bool). is_flagged l a ≡ false) (sym c.clear.ensures)
      (flagged-unset (length c.args.flags.now) a);
}

pub flag-requires : goal.flag-requires
flag-requires c =
    let more = c.loop-place-test.true in
    let place = c.requires.place in
    let lt = c.requires.addresses c.index-log-place.result
    (among-in c.index-log-place.result c.args.log.now (IsIn-contains c.index-log-place.result c.args.log.now
    (c.loop-place.place, omega arith, sym c.index-log-place.is))) in
    let same = c.loop-place.invariant.flags in
    record { room = omega arith }
