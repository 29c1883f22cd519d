-- One number more; and at the end all.
use Rattle.std.proofs.Common.{◌≡◌, ℕ, List, take, refl, arith, subst}
use Rattle.std.specs.Prelude.{All}
use Rattle.std.proofs.lemmas.Bool.{false≢true}
use Rattle.std.proofs.lemmas.List.{take_all}
use Rattle.std.proofs.lemmas.List.Elements.{All-more}
use Rattle.mesh_defs.specs.Triangle.{IsAddress}
use Rattle.fit_mesh.proofs.list.are_addresses.Goals as goal

pub loop-number-preserved : goal.loop-number-preserved
loop-number-preserved c =
    let xs : List ℕ = c.args.numbers.now in
    All-more (IsAddress c.args.n) xs c.loop-number.number-index 0 c.loop-number-test.true c.loop-number.invariant
    (c.is_address.ensures.0 c.if-not-is_address.false)

pub returns-then-not-is_address : goal.returns-then-not-is_address
returns-then-not-is_address c = (
  λ is. absurd (false≢true is),
  λ all. c.if-not-is_address.ensures.1 (all c.loop-number.number-index 0 c.loop-number-test.true),
)

pub returns : goal.returns
returns c =
    let xs : List ℕ = c.args.numbers.now in
    let whole : take c.loop-number.number-index xs ≡ xs = take_all c.loop-number.number-index xs (omega arith) in (
      λ is. subst (All (IsAddress c.args.n)) whole c.loop-number.invariant,
      λ all. refl,
    )
