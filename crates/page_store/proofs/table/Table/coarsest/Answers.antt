-- The coarsest page is loaded.
use Rattle.std.proofs.Common.{◌≡◌, ◌*◌, ◌/◌, ◌%◌, ◌^◌, ◌≤◌, ap, sym, ◌∙◌, arith, subst, refl}
use Rattle.std.specs.Option.{option_copied}
use Rattle.mesh_defs.specs.Triangle.{level_of}
use Rattle.page_store.specs.Store.{IsTable}
use Rattle.page_store.proofs.WalkLemmas.{coarsest-loaded, whole-quarter, copied-some}
use Rattle.page_store.proofs.table.Table.coarsest.Goals as goal

pub unwrap-requires : goal.unwrap-requires
unwrap-requires c =
    let i : IsTable c.args.self.now = subst IsTable c.self.view_is c.self.invariant in
    let page = coarsest-loaded c.args.self.now i in
    copied-some c.page_in.result page.0 (c.page_in.ensures.value ∙ page.1)

pub returns : goal.returns
returns c =
    let x = c.args.tri in
    let low : 2 ≤ c.args.tri = omega (arith, c.number.ensures.value, c.number.ensures.low) in
    let bits : 2 * c.number.result / 2 ^ c.level.result % 4 ≡ 2 * c.args.tri / 2 ^ level_of c.args.tri % 4 =
    ap (λ k. 2 * k / 2 ^ c.level.result % 4) c.number.ensures.value
    ∙ ap (λ k. 2 * c.args.tri / 2 ^ k % 4) c.level.ensures.value in
    record {
      found = record {
        coarse = omega arith;
        deep = omega arith;
        part = whole-quarter c.args.tri low ∙ sym bits;
        square = refl;
        loaded = sym c.page_in.ensures.value ∙ ap option_copied c.unwrap.ensures;
      };
    }
