-- The store with the coarsest page alone.
use Rattle.std.proofs.Common.{◌≡◌, ℕ, ◌+◌, ◌-◌, ◌*◌, ◌/◌, ◌%◌, ◌^◌, ◌<◌, ◌≤◌, ap, sym, ◌∙◌, arith, subst, None, Some}
use Rattle.std.proofs.Common.{replicate, slice_set}
use Rattle.std.proofs.lemmas.Nat.{pow_below}
use Rattle.mesh_defs.specs.HeightField.{HeightField, IsHeightField}
use Rattle.page_store.specs.Store.{IsTable}
use Rattle.page_store.proofs.MakeLemmas.{some-places, first-table}
use Rattle.page_store.proofs.table.Table.make.Goals as goal

-- as many places as squares
places-are : (large n m : ℕ) → large ≤ 14 → m ≡ n →
    1 * 2 ^ (2 * (large - m + 1)) % 18446744073709551616 / 3 ≡ 2 ^ (2 * (large - n + 1)) / 3
places-are large n m small same =
    let few : 2 ^ (2 * (large - n + 1)) < 2 ^ 64 = pow_below (2 * (large - n + 1)) 64 (omega arith) in
    rw same (let e : 1 * 2 ^ (2 * (large - n + 1)) % 18446744073709551616 ≡ 2 ^ (2 * (large - n + 1)) = omega arith in
    ap (λ k. k / 3) e)

pub index_mut-requires : goal.index_mut-requires
index_mut-requires c =
    let n : c.n-n.result ≡ c.args.root.field.n = c.n-n.ensures.value
    ∙ ap (λ (g : HeightField). g.n) c.grid.ensures.value in
    let some = some-places c.args.large c.args.root c.in_ok-pages.pages.items c.requires.fits
    (c.in_ok-pages.ensures.value
    ∙ ap (λ k. replicate k None) (places-are c.args.large c.args.root.field.n c.n-n.result c.requires.small n)) in
    omega (arith, c.in_ok-pages.pages.ok.0)

pub invariant_of-result : goal.invariant_of-result
invariant_of-result c =
    let n : c.n-n.result ≡ c.args.root.field.n = c.n-n.ensures.value
    ∙ ap (λ (g : HeightField). g.n) c.grid.ensures.value in
    let field : IsHeightField c.args.root.field = c.grid.ensures.valid in
    subst (λ m. IsTable (record {
      large = c.args.large;
      n = m;
      pages =
          slice_set c.in_ok-pages.pages.items 0 (Some c.args.root);
    }))
    (sym n)
    (first-table c.args.large c.args.root c.in_ok-pages.pages.items c.requires.fits
    (c.in_ok-pages.ensures.value
    ∙ ap (λ k. replicate k None) (places-are c.args.large c.args.root.field.n c.n-n.result c.requires.small n))
    field.n_low c.requires.small field c.requires.turned)

pub returns-clause-valid : goal.returns-clause-valid
returns-clause-valid c = invariant_of-result c
