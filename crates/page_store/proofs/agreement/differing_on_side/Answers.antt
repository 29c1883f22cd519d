-- The points before, and this one.
use Rattle.std.proofs.Common.{◌≡◌, ◌+◌, ◌*◌, ◌%◌, ◌^◌, ◌<◌, ap, sym, ◌∙◌, arith, below_more}
use Rattle.std.proofs.lemmas.Nat.{pow_below}
use Rattle.mesh_defs.specs.Thickness.{height_of}
use Rattle.page_store.specs.Agreement.{on_side}
use Rattle.page_store.proofs.agreement.differing_on_side.Goals as goal

pub loop-k-preserved : goal.loop-k-preserved
loop-k-preserved c =
    let n = c.args.page.now.n in
    let few : 2 ^ c.n-length.result < 2 ^ 32 =
    pow_below c.n-length.result 32 (omega (arith, c.n-length.ensures.high)) in
    let length : 1 * 2 ^ c.n-length.result % 4294967296 ≡ 2 ^ c.args.page.now.n =
    let e : 1 * 2 ^ c.n-length.result % 4294967296 ≡ 2 ^ c.n-length.result = omega arith in
    e ∙ ap (λ k. 2 ^ k) c.n-length.ensures.value in
    let here : c.on_side-here.result ≡ on_side (2 ^ c.args.page.now.n) c.args.side c.loop-k.k =
    c.on_side-here.ensures.value ∙ ap (λ m. on_side m c.args.side c.loop-k.k) length in
    let there : c.on_side-there.result ≡ on_side (2 ^ c.args.page.now.n) ((c.args.side + 2) % 4) c.loop-k.k =
    c.on_side-there.ensures.value ∙ ap (λ m. on_side m ((c.args.side + 2) % 4) c.loop-k.k) length in
    below_more _ _ c.loop-k.invariant
    (ap (height_of c.args.page.now.n c.args.page.now.heights) (sym here)
    ∙ sym c.height.ensures.value
    ∙ c.if-height.false
    ∙ c.height-in-loop-k.ensures.value
    ∙ ap (λ m. height_of m c.args.beside.now.heights c.on_side-there.result) c.requires.same
    ∙ ap (height_of c.args.page.now.n c.args.beside.now.heights) there)
