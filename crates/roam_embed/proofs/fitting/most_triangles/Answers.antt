use Rattle.std.proofs.Common.{◌≡◌, ◌+◌, ◌*◌, ◌^◌, min, ◌∙◌, ap, arith, pow-add}
use Rattle.mesh_laws.proofs.LeafLemmas.{four-power}
use Rattle.roam_embed.proofs.fitting.most_triangles.Goals as goal

pub returns : goal.returns
returns c =
    let n = c.args.n in
    let finest : 2 ^ (2 * n + 1) ≡ 2 * 4 ^ n = let p = four-power n in let q = pow-add 2 (2 * n) 1 in omega arith in
    c.min.ensures ∙ ap (λ k. min c.args.budget k) (c.end.ensures.value ∙ finest)
