use Rattle.std.proofs.Common.{◌≡◌, ℕ, ◌*◌, ◌^◌, ◌≤◌, List, length, sym, ◌∙◌, subst, arith}
use Rattle.std.proofs.lemmas.List.Elements.{All-weaker}
use Rattle.mesh_defs.specs.Triangle.{level_of, IsAddress}
use Rattle.mesh_defs.specs.Tiling.{IsConforming}
use Rattle.bintree_laws.proofs.LevelLemmas.{level-le}
use Rattle.mesh_laws.specs.Ancestors.{ancestors_of}
use Rattle.roam_embed.proofs.fitting.fit_into.Goals as goal

-- the list is conforming, by other names of its n and of itself
conforming-same : (n m : ℕ) (triangles others : List ℕ) → IsConforming n triangles → n ≡ m →
    others ≡ triangles → IsConforming m others
conforming-same n m triangles others conforming same is =
    subst (IsConforming m) (sym is) (subst (λ k. IsConforming k triangles) same conforming)

pub write_indices-requires-clause-levels : goal.write_indices-requires-clause-levels
write_indices-requires-clause-levels c =
    let n = c.n-n.result in
    let same : c.frame-note.new.self.n ≡ n = c.frame-note.ensures.n ∙ sym c.requires.grid ∙ sym c.n-n.ensures.value in
    let conforming = conforming-same c.frame-note.new.self.n n c.frame-note.new.self.leaves c.leaves.result.now
    c.leaves.ensures.conforming same c.leaves.ensures.value in
    All-weaker (IsAddress n) (λ a. level_of a ≤ 2 * n) (level-le n) c.leaves.result.now conforming.addresses

pub write_indices-requires-clause-room : goal.write_indices-requires-clause-room
write_indices-requires-clause-room c =
    let n = c.args.grid.now.n in
    let leaves = c.frame-note.new.self.leaves in
    let same : c.frame-note.new.self.n ≡ n = c.frame-note.ensures.n ∙ sym c.requires.grid in
    let conforming : IsConforming n leaves = subst (λ k. IsConforming k leaves) same c.leaves.ensures.conforming in
    let few : length leaves ≤ c.args.fit.now.budget = c.frame-note.ensures.within in
    let most : length leaves ≤ 2 * 4 ^ n =
    let count = c.conformity_laws.ensures.same_count n leaves conforming in
    let finest = c.set_leaf_laws.ensures.most n (ancestors_of leaves) in
    omega arith in
    let room = c.requires.room in
    subst (λ (l : List ℕ). 3 * length l ≤ length c.args.out.now) (sym c.leaves.ensures.value) (omega arith)
