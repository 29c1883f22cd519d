-- The addresses are a mesh just where the least set with their parents has them as leaves.
use Rattle.std.proofs.Common.{◌≡◌, ℕ, Bool, List, length, take, ◌++◌, refl}
use Rattle.std.proofs.Common.{sym, ◌∙◌, ap, subst, arith, vec_capacity}
use Rattle.std.specs.Prelude.{All}
use Rattle.std.proofs.lemmas.Bool.{false≢true}
use Rattle.std.proofs.lemmas.List.{with_items_is, take-append-le}
use Rattle.std.proofs.Math.Seq.{take-length}
use Rattle.mesh_defs.specs.Triangle.{IsAddress}
use Rattle.mesh_defs.specs.ClosedSet.{leaves_of}
use Rattle.mesh_laws.specs.Sweep.{is_flagged}
use Rattle.fit_mesh.specs.Splits.{SplitMesh, IsSplitSet, IsMeshListed, IsLeastAbove}
use Rattle.fit_mesh.proofs.SplitLemmas.{kept-set, leaves-listed, above-leaves}
use Rattle.fit_mesh.proofs.splits.SplitSet.restore.Goals as goal

-- the first entries of two lists are the one
front-is : (k : ℕ) (xs ys : List Bool) → length xs ≡ k → take k (xs ++ ys) ≡ xs
front-is k xs ys same =
    take-append-le k xs ys (omega arith) ∙ ap (λ j. take j xs) (sym same) ∙ take-length xs

pub returns-then-are_numbers_of-clause-mesh : goal.returns-then-are_numbers_of-clause-mesh
returns-then-are_numbers_of-clause-mesh c =
    let n : ℕ = c.self.inside.n in
    let flags = with_items_is c.self.inside.flags c.split_above_numbers.new.flags
    (c.split_above_numbers.auto.flags ∙ c.deref_mut.ensures.len) in
    let same : leaves_of n (is_flagged c.split_above_numbers.new.flags) ≡ c.args.addresses.now =
    sym (c.list_set.ensures.listed ∙ ap (λ (l : List Bool). leaves_of n (is_flagged l)) (c.deref.ensures.value ∙ flags))
    ∙ sym c.deref-2.ensures.value ∙ c.if-are_numbers_of.ensures.0 refl in (
      λ is. subst (λ k. IsMeshListed k c.args.addresses.now) (ap (λ (s : SplitMesh). s.n) c.self.view_is)
          (leaves-listed n c.args.addresses.now (is_flagged c.split_above_numbers.new.flags)
          c.split_above_numbers.ensures.above.closed same),
      λ mesh. refl,
    )

pub split_above_all-requires-clause-addresses : goal.split_above_all-requires-clause-addresses
split_above_all-requires-clause-addresses c =
    let n : ℕ = c.self.inside.n in
    let mesh = leaves-listed n c.self.inside.leaves.items (is_flagged c.self.inside.flags.items) c.self.invariant.closed
    (sym c.self.invariant.listed) in
    subst (λ (l : List ℕ). All (IsAddress n) l) (sym c.deref-3.ensures.value) mesh.conforming.addresses

pub invariant_of-self-2 : goal.invariant_of-self-2
invariant_of-self-2 c =
    let n : ℕ = c.self.inside.n in
    let leaves : List ℕ = c.self.inside.leaves.items in
    let next : List Bool = c.split_above_all.new.flags in
    let mesh = leaves-listed n leaves (is_flagged c.self.inside.flags.items) c.self.invariant.closed
    (sym c.self.invariant.listed) in
    let flags = front-is c.self.inside.flags.len next _ (c.split_above_all.auto.flags ∙ c.deref_mut-2.ensures.len) in
    let first = with_items_is c.self.inside.flags c.split_above_numbers.new.flags
    (c.split_above_numbers.auto.flags ∙ c.deref_mut.ensures.len) in
    let above : IsLeastAbove n leaves (is_flagged next) =
    subst (λ (l : List ℕ). IsLeastAbove n l (is_flagged next)) c.deref-3.ensures.value c.split_above_all.ensures.above in
    subst (λ (l : List Bool). IsSplitSet n l leaves (vec_capacity c.split_above_all.new.log)
    (vec_capacity c.self.inside.leaves)) (sym flags)
    (kept-set n n c.self.inside.flags.items next leaves leaves _ _ _ _ c.self.invariant refl
    (c.split_above_all.ensures.flags ∙ ap (λ (l : List Bool). length l) (c.deref_mut-2.ensures.value ∙ first)
    ∙ c.split_above_numbers.ensures.flags ∙ ap (λ (l : List Bool). length l) c.deref_mut.ensures.value)
    above.closed (sym (above-leaves n leaves (is_flagged next) mesh above))
    (c.split_above_all.ensures.capacity ∙ c.list_set.ensures.capacity ∙ c.split_above_numbers.ensures.capacity) refl)

pub returns-clause-mesh : goal.returns-clause-mesh
returns-clause-mesh c = (
  λ is. absurd (false≢true is),
  λ mesh.
      let n : ℕ = c.self.inside.n in
      let own : IsMeshListed n c.args.addresses.now =
      subst (λ k. IsMeshListed k c.args.addresses.now) (sym (ap (λ (s : SplitMesh). s.n) c.self.view_is)) mesh in
      let flags = with_items_is c.self.inside.flags c.split_above_numbers.new.flags
      (c.split_above_numbers.auto.flags ∙ c.deref_mut.ensures.len) in
      c.if-are_numbers_of.ensures.1 (c.deref-2.ensures.value ∙ c.list_set.ensures.listed
      ∙ ap (λ (l : List Bool). leaves_of n (is_flagged l)) (c.deref.ensures.value ∙ flags)
      ∙ above-leaves n c.args.addresses.now (is_flagged c.split_above_numbers.new.flags) own
      c.split_above_numbers.ensures.above),
)
