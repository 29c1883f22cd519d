-- The places up to the next one on the border.
use Rattle.std.proofs.Common.{◌≡◌, ℕ, ◌+◌, ◌-◌, ◌*◌, ◌^◌, ◌<◌, ◌≤◌, Bool, IsTrue, List, [], ◌∷◌, ◌++◌, cond, filter, length}
use Rattle.std.proofs.Common.{sym, ◌∙◌, ap, ap₂, subst, arith}
use Rattle.std.specs.List.{range_with_len}
use Rattle.mesh_defs.specs.HeightField.{side_of}
use Rattle.mesh_arrays.specs.Indices.{point_at}
use Rattle.roam_embed.specs.Border.{is_on_side, is_border_vertex}
use Rattle.roam_embed.proofs.BorderLemmas.{filter-next, filter-gap, filter-few, off-side-false}
use Rattle.roam_embed.proofs.border.list_border.Goals as goal

pub put_border-requires-clause-room : goal.put_border-requires-clause-room
put_border-requires-clause-room c =
    let m : ℕ = c.args.set.now.n in
    let few = filter-few (is_border_vertex m c.args.set.now.leaves) c.loop-place.place in
    let same = ap (λ (l : List ℕ). length l) c.loop-place.invariant.listed in
    let one : c.side_for.result ≡ side_of m = c.side_for.ensures.value ∙ ap side_of c.n-n.ensures.value in
    let two : c.side_for-2.result ≡ side_of m = c.side_for-2.ensures.value ∙ ap side_of c.n-n.ensures.value in
    let whole : c.side_for.result * c.side_for-2.result ≡ side_of m * side_of m = ap₂ (λ x y. x * y) one two in
    let below = c.loop-place-test.true in
    let room = c.requires.room in
    let kept = c.loop-place.invariant.capacity in
    omega arith

pub loop-place-preserved : goal.loop-place-preserved
loop-place-preserved c =
    let m : ℕ = c.args.set.now.n in
    let p : ℕ → Bool = is_border_vertex m c.args.set.now.leaves in
    let place : ℕ = c.loop-place.place in
    let next : ℕ = c.next_on_border-place.result in
    let behind = c.next_on_border-place.ensures.behind in
    let gap : ℕ = next - (place + 1) in
    let there : place + 1 + gap ≡ next = omega arith in
    record {
      within = subst (λ k. next ≤ side_of k * side_of k) c.n-n.ensures.value c.next_on_border-place.ensures.within;
      listed = c.put_border.ensures.put
          ∙ ap (λ (l : List ℕ). l ++ cond (p place) (place ∷ []) []) c.loop-place.invariant.listed
          ∙ sym (filter-next p place)
          ∙ sym (filter-gap p (place + 1) gap (λ i low high. off-side-false (is_on_side (2 ^ m) (point_at m i)) _
          (λ is. c.next_on_border-place.ensures.between i (omega arith) (omega arith)
          (subst (λ k. IsTrue (is_on_side (2 ^ k) (point_at k i))) (sym c.n-n.ensures.value) is))))
          ∙ ap (λ k. filter p (range_with_len 0 k)) there;
      capacity = c.put_border.ensures.capacity ∙ c.loop-place.invariant.capacity;
    }
