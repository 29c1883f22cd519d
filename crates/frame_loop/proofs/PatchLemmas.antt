-- Changes of vertices by triangles that were split or merged.
use Rattle.std.proofs.Common.{◌≡◌, ◌≢◌, ◌⊎◌, ◌^◌, ℕ, Bool, List, All, Contains, map, get_or, sym, ◌∙◌, ap, subst, arith}
use Rattle.std.proofs.Common.{⊎_elim, inl, inr, Option, Some, None, MatchOption, Bor}
use Rattle.std.proofs.lemmas.List.{get_or-map, length-map}
use Rattle.std.proofs.lemmas.List.Elements.{All-map}
use Rattle.mesh_defs.specs.declared.point.Point.{Point}
use Rattle.mesh_defs.specs.Triangle.{IsSplittable}
use Rattle.mesh_defs.specs.ClosedSet.{IsClosed, leaves_of}
use Rattle.bintree_laws.specs.Corners.{IsInSquare}
use Rattle.bintree_laws.proofs.CornerLemmas.{IsWithin-corners_of}
use Rattle.mesh_laws.specs.Vertex.{centre_of}
use Rattle.mesh_laws.proofs.VertexLemmas.{centre-member, vertex-same}
use Rattle.obj_write.specs.declared.patch.VertexChange.{VertexChange}
use Rattle.std.specs.Option.{IfSome}
use Rattle.mesh_defs.proofs.ListLemmas.{Contains-in, IsIn-among}
use Rattle.deferred_loop.specs.Log.{IsListed}
use Rattle.obj_write.specs.Numbers.{numbers_of}
use Rattle.obj_write.specs.VertexMarks.{is_vertex}
use Rattle.obj_write.specs.Patch.{AreChanges}
use Rattle.mesh_arrays.specs.List.{IsCovered}
use Rattle.frame_loop.specs.Patch.{change_of, AreNumbersBefore}

-- the centre of a triangle lies in the square
pub centre_within : (n a : ℕ) → IsInSquare (2 ^ n) (centre_of n a)
centre_within n a =
    let w = IsWithin-corners_of n a in
    let px = w.v0_x in let py = w.v0_y in let qx = w.v1_x in let qy = w.v1_y in
    record { x = omega arith; y = omega arith }

-- so the changes are at points of the grid
pub changes_within : (n : ℕ) (has : ℕ → Bool) (changed : List ℕ) →
    All (λ c. IsInSquare (2 ^ n) c.point) (map (change_of n has) changed)
changes_within n has changed =
    All-map (λ (c : VertexChange). IsInSquare (2 ^ n) c.point) (change_of n has) changed (λ k d low. centre_within n _)

-- no change at a point says that no triangle of the list has its centre there
centre_apart : (n : ℕ) (has : ℕ → Bool) (changed : List ℕ) (p : Point) (a : ℕ) →
    All (λ c. c.point ≢ p) (map (change_of n has) changed) → Contains changed a → centre_of n a ≢ p
centre_apart n has changed p a apart (k, low, is) same =
    let f : ℕ → VertexChange = change_of n has in
    let long = length-map changed f in
    let there : get_or (map f changed) k (f a) ≡ f a = get_or-map f changed k a (f a) low ∙ ap f is in
    apart k (f a) (omega arith) (ap (λ (c : VertexChange). c.point) there ∙ same)

-- The changes of the triangles that are in one of two closed sets alone are those of the vertices.
pub changes_told : (n : ℕ) (before after : ℕ → Bool) (changed : List ℕ) → IsClosed n before → IsClosed n after →
    All (IsSplittable n) changed → IsCovered before after changed →
    AreChanges n (leaves_of n before) (leaves_of n after) (map (change_of n after) changed)
changes_told n before after changed closed too splittable covered = record {
  told = All-map (λ (c : VertexChange). c.shown ≡ is_vertex n (leaves_of n after) c.point) (change_of n after) changed
      (λ k d low. sym (centre-member n after (get_or changed k d) too (splittable k d low)));
  others = λ p within apart. vertex-same n after before p too closed
      (λ a s centre. ⊎_elim
      (λ same. sym same)
      (λ listed. absurd (centre_apart n after changed p a apart listed centre))
      (covered a));
}

-- Numbers of leaves before are those of a set that a log tells the differences from, where it is known.
pub known_before : (n m : ℕ) (before after : ℕ →
    Bool) (numbers leaves : List ℕ) (log : Option (List ℕ)) (found : Option (Bor (List ℕ))) →
    m ≡ n → IsClosed n before → numbers ≡ numbers_of n leaves → leaves ≡ leaves_of n before →
    ((a : ℕ) → (before a ≡ after a) ⊎ IsListed log a) → MatchOption found (log ≡ None) (λ list. log ≡ Some list.now) →
    IfSome found (λ list. AreNumbersBefore m leaves numbers after list.now)
known_before n m before after numbers leaves log None same closed numbered listed differ is = tt
known_before n m before after numbers leaves log (Some list) same closed numbered listed differ is = record {
  before = before;
  closed = subst (λ (k : ℕ). IsClosed k before) (sym same) closed;
  leaves_are = listed ∙ ap (λ k. leaves_of k before) (sym same);
  numbers_are = numbered ∙ ap (numbers_of n) listed ∙ ap (λ k. numbers_of k (leaves_of k before)) (sym same);
  covered = λ a. ⊎_elim
      (λ alike. inl alike)
      (λ (there : IsListed log a). inr
      (Contains-in a list.now (IsIn-among a list.now (subst (λ (o : Option (List ℕ)). IsListed o a) is there))))
      (differ a);
}
