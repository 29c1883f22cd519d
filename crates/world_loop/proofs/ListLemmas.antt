-- The list of leaves before a frame, by what the frame's log tells.
use Rattle.std.proofs.Common.{◌≡◌, ◌⊎◌, ℕ, Bool, List, sym, ◌∙◌, ap, subst, ⊎_elim, inl, inr, Option, Some, None}
use Rattle.std.proofs.Common.{MatchOption, Bor}
use Rattle.std.specs.Option.{IfSome}
use Rattle.mesh_defs.specs.ClosedSet.{leaves_of}
use Rattle.mesh_defs.proofs.ListLemmas.{Contains-in, IsIn-among}
use Rattle.deferred_loop.specs.Log.{IsListed}
use Rattle.mesh_arrays.specs.List.{IsListBefore}

-- The leaves are those of a set that the log tells the differences from, where it is known.
pub listed-before : (n m : ℕ) (before after : ℕ → Bool) (leaves : List ℕ) (log : Option (List ℕ))
    (found : Option (Bor (List ℕ))) → m ≡ n → leaves ≡ leaves_of n before →
    ((a : ℕ) → (before a ≡ after a) ⊎ IsListed log a) → MatchOption found (log ≡ None) (λ list. log ≡ Some list.now) →
    IfSome found (λ list. IsListBefore m leaves after list.now)
listed-before n m before after leaves log None same listed differ is = tt
listed-before n m before after leaves log (Some list) same listed differ is = record {
  before = before;
  leaves_are = listed ∙ ap (λ k. leaves_of k before) (sym same);
  covered = λ a. ⊎_elim
      (λ alike. inl alike)
      (λ (there : IsListed log a). inr
      (Contains-in a list.now (IsIn-among a list.now (subst (λ (o : Option (List ℕ)). IsListed o a) is there))))
      (differ a);
}
