-- The leaves of a closed set in any order are conforming.
use Rattle.std.proofs.Common.{◌≡◌, ℕ, Bool, true, eqb, List, Contains, get_or, refl, sym, ◌∙◌, subst, arith, eq-eqb}
use Rattle.std.proofs.lemmas.Bool.{eqb-true}
use Rattle.std.proofs.lemmas.List.Elements.{All-contains, Contains-get_or}
use Rattle.mesh_defs.specs.Triangle.{IsAddress}
use Rattle.mesh_defs.specs.Tiling.{is_inside, IsConforming}
use Rattle.mesh_defs.specs.ClosedSet.{IsClosed, leaves_of}
use Rattle.mesh_defs.proofs.ListLemmas.{IsIn, IsIn-contains, Contains-in, count-some, some-count, count-counts}
use Rattle.mesh_laws.specs.Ancestors.{AreLeaves}
use Rattle.mesh_laws.proofs.ConformityLemmas.{IsConforming-leaves_of}

-- an entry of the list is a leaf
leaf_of : (n : ℕ) (has : ℕ → Bool) (others : List ℕ) → AreLeaves n has others → (a : ℕ) → Contains others a →
    Contains (leaves_of n has) a
leaf_of n has others same a here =
    let some = count-some (λ t. eqb t a) a others (IsIn-contains a others here) (eq-eqb a a refl) in
    let e = same.counts a in
    let found : (t : ℕ) × IsIn t (leaves_of n has) × (eqb t a ≡ true) =
    some-count (λ t. eqb t a) (leaves_of n has) (omega arith) in
    Contains-in a (leaves_of n has) (subst (λ t. IsIn t (leaves_of n has)) (eqb-true found.0 a found.2) found.1)

-- a list with the leaves of a closed set, each once, is conforming
pub IsConforming-permuted : (n : ℕ) (has : ℕ → Bool) (others : List ℕ) → IsClosed n has →
    AreLeaves n has others → IsConforming n others
IsConforming-permuted n has others closed same =
    let whole : IsConforming n (leaves_of n has) = IsConforming-leaves_of n has closed in
    record {
      addresses = λ k d h. All-contains (IsAddress n) (leaves_of n has) (get_or others k d) whole.addresses
          (leaf_of n has others same (get_or others k d) (Contains-get_or others k d h));
      tiles = λ x y s. sym (count-counts (is_inside n x y) (leaves_of n has) others same.counts) ∙ whole.tiles x y s;
      whole_edges = λ a b p q r in_a in_b. whole.whole_edges a b p q r (leaf_of n has others same a in_a)
          (leaf_of n has others same b in_b);
    }
