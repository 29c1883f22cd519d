-- The leaves of a closed set, depth first, are those of the ancestors of its leaves; so of two best meshes depth first
-- there is one.
use Rattle.std.proofs.Common.{◌≡◌, ℕ, Bool, List, sym, ◌∙◌, ⊎_elim}
use Rattle.mesh_defs.specs.ClosedSet.{IsClosed, IsSubset, leaves_of}
use Rattle.mesh_defs.proofs.TestLemmas.{same_tests}
use Rattle.mesh_laws.specs.Ancestors.{ancestors_of}
use Rattle.mesh_laws.proofs.DescentLemmas.{IsAddress-splittable}
use Rattle.mesh_laws.proofs.ConformityLemmas.{IsConforming-leaves_of, member_above}
use Rattle.mesh_laws.proofs.ConverseLemmas.{IsCovered, member_or_covered}
use Rattle.mesh_laws.proofs.ClosureLemmas.{leaves_of-same}
use Rattle.mesh_laws.specs.Least.{IsLeastMesh}
use Rattle.mesh_laws.proofs.LeastLemmas.{above_leaf-member}
use Rattle.fit_laws.specs.Budget.{IsBudgetMesh}
use Rattle.fit_laws.proofs.BudgetLemmas.{budget_unique}
use Rattle.fit_laws.proofs.SettledLemmas.{outer-leaf}

-- a member of a closed set lies above a leaf of it
pub member-above_leaf : (n : ℕ) (has : ℕ → Bool) → IsClosed n has → IsSubset has (ancestors_of (leaves_of n has))
member-above_leaf n has closed a member = ⊎_elim
    (λ above. above)
    (λ (c : IsCovered n (leaves_of n has) (IsConforming-leaves_of n has closed) a).
    absurd ((outer-leaf n has c.entry closed c.listed).outside
    (member_above has closed.parent c.entry a c.under member)))
    (member_or_covered n (leaves_of n has) (IsConforming-leaves_of n has closed) a
    (IsAddress-splittable n a (closed.splittable a member)))

-- so what lies above its leaves is the set
pub ancestors-leaves : (n : ℕ) (has : ℕ → Bool) → IsClosed n has → (a : ℕ) → ancestors_of (leaves_of n has) a ≡ has a
ancestors-leaves n has closed a =
    same_tests (ancestors_of (leaves_of n has) a) (has a) (above_leaf-member n has closed a)
    (member-above_leaf n has closed a)

-- and the leaves, depth first, are those of what lies above them
pub leaves-order : (n : ℕ) (has : ℕ → Bool) → IsClosed n has →
    leaves_of n (ancestors_of (leaves_of n has)) ≡ leaves_of n has
leaves-order n has closed = leaves_of-same n (ancestors_of (leaves_of n has)) has (ancestors-leaves n has closed)

-- there is one least mesh of a tolerance, depth first
pub least-one : (n tolerance : ℕ) (error : ℕ → ℕ) (triangles others : List ℕ) →
    IsLeastMesh n tolerance error triangles → IsLeastMesh n tolerance error others →
    leaves_of n (ancestors_of triangles) ≡ triangles → leaves_of n (ancestors_of others) ≡ others → triangles ≡ others
least-one n tolerance error triangles others p q listed listed' =
    sym listed
    ∙ leaves_of-same n (ancestors_of triangles) (ancestors_of others)
    (λ a. same_tests (ancestors_of triangles a) (ancestors_of others a)
    (p.inside others q.conforming q.within a) (q.inside triangles p.conforming p.within a))
    ∙ listed'

-- and one mesh of a budget
pub budget-one : (n budget : ℕ) (error : ℕ → ℕ) (triangles others : List ℕ) → IsBudgetMesh n budget error triangles →
    IsBudgetMesh n budget error others →
    leaves_of n (ancestors_of triangles) ≡ triangles → leaves_of n (ancestors_of others) ≡ others → triangles ≡ others
budget-one n budget error triangles others p q listed listed' =
    sym listed ∙ leaves_of-same n (ancestors_of triangles) (ancestors_of others)
    (budget_unique n budget error triangles others p q) ∙ listed'
