-- The mesh of a budget with the least greatest error.
use Rattle.std.proofs.Common.{◌≡◌, ℕ, zero, suc, ◌+◌, ◌-◌, ◌<◌, ◌≤◌, Bool, false, List, length, refl, arith, ⊎_elim, []}
use Rattle.std.proofs.Common.{◌∷◌, sym}
use Rattle.std.proofs.lemmas.Bool.{cases_lt, both_ways}
use Rattle.mesh_defs.specs.Tiling.{IsConforming}
use Rattle.mesh_defs.specs.ClosedSet.{IsClosed, leaves_of}
use Rattle.mesh_defs.specs.Priority.{worst_of}
use Rattle.mesh_defs.proofs.TestLemmas.{same_tests}
use Rattle.mesh_laws.specs.Ancestors.{ancestors_of}
use Rattle.mesh_laws.proofs.ClosureLemmas.{nothing_closed, leaves_of-more, leaves_of-none}
use Rattle.mesh_laws.proofs.LeastLemmas.{length-ancestors}
use Rattle.fit_laws.specs.Error.{IsExactAtFinest}
use Rattle.fit_laws.specs.Settled.{IsNeeded, IsLeastSettled, IsMadeBy}
use Rattle.fit_laws.specs.Budget.{IsBudgetMesh}
use Rattle.mesh_defs.proofs.ListLemmas.{IsIn-contains}
use Rattle.fit_laws.proofs.FitLemmas.{closed-same}
use Rattle.fit_laws.proofs.SettledLemmas.{outer-leaf, needed-step, settled-ancestors, nothing_needed, needed-lower}
use Rattle.fit_laws.proofs.FitLemmas.{fit_found, fit_tight, fit_mesh}

-- what a lower greatest error needs exceeds the budget
pub budget_end : (n budget : ℕ) (error : ℕ → ℕ) (has over : ℕ → Bool) →
    IsLeastSettled n (worst_of error (leaves_of n has)) error has →
    length (leaves_of n has) ≤ budget → (tolerance : ℕ) → worst_of error (leaves_of n has) ≤ tolerance + 1 →
    IsNeeded n tolerance error over → budget < length (leaves_of n over) → IsBudgetMesh n budget error (leaves_of n has)
budget_end n budget error has over fit few tolerance close needed many = record {
  within = few;
  optimal = λ others conforming small. ⊎_elim
      (λ (lower : worst_of error others < worst_of error (leaves_of n has)).
      let more = leaves_of-more n over (ancestors_of others)
      (needed (ancestors_of others) (settled-ancestors n tolerance error others conforming (omega arith))) in
      let same = length-ancestors n others conforming in absurd (omega arith))
      (λ (le : worst_of error (leaves_of n has) ≤ worst_of error others). le)
      (cases_lt (worst_of error others) (worst_of error (leaves_of n has)));
  least = fit_mesh n (worst_of error (leaves_of n has)) error has fit;
}

-- a mesh with no error
pub budget_exact : (n budget : ℕ) (error : ℕ → ℕ) (has : ℕ → Bool) → IsLeastSettled n 0 error has →
    length (leaves_of n has) ≤ budget →
    IsBudgetMesh n budget error (leaves_of n has)
budget_exact n budget error has fit few =
    let none = fit.settled.within in
    record {
      within = few;
      optimal = λ others conforming small. omega arith;
      least = fit_mesh n (worst_of error (leaves_of n has)) error has (fit_tight n 0 error has fit);
    }

-- from a tolerance down, as long as the mesh fits the budget
budget_from : (n budget : ℕ) (error : ℕ → ℕ) → IsExactAtFinest n error → (fuel : ℕ) (has : ℕ → Bool) →
    IsLeastSettled n (worst_of error (leaves_of n has)) error has → length (leaves_of n has) ≤ budget →
    worst_of error (leaves_of n has) < fuel →
    (next : ℕ → Bool) × IsClosed n next × IsBudgetMesh n budget error (leaves_of n next)
budget_from n budget error exact zero has fit few enough = absurd (omega arith)
budget_from n budget error exact (suc fuel) has fit few enough = ⊎_elim
    (λ (some : 0 < worst_of error (leaves_of n has)).
    let less : ℕ = worst_of error (leaves_of n has) - 1 in
    let below : (next : ℕ → Bool) × IsLeastSettled n less error next = fit_found n less error exact in
    ⊎_elim
    (λ (over : budget < length (leaves_of n below.0)).
    (has, fit.settled.closed, budget_end n budget error has below.0 fit few less (omega arith) below.1.needed over))
    (λ (fits : length (leaves_of n below.0) ≤ budget).
    let low : worst_of error (leaves_of n below.0) ≤ less = below.1.settled.within in
    budget_from n budget error exact fuel below.0 (fit_tight n less error below.0 below.1) fits (omega arith))
    (cases_lt budget (length (leaves_of n below.0))))
    (λ (none : worst_of error (leaves_of n has) ≤ 0). (
      has,
      fit.settled.closed,
      budget_exact n budget error has record {
        settled = record { closed = fit.settled.closed; within = none };
        needed = needed-lower n (worst_of error (leaves_of n has)) error has 0 (omega arith) fit.needed;
      } few,
    ))
    (cases_lt 0 (worst_of error (leaves_of n has)))

-- there is one for each budget of at least 2
pub budget_found : (n budget : ℕ) (error : ℕ → ℕ) → IsExactAtFinest n error → 2 ≤ budget →
    (has : ℕ → Bool) × IsClosed n has × IsBudgetMesh n budget error (leaves_of n has)
budget_found n budget error exact low =
    let two : length (leaves_of n (λ a. false)) ≡ 2 = leaves_of-none n (λ a. false) (λ a. refl) in
    let worst : ℕ = worst_of error (leaves_of n (λ a. false)) in
    budget_from n budget error exact (worst + 1) (λ a. false) record {
      settled = record { closed = nothing_closed n; within = omega arith };
      needed = nothing_needed n worst error;
    } (omega arith) (omega arith)

-- and its set is the only one
pub budget_unique : (n budget : ℕ) (error : ℕ → ℕ) (triangles others : List ℕ) → IsBudgetMesh n budget error triangles →
    IsBudgetMesh n budget error others →
    (a : ℕ) → ancestors_of triangles a ≡ ancestors_of others a
budget_unique n budget error triangles others p q a =
    let there = p.optimal others q.least.conforming q.within in
    let back = q.optimal triangles p.least.conforming p.within in
    same_tests (ancestors_of triangles a) (ancestors_of others a)
    (p.least.inside others q.least.conforming (omega arith) a)
    (q.least.inside triangles p.least.conforming (omega arith) a)

-- a greater budget has no greater error
pub budget_fewer : (n budget more : ℕ) (error : ℕ → ℕ) (triangles others : List ℕ) → budget ≤ more →
    IsBudgetMesh n budget error triangles →
    IsBudgetMesh n more error others → worst_of error others ≤ worst_of error triangles
budget_fewer n budget more error triangles others le p q =
    q.optimal triangles p.least.conforming (let w = p.within in omega arith)

-- reasons

-- what they make is closed
made-closed : (n tolerance : ℕ) (error : ℕ → ℕ) (reasons : List ℕ) (has : ℕ → Bool) →
    IsMadeBy n tolerance error reasons has → IsClosed n has
made-closed n tolerance error [] has made = closed-same n (λ a. false) has (λ a. sym (made a)) (nothing_closed n)
made-closed n tolerance error (t ∷ reasons) has made = made.4.closed

-- and needed
pub made-needed : (n tolerance : ℕ) (error : ℕ → ℕ) (reasons : List ℕ) (has : ℕ → Bool) →
    IsMadeBy n tolerance error reasons has →
    IsNeeded n tolerance error has
made-needed n tolerance error [] has made = λ other settled a h. absurd (both_ways (has a) (made a) h)
made-needed n tolerance error (t ∷ reasons) has made =
    let before : ℕ → Bool = made.0 in
    needed-step n tolerance error before has t (made-needed n tolerance error reasons before made.1)
    (outer-leaf n before t (made-closed n tolerance error reasons before made.1)
    (IsIn-contains t (leaves_of n before) made.2)) made.3 made.4

-- so no mesh within the budget has a lower error, where what they make exceeds the budget
pub certificate : (n budget tolerance : ℕ) (error : ℕ → ℕ) (reasons triangles : List ℕ) (has : ℕ → Bool) →
    IsMadeBy n tolerance error reasons has →
    budget < length (leaves_of n has) → worst_of error triangles ≤ tolerance + 1 → (others : List ℕ) →
    IsConforming n others → length others ≤ budget →
    worst_of error triangles ≤ worst_of error others
certificate n budget tolerance error reasons triangles has made many close others conforming small = ⊎_elim
    (λ (lower : worst_of error others < worst_of error triangles).
    let more =
    leaves_of-more n has (ancestors_of others) (made-needed n tolerance error reasons has made (ancestors_of others)
    (settled-ancestors n tolerance error others conforming (omega arith))) in
    let same = length-ancestors n others conforming in absurd (omega arith))
    (λ (le : worst_of error triangles ≤ worst_of error others). le)
    (cases_lt (worst_of error others) (worst_of error triangles))
