-- The least settled set: splitting leaves above the tolerance ends there, and its leaves are a least mesh.
use Rattle.std.proofs.Common.{◌≡◌, ℕ, zero, suc, ◌+◌, ◌*◌, ◌^◌, ◌<◌, ◌≤◌, inl, inr, Bool, false, IsTrue, List, [], ◌∷◌}
use Rattle.std.proofs.Common.{length, Contains, refl, sym, ◌∙◌, ap, arith, ⊎_elim}
use Rattle.std.proofs.lemmas.Bool.{cases_lt}
use Rattle.std.proofs.lemmas.List.Elements.{All-contains}
use Rattle.mesh_defs.specs.Triangle.{level_of, IsAddress, IsSplittable}
use Rattle.mesh_defs.specs.Tiling.{IsConforming}
use Rattle.mesh_defs.specs.ClosedSet.{IsClosed, IsSubset, IsLeastClosed, leaves_of, among}
use Rattle.mesh_defs.specs.Greedy.{with_triangle}
use Rattle.mesh_defs.specs.Priority.{worst_of}
use Rattle.mesh_defs.specs.Falling.{IsFalling}
use Rattle.mesh_defs.proofs.ListLemmas.{IsIn, IsIn-contains, Contains-in}
use Rattle.mesh_defs.proofs.TestLemmas.{same_tests}
use Rattle.bintree_laws.proofs.LevelLemmas.{level-le}
use Rattle.mesh_laws.specs.Ancestors.{ancestors_of}
use Rattle.mesh_laws.proofs.ConformityLemmas.{IsConforming-leaves_of}
use Rattle.mesh_laws.proofs.ConverseLemmas.{IsCovered, member_or_covered}
use Rattle.mesh_laws.proofs.ForcingLemmas.{with-old, with-new}
use Rattle.mesh_laws.proofs.ClosureLemmas.{IsOuter, IsLeastClosed-same, nothing_closed, closure_of, leaves_of-same}
use Rattle.mesh_laws.proofs.ClosureLemmas.{leaves_of-more}
use Rattle.mesh_laws.proofs.SizeLemmas.{length-leaves_of}
use Rattle.mesh_laws.proofs.LeafLemmas.{leaves-most}
use Rattle.mesh_laws.proofs.SetListLemmas.{list_of, ascending-list_of, among-list_of, length-less}
use Rattle.mesh_laws.specs.Least.{is_worse, IsLyingIn, IsLeastMesh}
use Rattle.mesh_laws.proofs.LeastLemmas.{entry_outside, length-ancestors, above_leaf-member, under_cases, least_found}
use Rattle.mesh_laws.proofs.LeastLemmas.{least_within, least_inside}
use Rattle.fit_laws.specs.Error.{IsExactAtFinest}
use Rattle.fit_laws.specs.Settled.{IsNeeded, IsLeastSettled}
use Rattle.fit_laws.proofs.SettledLemmas.{outer-leaf, settled-ancestors, nothing_needed, needed-step}

-- a triangle above a tolerance

-- in a list whose worst is above it
pub worst-over : (error : ℕ → ℕ) (tolerance : ℕ) (xs : List ℕ) → tolerance < worst_of error xs →
    (a : ℕ) × IsIn a xs × (tolerance < error a)
worst-over error tolerance [] h = absurd (omega arith)
worst-over error tolerance (x ∷ xs) h = ⊎_elim
    (λ first. (x, inl refl, first))
    (λ (fits : error x ≤ tolerance).
    let rest : tolerance < worst_of error xs = omega arith in
    let r : (a : ℕ) × IsIn a xs × (tolerance < error a) = worst-over error tolerance xs rest in (r.0, inr r.1, r.2))
    (cases_lt tolerance (error x))

-- it can be split
pub splittable-error : (n : ℕ) (error : ℕ → ℕ) → IsExactAtFinest n error → (a : ℕ) → IsAddress n a →
    0 < error a → IsSplittable n a
splittable-error n error exact a address some = ⊎_elim
    (λ coarse. record { low = address.low; coarse = coarse })
    (λ fine. let fits = level-le n a address in let none = exact a address (omega arith) in absurd (omega arith))
    (cases_lt (level_of a) (2 * n))

-- more members, more leaves

-- a test that agrees with a closed set is one
pub closed-same : (n : ℕ) (has other : ℕ → Bool) → ((a : ℕ) → has a ≡ other a) → IsClosed n has → IsClosed n other
closed-same n has other same c =
    (IsLeastClosed-same n has has other same record {
      closed = c;
      holds = λ a h. h;
      least = λ some d holds. holds;
    }).closed

-- a closed set has two leaves more than members
pub leaves-list : (n : ℕ) (has : ℕ → Bool) → IsClosed n has → length (leaves_of n has) ≡ length (list_of n has) + 2
leaves-list n has closed =
    let same : (a : ℕ) → has a ≡ among (list_of n has) a = among-list_of n has closed in
    ap (λ (l : List ℕ). length l) (leaves_of-same n has (among (list_of n has)) same)
    ∙ length-leaves_of n (list_of n has) (ascending-list_of n has)
    (closed-same n has (among (list_of n has)) same closed)

-- so with one member more it has more leaves
pub leaves-grown : (n : ℕ) (has next : ℕ → Bool) (t : ℕ) → IsClosed n has → IsClosed n next →
    IsSubset has next → IsTrue (next t) →
    (IsTrue (has t) → ⊥) → length (leaves_of n has) < length (leaves_of n next)
leaves-grown n has next t closed shut within member outside =
    let few = leaves-list n has closed in
    let many = leaves-list n next shut in
    let less : length (list_of n has) < length (list_of n next) = length-less (list_of n has) (list_of n next) t
    (ascending-list_of n has) (ascending-list_of n next)
    (λ a h. sym (among-list_of n next shut a) ∙ within a (among-list_of n has closed a ∙ h))
    (sym (among-list_of n next shut t) ∙ member)
    (λ h. outside (among-list_of n has closed t ∙ h)) in
    omega arith

-- the split of a leaf
pub step-grown : (n : ℕ) (has next : ℕ → Bool) (t : ℕ) → IsClosed n has → IsOuter n has t →
    IsLeastClosed n (with_triangle has t) next →
    length (leaves_of n has) < length (leaves_of n next)
step-grown n has next t closed outer least =
    leaves-grown n has next t closed least.closed (λ a h. least.holds a (with-old has t a h))
    (least.holds t (with-new has t)) outer.outside

-- existence

-- from what is needed, as long as there is room for more leaves
fit_from : (n tolerance : ℕ) (error : ℕ → ℕ) → IsExactAtFinest n error → (fuel : ℕ) (has : ℕ → Bool) → IsClosed n has →
    IsNeeded n tolerance error has →
    2 * 4 ^ n < length (leaves_of n has) + fuel → (next : ℕ → Bool) × IsLeastSettled n tolerance error next
fit_from n tolerance error exact zero has closed needed enough = let most = leaves-most n has in absurd (omega arith)
fit_from n tolerance error exact (suc fuel) has closed needed enough = ⊎_elim
    (λ over.
    let t : (a : ℕ) × IsIn a (leaves_of n has) × (tolerance < error a) =
    worst-over error tolerance (leaves_of n has) over in
    let outer : IsOuter n has t.0 = outer-leaf n has t.0 closed t.1 in
    let above : tolerance < error t.0 = t.2 in
    let next : (next : ℕ → Bool) × IsLeastClosed n (with_triangle has t.0) next =
    closure_of n has t.0 closed (splittable-error n error exact t.0 outer.address (omega arith)) in
    let grown = step-grown n has next.0 t.0 closed outer next.1 in
    fit_from n tolerance error exact fuel next.0 next.1.closed
    (needed-step n tolerance error has next.0 t.0 needed outer above next.1) (omega arith))
    (λ fits. (has, record { settled = record { closed = closed; within = fits }; needed = needed }))
    (cases_lt tolerance (worst_of error (leaves_of n has)))

-- there is one
pub fit_found : (n tolerance : ℕ) (error : ℕ → ℕ) → IsExactAtFinest n error →
    (has : ℕ → Bool) × IsLeastSettled n tolerance error has
fit_found n tolerance error exact =
    fit_from n tolerance error exact (2 * 4 ^ n + 1) (λ a. false) (nothing_closed n)
    (nothing_needed n tolerance error) (omega arith)

-- there is only one
pub fit_unique : (n tolerance : ℕ) (error : ℕ → ℕ) (has other : ℕ → Bool) → IsLeastSettled n tolerance error has →
    IsLeastSettled n tolerance error other →
    (a : ℕ) → has a ≡ other a
fit_unique n tolerance error has other p q a =
    same_tests (has a) (other a) (p.needed other q.settled a) (q.needed has p.settled a)

-- it is the one for its own greatest error
pub fit_tight : (n tolerance : ℕ) (error : ℕ → ℕ) (has : ℕ → Bool) → IsLeastSettled n tolerance error has →
    IsLeastSettled n (worst_of error (leaves_of n has)) error has
fit_tight n tolerance error has fit =
    let w = fit.settled.within in
    record {
      settled = record { closed = fit.settled.closed; within = omega arith };
      needed = λ other s. fit.needed other record { closed = s.closed; within = (let v = s.within in omega arith) };
    }

-- a looser tolerance needs no more triangles
pub fit_fewer : (n tolerance looser : ℕ) (error : ℕ → ℕ) (has other : ℕ → Bool) → tolerance ≤ looser →
    IsLeastSettled n tolerance error has →
    IsLeastSettled n looser error other → length (leaves_of n other) ≤ length (leaves_of n has)
fit_fewer n tolerance looser error has other le p q =
    leaves_of-more n other has (q.needed has record {
      closed = p.settled.closed;
      within = (let w = p.settled.within in omega arith);
    })

-- the mesh

module _ (n tolerance : ℕ) (error : ℕ → ℕ) (has : ℕ → Bool) (fit : IsLeastSettled n tolerance error has) where
  module _ (others : List ℕ) (conforming : IsConforming n others) (within : worst_of error others ≤ tolerance) where
    -- each conforming list within the tolerance has all of it split
    pub fit_inside : IsSubset has (ancestors_of others)
    fit_inside = fit.needed (ancestors_of others) (settled-ancestors n tolerance error others conforming within)

    -- so it has as many triangles at least
    pub fit_fewest : length (leaves_of n has) ≤ length others
    fit_fewest =
        let more = leaves_of-more n has (ancestors_of others) fit_inside in
        let same = length-ancestors n others conforming in omega arith

    -- and each of them lies in a leaf
    pub fit_refined : (a : ℕ) → Contains others a → IsLyingIn (leaves_of n has) a
    fit_refined a listed =
        let closed : IsClosed n has = fit.settled.closed in
        let address : IsAddress n a = All-contains (IsAddress n) others a conforming.addresses listed in
        ⊎_elim
        (λ above. absurd (entry_outside n others conforming a (IsIn-contains a others listed)
        (fit_inside a (above_leaf-member n has closed a above))))
        (λ (c : IsCovered n (leaves_of n has) (IsConforming-leaves_of n has closed) a). (
          c.entry,
          Contains-in c.entry (leaves_of n has) c.listed,
          under_cases c.entry a (outer-leaf n has c.entry closed c.listed).address.low c.under,
        ))
        (member_or_covered n (leaves_of n has) (IsConforming-leaves_of n has closed) a address)

  -- so its leaves are a least mesh
  pub fit_mesh : IsLeastMesh n tolerance error (leaves_of n has)
  fit_mesh = record {
    conforming = IsConforming-leaves_of n has fit.settled.closed;
    within = fit.settled.within;
    inside = λ others conforming within a above.
        fit_inside others conforming within a (above_leaf-member n has fit.settled.closed a above);
    fewest = fit_fewest;
    refined = fit_refined;
  }

-- priorities that fall

-- the closure of what is worse than the tolerance is the least settled set
pub least-fit : (n tolerance : ℕ) (priority : ℕ → ℕ) (has : ℕ → Bool) → IsFalling n priority →
    IsLeastClosed n (is_worse n tolerance priority) has →
    IsLeastSettled n tolerance priority has
least-fit n tolerance priority has falling closure = record {
  settled = record { closed = closure.closed; within = least_within n tolerance priority has falling closure };
  needed = λ other s a h. above_leaf-member n other s.closed a
      (least_inside n tolerance priority has falling closure (leaves_of n other)
      (IsConforming-leaves_of n other s.closed) s.within a h);
}

-- and the other way round
pub fit-least : (n tolerance : ℕ) (priority : ℕ → ℕ) (has : ℕ → Bool) → IsFalling n priority →
    IsLeastSettled n tolerance priority has →
    IsLeastClosed n (is_worse n tolerance priority) has
fit-least n tolerance priority has falling fit =
    let c = least_found n tolerance priority in
    IsLeastClosed-same n (is_worse n tolerance priority) c.0 has
    (fit_unique n tolerance priority c.0 has (least-fit n tolerance priority c.0 falling c.1) fit) c.1
