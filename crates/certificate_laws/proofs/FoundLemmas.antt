-- Each target that is possible has a sound certificate: what is off is split, leaf after leaf, until nothing is.
use Rattle.std.proofs.Common.{◌≡◌, ℕ, zero, suc, ◌+◌, ◌-◌, ◌*◌, ◌^◌, ◌<◌, ◌≤◌, ◌⊎◌, inl, inr, Bool, true, false, cond}
use Rattle.std.proofs.Common.{max, List, [], ◌∷◌, ◌++◌, map, length, Contains, refl, sym, ap, subst, arith, ⊎_elim}
use Rattle.std.specs.List.{filter, flat_map, range_with_len}
use Rattle.std.proofs.lemmas.Bool.{cases_lt}
use Rattle.mesh_defs.specs.declared.point.Point.{Point}
use Rattle.mesh_defs.specs.HeightField.{side_of}
use Rattle.mesh_defs.specs.Triangle.{IsSplittable}
use Rattle.mesh_defs.specs.BoundingBox.{point, points_of, holds_point, greatest}
use Rattle.mesh_defs.specs.ClosedSet.{IsClosed, IsLeastClosed, leaves_of}
use Rattle.mesh_defs.specs.Greedy.{with_triangle}
use Rattle.mesh_defs.specs.Priority.{worst_of}
use Rattle.mesh_defs.proofs.ListLemmas.{IsIn, Contains-in}
use Rattle.mesh_defs.proofs.PointLemmas.{IsPointIn, greatest-cond}
use Rattle.mesh_laws.proofs.ClosureLemmas.{IsOuter, closure_of, nothing_closed}
use Rattle.mesh_laws.proofs.LeafLemmas.{leaves-most}
use Rattle.fit_laws.specs.PlaneHeight.{off_plane}
use Rattle.fit_laws.specs.Error.{error_of}
use Rattle.fit_laws.proofs.SettledLemmas.{outer-leaf}
use Rattle.fit_laws.proofs.ErrorLemmas.{error-finest}
use Rattle.fit_laws.proofs.FitLemmas.{worst-over, splittable-error, step-grown}
use Rattle.fit_laws.proofs.BudgetLemmas.{budget_found}
use Rattle.certificate_laws.specs.declared.fit_reason.Witness.{Witness}
use Rattle.certificate_laws.specs.declared.fit_reason.Target.{Target}
use Rattle.certificate_laws.specs.declared.fit_reason.Target.TheVariants.{Error, Budget}
use Rattle.certificate_laws.specs.FitCertificate.{FitCertificate, IsOff, IsFitReason, LeadsTo, IsFitSound}
use Rattle.certificate_laws.specs.Making.{IsPossible, IsBestTolerance, IsBelow, HasNoneBehind}
use Rattle.certificate_laws.proofs.LeadLemmas.{leads-closed}
use Rattle.certificate_laws.proofs.FitMakeLemmas.{made-sound}

-- a point that is off

-- one that passes has a value above each number that the greatest value is above
greatest-over : (f : Point → ℕ) (p : Point → Bool) (m : ℕ) (xs : List Point) → m < greatest (map f (filter p xs)) →
    (x : Point) × IsPointIn x xs × (p x ≡ true) × (m < f x)
greatest-over f p m [] over = absurd (omega arith)
greatest-over f p m (x ∷ xs) over =
    go (p x) refl (λ less. greatest-over f p m xs less)
    (subst (λ k. m < k) (greatest-cond f (p x) x (filter p xs)) over)
  where
    later : ((y : Point) × IsPointIn y xs × (p y ≡ true) × (m < f y)) →
        (y : Point) × IsPointIn y (x ∷ xs) × (p y ≡ true) × (m < f y)
    later rest = (rest.0, inr rest.1, rest.2, rest.3)

    go : (t : Bool) → p x ≡ t →
        (m < greatest (map f (filter p xs)) → (y : Point) × IsPointIn y xs × (p y ≡ true) × (m < f y))
        → m < cond t (max (f x) (greatest (map f (filter p xs)))) (greatest (map f (filter p xs)))
        → (y : Point) × IsPointIn y (x ∷ xs) × (p y ≡ true) × (m < f y)
    go true is others less = ⊎_elim
        (λ (here : m < f x). (x, inl refl, is, here))
        (λ (low : f x ≤ m). later (others (omega arith)))
        (cases_lt m (f x))
    go false is others less = later (others less)

-- the points of the grid lie in the square

in-append : (x : Point) (xs ys : List Point) → IsPointIn x (xs ++ ys) → IsPointIn x xs ⊎ IsPointIn x ys
in-append x [] ys h = inr h
in-append x (z ∷ zs) ys (inl e) = inl (inl e)
in-append x (z ∷ zs) ys (inr h) =
    ⊎_elim (λ (a : IsPointIn x zs). inl (inr a)) (λ (b : IsPointIn x ys). inr b) (in-append x zs ys h)

row-in : (y a k : ℕ) (r : Point) → IsPointIn r (map (λ i. point i y) (range_with_len a k)) → (r.x < a + k) × (r.y ≡ y)
row-in y a zero r h = absurd h
row-in y a (suc k) r (inl e) = (let same = ap (λ (q : Point). q.x) e in omega arith, ap (λ (q : Point). q.y) e)
row-in y a (suc k) r (inr h) = let rest = row-in y (a + 1) k r h in (let less = rest.0 in omega arith, rest.1)

rows-in : (side a k : ℕ) (r : Point) →
    IsPointIn r (flat_map (λ j. map (λ i. point i j) (range_with_len 0 side)) (range_with_len a k)) →
    (r.x < side) × (r.y < a + k)
rows-in side a zero r h = absurd h
rows-in side a (suc k) r h = ⊎_elim
    (λ (here : IsPointIn r (map (λ i. point i a) (range_with_len 0 side))).
    let row = row-in a 0 side r here in (let less = row.0 in omega arith, let same = row.1 in omega arith))
    (λ (there : IsPointIn r (flat_map (λ j. map (λ i. point i j) (range_with_len 0 side)) (range_with_len (a + 1) k))).
    let rest = rows-in side (a + 1) k r there in (rest.0, let less = rest.1 in omega arith))
    (in-append r (map (λ i. point i a) (range_with_len 0 side))
    (flat_map (λ j. map (λ i. point i j) (range_with_len 0 side)) (range_with_len (a + 1) k)) h)

points-within : (n : ℕ) (r : Point) → IsPointIn r (points_of n) → (r.x < side_of n) × (r.y < 0 + side_of n)
unfolding points_of
points-within n r h = rows-in (side_of n) 0 (side_of n) r h

-- a triangle with an error above the tolerance has a point that is off
pub error-point : (n : ℕ) (heights : List ℕ) (tolerance a : ℕ) → tolerance < error_of n heights a →
    (r : Witness) × (r.triangle ≡ a) × IsOff n heights tolerance r
unfolding error_of
error-point n heights tolerance a over =
    let found = greatest-over (off_plane n heights a) (holds_point n a) tolerance (points_of n) over in
    let within = points-within n found.0 found.1 in
    let column = within.0 in let row = within.1 in (
      record { triangle = a; x = found.0.x; y = found.0.y },
      refl,
      record { column = omega arith; row = omega arith; held = found.2; above = found.3 },
    )

-- reasons

-- from a set they lead to one without an error above the tolerance
abbrev pub Settles : ℕ → List ℕ → ℕ → (ℕ → Bool) → Type 0
Settles n heights tolerance has =
    (reasons : List Witness) × (after : ℕ → Bool) × LeadsTo n heights tolerance has reasons after
    × (worst_of (error_of n heights) (leaves_of n after) ≤ tolerance)

settles_from : (n : ℕ) (heights : List ℕ) (tolerance fuel : ℕ) (has : ℕ → Bool) → IsClosed n has →
    2 * 4 ^ n < length (leaves_of n has) + fuel → Settles n heights tolerance has
settles_from n heights tolerance zero has closed enough = let most = leaves-most n has in absurd (omega arith)
settles_from n heights tolerance (suc fuel) has closed enough = ⊎_elim
    (λ over.
    let t : (a : ℕ) × IsIn a (leaves_of n has) × (tolerance < error_of n heights a) =
    worst-over (error_of n heights) tolerance (leaves_of n has) over in
    let outer : IsOuter n has t.0 = outer-leaf n has t.0 closed t.1 in
    let above : tolerance < error_of n heights t.0 = t.2 in
    let splittable = splittable-error n (error_of n heights) (error-finest n heights) t.0 outer.address (omega arith) in
    let next : (next : ℕ → Bool) × IsLeastClosed n (with_triangle has t.0) next =
    closure_of n has t.0 closed splittable in
    let grown = step-grown n has next.0 t.0 closed outer next.1 in
    let r = error-point n heights tolerance t.0 above in
    let rest = settles_from n heights tolerance fuel next.0 next.1.closed (omega arith) in
    let reason : IsFitReason n heights tolerance has r.0 =
    record {
      splittable = subst (λ k. IsSplittable n k) (sym r.1) splittable;
      leaf = subst (λ k. Contains (leaves_of n has) k) (sym r.1) (Contains-in t.0 (leaves_of n has) t.1);
      off = r.2;
    } in (
      r.0 ∷ rest.0,
      rest.1,
      (next.0, reason, subst (λ k. IsLeastClosed n (with_triangle has k) next.0) (sym r.1) next.1, rest.2),
      rest.3,
    ))
    (λ fits. ([], has, (λ a. refl), fits))
    (cases_lt tolerance (worst_of (error_of n heights) (leaves_of n has)))

pub settles : (n : ℕ) (heights : List ℕ) (tolerance : ℕ) (has : ℕ → Bool) → IsClosed n has → Settles n heights tolerance has
settles n heights tolerance has closed = settles_from n heights tolerance (2 * 4 ^ n + 1) has closed (omega arith)

-- a certificate

-- the tolerance
tolerance_found : (n : ℕ) (heights : List ℕ) (target : Target) → IsPossible target →
    (own : ℕ) × IsBestTolerance n (error_of n heights) target own
tolerance_found n heights (Error tolerance) possible = (tolerance, refl)
tolerance_found n heights (Budget triangles) possible =
    let found = budget_found n triangles (error_of n heights) (error-finest n heights) possible in
    let mesh : List ℕ = leaves_of n found.0 in
    (worst_of (error_of n heights) mesh, (mesh, found.2.least, found.2.within, refl, λ some. found.2))

-- the reasons behind a mesh: for a budget until nothing is above the next lower tolerance, and for an error none
abbrev Behind : ℕ → List ℕ → Target → ℕ → (ℕ → Bool) → Type 0
Behind n heights target lower has =
    (reasons : List Witness) × (after : ℕ → Bool) × LeadsTo n heights lower has reasons after
    × IsBelow target (error_of n heights) lower (leaves_of n after) × HasNoneBehind target reasons

behind_found : (n : ℕ) (heights : List ℕ) (target : Target) (lower : ℕ) (has : ℕ → Bool) → IsClosed n has →
    Behind n heights target lower has
behind_found n heights (Error tolerance) lower has closed = ([], has, (λ a. refl), tt, refl)
behind_found n heights (Budget triangles) lower has closed =
    let found = settles n heights lower has closed in (found.0, found.1, found.2, found.3, tt)

-- each possible target has a sound certificate, for an error without reasons behind the mesh
pub sound_found : (n : ℕ) (heights : List ℕ) (target : Target) → IsPossible target →
    (cert : FitCertificate) × (mesh : List ℕ) × IsFitSound n heights target cert mesh × HasNoneBehind target cert.beyond
sound_found n heights target possible =
    let own = tolerance_found n heights target possible in
    let before = settles n heights own.0 (λ a. false) (nothing_closed n) in
    let behind = behind_found n heights target (own.0 - 1) before.1
    (leads-closed n heights own.0 (λ a. false) before.0 before.1 (nothing_closed n) before.2) in
    let cert : FitCertificate = record { tolerance = own.0; needed = before.0; beyond = behind.0 } in (
      cert,
      leaves_of n before.1,
      made-sound n heights cert before.1 behind.1 record { needed = before.2; within = before.3 } behind.2 target own.1
          behind.3,
      behind.4,
    )
