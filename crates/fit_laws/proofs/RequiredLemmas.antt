-- Required splits: a raised error asks for them, and the least settled set that has them is a least mesh that has them.
use Rattle.std.proofs.Common.{◌⊎◌, ◌/◌, inl, inr, ◌≡◌, ℕ, ◌+◌, ◌*◌, ◌^◌, ◌<◌, ◌≤◌, ◌↔◌, Bool, true, false, eqb, IsTrue}
use Rattle.std.proofs.Common.{◌||◌, count_by, List, length, Contains, max, refl, sym, ◌∙◌, subst, arith, ⊎_elim, eq-eqb}
use Rattle.std.specs.List.{filter, range_with_len}
use Rattle.std.proofs.lemmas.Bool.{cases_Bool, both_ways, or_cases, or_left, or_right, eqb-true}
use Rattle.std.proofs.lemmas.List.Elements.{All-contains}
use Rattle.mesh_defs.specs.Triangle.{IsAddress, IsSplittable}
use Rattle.mesh_defs.specs.Tiling.{IsConforming}
use Rattle.mesh_defs.specs.ClosedSet.{IsClosed, IsSubset, IsLeastClosed, leaves_of}
use Rattle.mesh_defs.specs.Priority.{worst_of}
use Rattle.mesh_defs.proofs.TestLemmas.{same_tests}
use Rattle.mesh_defs.proofs.WorstLemmas.{worst-le, le-worst}
use Rattle.mesh_defs.proofs.ListLemmas.{IsIn, IsIn-contains, Contains-in, Any-in, list_any-in, count-some, some-count}
use Rattle.mesh_defs.proofs.ListLemmas.{length-counts}
use Rattle.bintree_laws.proofs.LevelLemmas.{splittable-below}
use Rattle.mesh_laws.specs.Ancestors.{is_above, ancestors_of, AreLeaves}
use Rattle.mesh_laws.proofs.DescentLemmas.{IsAddress-splittable}
use Rattle.mesh_laws.proofs.ConformityLemmas.{IsUnder, self, below, IsUnder-up, IsConforming-leaves_of, member_above}
use Rattle.mesh_laws.proofs.ConverseLemmas.{IsCovered, member_or_covered, under-above}
use Rattle.mesh_laws.proofs.ConverseLemmas.{IsClosed-ancestors_of}
use Rattle.mesh_laws.proofs.PermutedLemmas.{IsConforming-permuted}
use Rattle.mesh_laws.proofs.ClosureLemmas.{leaves_of-more, leaves_of-same}
use Rattle.mesh_laws.proofs.SetListLemmas.{in-filter, filter-in, in-range}
use Rattle.mesh_laws.specs.Least.{IsLyingIn, IsLeastMesh}
use Rattle.mesh_laws.proofs.LeastLemmas.{entry_outside, length-ancestors, above_leaf-member, under_cases}
use Rattle.fit_laws.specs.Error.{IsExactAtFinest}
use Rattle.fit_laws.specs.Settled.{IsFineEnough, IsLeastSettled}
use Rattle.fit_laws.proofs.SettledLemmas.{outer-leaf, settled-outer, outer-settled, settled-ancestors}
use Rattle.fit_laws.proofs.FitLemmas.{fit_found, leaves-grown}
use Rattle.fit_laws.proofs.OrderLemmas.{member-above_leaf, ancestors-leaves}
use Rattle.mesh_laws.proofs.ExistenceLemmas.{least_closed_of}
use Rattle.fit_laws.specs.Required.{is_wanted, IsTestFor, IsRaised, raise, IsLeastSettledWith, IsMeshWith}
use Rattle.fit_laws.specs.Required.{IsLeastMeshWith}

-- what is wanted

module _ (n : ℕ) (required : ℕ → Bool) (splittable : (a : ℕ) → IsTrue (required a) → IsSplittable n a) where
  -- at or below what is wanted there is a required triangle
  wanted-parts : (a : ℕ) → is_wanted n required a ≡ true → (r : ℕ) × IsTrue (required r) × IsUnder a r
  wanted-parts a h =
      let found = Any-in (λ r. eqb r a || is_above a r) (filter required (range_with_len 0 (4 * 2 ^ (2 * n)))) h in
      let is = in-filter required found.0 (range_with_len 0 (4 * 2 ^ (2 * n))) found.1 in (
        found.0,
        is.1,
        ⊎_elim
            (λ same. subst (λ z. IsUnder a z) (sym (eqb-true found.0 a same)) self)
            (λ above. let u = under-above a found.0 above in below found.0 u.1 u.2)
            (or_cases (eqb found.0 a) (is_above a found.0) found.2),
      )

  -- and what is at or above a required triangle is wanted
  wanted-from : (a r : ℕ) → 2 ≤ a → IsTrue (required r) → IsUnder a r → is_wanted n required a ≡ true
  wanted-from a r low is under =
      let small = splittable-below n r (splittable r is) in
      list_any-in (λ r. eqb r a || is_above a r) (filter required (range_with_len 0 (4 * 2 ^ (2 * n)))) r
      (filter-in required r (range_with_len 0 (4 * 2 ^ (2 * n)))
      (in-range 0 (4 * 2 ^ (2 * n)) r (omega arith) (omega arith)) is)
      (⊎_elim
      (λ same. or_left (eqb r a) (is_above a r) (eq-eqb r a (sym same)))
      (λ above. or_right (eqb r a) (is_above a r) above)
      (under_cases a r low under))

  -- in words
  pub wanted-iff : (a : ℕ) → 2 ≤ a →
      IsTrue (is_wanted n required a) ↔ ((r : ℕ) × IsTrue (required r) × ((r ≡ a) ⊎ IsTrue (is_above a r)))
  wanted-iff a low = (
    (λ h. let w = wanted-parts a h in (
      w.0,
      w.1,
      ⊎_elim (λ same. inl (sym same)) (λ above. inr above)
          (under_cases a w.0 low w.2),
    )),
    (λ (w : (r : ℕ) × IsTrue (required r) × ((r ≡ a) ⊎ IsTrue (is_above a r))). wanted-from a w.0 low w.1 (⊎_elim
        (λ same. subst (λ z. IsUnder a z) (sym same) self)
        (λ above. let u = under-above a w.0 above in below w.0 u.1 u.2)
        w.2)),
  )

  -- with a triangle its parent is wanted
  pub wanted-parent : (a : ℕ) → 4 ≤ a → IsTrue (is_wanted n required a) → IsTrue (is_wanted n required (a / 2))
  wanted-parent a big h =
      let w = wanted-parts a h in wanted-from (a / 2) w.0 (omega arith) w.1 (IsUnder-up a w.0 big w.2)

  -- so it is a test for what is required
  pub wanted-test : IsTestFor n required (is_wanted n required)
  wanted-test = record {
    told = λ a r low is place. (wanted-iff a low).1 (r, is, place);
    forced = λ a h other closed splits.
        let w = wanted-parts a h in member_above other closed.parent a w.0 w.2 (splits w.0 w.1);
  }

-- the closure of what is required is a test for it
pub closure-test : (n : ℕ) (required has : ℕ → Bool) → IsLeastClosed n required has → IsTestFor n required has
closure-test n required has least = record {
  told = λ a r low is place. ⊎_elim
      (λ same. subst (λ z. IsTrue (has z)) same (least.holds r is))
      (λ above. let u = under-above a r above in
      member_above has least.closed.parent a r (below r u.1 u.2) (least.holds r is))
      place;
  forced = λ a h other closed splits. least.least other closed splits a h;
}

-- raised errors

module _ (n : ℕ) (required wanted : ℕ → Bool) (splittable : (a : ℕ) → IsTrue (required a) → IsSplittable n a)
    (test : IsTestFor n required wanted) where
  module _ (tolerance : ℕ) (error raised : ℕ → ℕ) (up : IsRaised tolerance wanted error raised) where
    -- a set that is settled for the raised error has all that is required
    raised-splits : (has : ℕ → Bool) → IsFineEnough n tolerance raised has → IsSubset required has
    raised-splits has fine r is = ⊎_elim
        (λ above. above_leaf-member n has fine.closed r above)
        (λ (c : IsCovered n (leaves_of n has) (IsConforming-leaves_of n has fine.closed) r).
        let outer = outer-leaf n has c.entry fine.closed c.listed in
        let fits = settled-outer n tolerance raised has c.entry fine outer in
        let over = up.above c.entry (test.told c.entry r outer.address.low is (⊎_elim
        (λ same. inl (sym same))
        (λ above. inr above)
        (under_cases c.entry r outer.address.low c.under))) in
        absurd (omega arith))
        (member_or_covered n (leaves_of n has) (IsConforming-leaves_of n has fine.closed) r
        (IsAddress-splittable n r (splittable r is)))

    -- outside a closed set with all that is required nothing is wanted
    outside-unwanted : (has : ℕ → Bool) → IsClosed n has → IsSubset required has → (a : ℕ) → (IsTrue (has a) → ⊥) →
        wanted a ≡ false
    outside-unwanted has closed splits a outside = ⊎_elim
        (λ is. absurd (outside (test.forced a is has closed splits)))
        (λ no. no)
        (cases_Bool (wanted a))

    -- it is settled for the error, too
    raised-fine : (has : ℕ → Bool) → IsFineEnough n tolerance raised has → IsFineEnough n tolerance error has
    raised-fine has fine = outer-settled n tolerance error has fine.closed (λ a outer.
        let fits = settled-outer n tolerance raised has a fine outer in
        let same = up.same a (outside-unwanted has fine.closed (raised-splits has fine) a outer.outside) in
        omega arith)

    -- and a set that is settled for the error and has all that is required is settled for the raised one
    fine-raised : (has : ℕ → Bool) → IsFineEnough n tolerance error has → IsSubset required has →
        IsFineEnough n tolerance raised has
    fine-raised has fine splits = outer-settled n tolerance raised has fine.closed (λ a outer.
        let fits = settled-outer n tolerance error has a fine outer in
        let same = up.same a (outside-unwanted has fine.closed splits a outer.outside) in
        omega arith)

    -- so the least settled set of the one is the least with all that is required of the other
    pub raised-least : (has : ℕ → Bool) →
        IsLeastSettled n tolerance raised has ↔ IsLeastSettledWith n tolerance error required has
    raised-least has = (
      (λ least. record {
        settled = raised-fine has least.settled;
        splits = raised-splits has least.settled;
        needed = λ other fine splits. least.needed other (fine-raised other fine splits);
      }),
      (λ least. record {
        settled = fine-raised has least.settled least.splits;
        needed = λ other fine. least.needed other (raised-fine other fine) (raised-splits other fine);
      }),
    )

    -- the same for lists

    -- a conforming list within the tolerance of the raised error
    raised-mesh_with : (others : List ℕ) → IsConforming n others → worst_of raised others ≤ tolerance →
        IsMeshWith n tolerance error required others
    raised-mesh_with others conforming within =
        let fine = settled-ancestors n tolerance raised others conforming within in
        let splits = raised-splits (ancestors_of others) fine in
        record {
          conforming = conforming;
          within = worst-le error tolerance others (λ a listed.
              let low = le-worst raised a others listed in
              let same = up.same a (outside-unwanted (ancestors_of others) fine.closed splits a
              (entry_outside n others conforming a listed)) in omega arith);
          splits = splits;
        }

    -- and back
    mesh_with-raised : (others : List ℕ) → IsMeshWith n tolerance error required others →
        worst_of raised others ≤ tolerance
    mesh_with-raised others mesh = worst-le raised tolerance others (λ a listed.
        let low = le-worst error a others listed in
        let within = mesh.within in
        let same = up.same a (outside-unwanted (ancestors_of others) (IsClosed-ancestors_of n others mesh.conforming)
        mesh.splits a (entry_outside n others mesh.conforming a listed)) in omega arith)

    -- the least mesh of the one is the least mesh with all that is required of the other
    pub raised-mesh : (triangles : List ℕ) →
        IsLeastMesh n tolerance raised triangles ↔ IsLeastMeshWith n tolerance error required triangles
    raised-mesh triangles = (
      (λ least. record {
        mesh = raised-mesh_with triangles least.conforming least.within;
        inside = λ others m. least.inside others m.conforming (mesh_with-raised others m);
        fewest = λ others m. least.fewest others m.conforming (mesh_with-raised others m);
        refined = λ others m. least.refined others m.conforming (mesh_with-raised others m);
      }),
      (λ least. record {
        conforming = least.mesh.conforming;
        within = mesh_with-raised triangles least.mesh;
        inside = λ others conforming within. least.inside others (raised-mesh_with others conforming within);
        fewest = λ others conforming within. least.fewest others (raised-mesh_with others conforming within);
        refined = λ others conforming within. least.refined others (raised-mesh_with others conforming within);
      }),
    )

    -- a finest triangle has no raised error
    pub raised-exact : IsExactAtFinest n error → IsExactAtFinest n raised
    raised-exact exact a address fine = ⊎_elim
        (λ is.
        let c = least_closed_of n required splittable in
        let coarse = (c.1.closed.splittable a (test.forced a is c.0 c.1.closed c.1.holds)).coarse in
        absurd (omega arith))
        (λ no. up.same a no ∙ exact a address fine)
        (cases_Bool (wanted a))

-- there is a raised error
pub raise-raised : (tolerance : ℕ) (wanted : ℕ → Bool) (error : ℕ → ℕ) →
    IsRaised tolerance wanted error (raise tolerance wanted error)
raise-raised tolerance wanted error = record {
  above = λ a is. over a (wanted a) is;
  same = λ a other. even a (wanted a) other;
}
  where
    over : (a : ℕ) (b : Bool) → b ≡ true →
        tolerance < elim b as (λ _. ℕ) [ true ↦ max (error a) (tolerance + 1) | false ↦ error a ]
    over a true e = omega arith
    over a false e = absurd (both_ways false refl e)

    even : (a : ℕ) (b : Bool) → b ≡ false →
        elim b as (λ _. ℕ) [ true ↦ max (error a) (tolerance + 1) | false ↦ error a ] ≡ error a
    even a true e = absurd (both_ways true e refl)
    even a false e = refl

-- so there is a least settled set with all that is required
pub with-found : (n : ℕ) (required : ℕ → Bool) → ((a : ℕ) → IsTrue (required a) → IsSplittable n a) →
    (tolerance : ℕ) (error : ℕ → ℕ) → IsExactAtFinest n error →
    (has : ℕ → Bool) × IsLeastSettledWith n tolerance error required has
with-found n required splittable tolerance error exact =
    let wanted : ℕ → Bool = is_wanted n required in
    let test : IsTestFor n required (is_wanted n required) = wanted-test n required splittable in
    let raised : ℕ → ℕ = raise tolerance (is_wanted n required) error in
    let up : IsRaised tolerance (is_wanted n required) error (raise tolerance (is_wanted n required) error) =
    raise-raised tolerance (is_wanted n required) error in
    let found : (has : ℕ → Bool) × IsLeastSettled n tolerance (raise tolerance (is_wanted n required) error) has =
    fit_found n tolerance (raise tolerance (is_wanted n required) error)
    (raised-exact n required (is_wanted n required) splittable test tolerance error
    (raise tolerance (is_wanted n required) error) up exact) in (
      found.0,
      (raised-least n required (is_wanted n required) splittable test tolerance error
          (raise tolerance (is_wanted n required) error) up found.0).0 found.1,
    )

-- lists with the leaves of a closed set

-- an entry of the one is an entry of the other
pub counts-in : (xs ys : List ℕ) (a : ℕ) →
    ((a : ℕ) → count_by (λ t. eqb t a) xs ≡ count_by (λ t. eqb t a) ys) → IsIn a xs → IsIn a ys
counts-in xs ys a same listed =
    let some = count-some (λ t. eqb t a) a xs listed (eq-eqb a a refl) in
    let e = same a in
    let found = some-count (λ t. eqb t a) ys (omega arith) in
    subst (λ z. IsIn z ys) (eqb-true found.0 a found.2) found.1

module _ (n : ℕ) (has : ℕ → Bool) (list : List ℕ) (closed : IsClosed n has) (leaves : AreLeaves n has list) where
  -- what lies above them is the set
  pub leaves-ancestors : (a : ℕ) → ancestors_of list a ≡ has a
  leaves-ancestors a =
      moved (leaves_of n has) list (λ c. leaves.counts c)
      ∙ ancestors-leaves n has closed a
    where
      one : (xs ys : List ℕ) → ((c : ℕ) → count_by (λ t. eqb t c) xs ≡ count_by (λ t. eqb t c) ys) →
          IsTrue (ancestors_of xs a) → IsTrue (ancestors_of ys a)
      one xs ys same h =
          let e = Any-in (λ e. is_above a e) xs h in
          list_any-in (λ e. is_above a e) ys e.0 (counts-in xs ys e.0 same e.1) e.2

      moved : (xs ys : List ℕ) → ((c : ℕ) → count_by (λ t. eqb t c) xs ≡ count_by (λ t. eqb t c) ys) →
          ancestors_of ys a ≡ ancestors_of xs a
      moved xs ys same = same_tests (ancestors_of ys a) (ancestors_of xs a) (one ys xs (λ c. sym (same c)))
          (one xs ys same)

  -- a list with the leaves of the least settled set is a least mesh
  module _ (tolerance : ℕ) (error : ℕ → ℕ) (required : ℕ → Bool)
      (least : IsLeastSettledWith n tolerance error required has) where
    with_inside : (others : List ℕ) → IsMeshWith n tolerance error required others → IsSubset has (ancestors_of others)
    with_inside others m =
        least.needed (ancestors_of others) (settled-ancestors n tolerance error others m.conforming m.within) m.splits

    with_refined : (others : List ℕ) → IsMeshWith n tolerance error required others → (a : ℕ) → Contains others a →
        IsLyingIn list a
    with_refined others m a listed =
        let address : IsAddress n a = All-contains (IsAddress n) others a m.conforming.addresses listed in
        ⊎_elim
        (λ above. absurd (entry_outside n others m.conforming a (IsIn-contains a others listed)
        (with_inside others m a (above_leaf-member n has closed a above))))
        (λ (c : IsCovered n (leaves_of n has) (IsConforming-leaves_of n has closed) a). (
          c.entry,
          Contains-in c.entry list (counts-in (leaves_of n has) list c.entry leaves.counts c.listed),
          under_cases c.entry a (outer-leaf n has c.entry closed c.listed).address.low c.under,
        ))
        (member_or_covered n (leaves_of n has) (IsConforming-leaves_of n has closed) a address)

    pub with-mesh : IsLeastMeshWith n tolerance error required list
    with-mesh = record {
      mesh = record {
        conforming = IsConforming-permuted n has list closed leaves;
        within = worst-le error tolerance list (λ a listed.
            let low = le-worst error a (leaves_of n has)
            (counts-in list (leaves_of n has) a (λ c. sym (leaves.counts c)) listed) in
            let most = least.settled.within in omega arith);
        splits = λ a is. leaves-ancestors a ∙ least.splits a is;
      };
      inside = λ others m a h. with_inside others m a (sym (leaves-ancestors a) ∙ h);
      fewest = λ others m.
          let more = leaves_of-more n has (ancestors_of others) (with_inside others m) in
          let same = length-ancestors n others m.conforming in
          let mine = length-counts (leaves_of n has) list leaves.counts in omega arith;
      refined = with_refined;
    }

-- and what lies above a least mesh is the least settled set
pub mesh-with : (n tolerance : ℕ) (error : ℕ → ℕ) (required : ℕ → Bool) (list : List ℕ) →
    IsLeastMeshWith n tolerance error required list →
    IsLeastSettledWith n tolerance error required (ancestors_of list)
mesh-with n tolerance error required list least = record {
  settled = settled-ancestors n tolerance error list least.mesh.conforming least.mesh.within;
  splits = least.mesh.splits;
  needed = λ other fine splits a h. above_leaf-member n other fine.closed a
      (least.inside (leaves_of n other) record {
        conforming = IsConforming-leaves_of n other fine.closed;
        within = fine.within;
        splits = λ c is. member-above_leaf n other fine.closed c (splits c is);
      } a h);
}

-- more required

-- more is split
pub with-more : (n tolerance : ℕ) (error : ℕ → ℕ) (required more has next : ℕ → Bool) → IsSubset required more →
    IsLeastSettledWith n tolerance error required has → IsLeastSettledWith n tolerance error more next →
    IsSubset has next
with-more n tolerance error required more has next within p q =
    p.needed next q.settled (λ a h. q.splits a (within a h))

-- and a further split gives more leaves
pub with-grown : (n tolerance : ℕ) (error : ℕ → ℕ) (required more has next : ℕ → Bool) (t : ℕ) →
    IsSubset required more → IsLeastSettledWith n tolerance error required has →
    IsLeastSettledWith n tolerance error more next → IsTrue (next t) → (IsTrue (has t) → ⊥) →
    length (leaves_of n has) < length (leaves_of n next)
with-grown n tolerance error required more has next t within p q member outside =
    leaves-grown n has next t p.settled.closed q.settled.closed
    (with-more n tolerance error required more has next within p q) member outside

-- one least mesh

-- two least meshes split the same triangles
pub with-unique : (n tolerance : ℕ) (error : ℕ → ℕ) (required : ℕ → Bool) (triangles others : List ℕ) →
    IsLeastMeshWith n tolerance error required triangles → IsLeastMeshWith n tolerance error required others →
    (a : ℕ) → ancestors_of triangles a ≡ ancestors_of others a
with-unique n tolerance error required triangles others p q a =
    same_tests (ancestors_of triangles a) (ancestors_of others a) (p.inside others q.mesh a)
    (q.inside triangles p.mesh a)

-- so depth first there is one
pub with-one : (n tolerance : ℕ) (error : ℕ → ℕ) (required : ℕ → Bool) (triangles others : List ℕ) →
    IsLeastMeshWith n tolerance error required triangles → IsLeastMeshWith n tolerance error required others →
    leaves_of n (ancestors_of triangles) ≡ triangles → leaves_of n (ancestors_of others) ≡ others →
    triangles ≡ others
with-one n tolerance error required triangles others p q listed listed' =
    sym listed
    ∙ leaves_of-same n (ancestors_of triangles) (ancestors_of others)
    (with-unique n tolerance error required triangles others p q)
    ∙ listed'
