-- A sound certificate with points proves its mesh the best for its error that keeps them; each has a verdict, and one
-- alone; and there is a sound one.
use Rattle.std.proofs.Common.{◌≡◌, ◌⊎◌, ℕ, suc, ◌+◌, ◌*◌, ◌^◌, ◌<◌, ◌≤◌, inl, inr, Bool, true, false, not, ◌&&◌}
use Rattle.std.proofs.Common.{IsTrue, List, [], ◌∷◌, ◌++◌, All, Contains, length, refl, sym, ◌∙◌, ap, ap₂, subst, arith}
use Rattle.std.proofs.Common.{⊎_elim, eqb, eq-eqb, pow-add}
use Rattle.std.specs.List.{list_any, range_with_len}
use Rattle.std.proofs.lemmas.Bool.{cases_lt, cases_Bool, both_ways, and_parts, and_from, eqb-true, false≢true}
use Rattle.std.proofs.lemmas.List.Elements.{All-cons, All-nil, All-head, All-tail, All-contains, Contains-append_left}
use Rattle.std.proofs.lemmas.List.Elements.{Contains-append_right, Contains-append_cases, Contains-push}
use Rattle.std.proofs.lemmas.List.Elements.{Contains-push_cases}
use Rattle.mesh_defs.specs.declared.point.Point.{Point}
use Rattle.mesh_defs.specs.ClosedSet.{IsClosed, IsSubset, IsLeastClosed, leaves_of}
use Rattle.mesh_defs.specs.Priority.{worst_of}
use Rattle.mesh_defs.proofs.ListLemmas.{IsIn-contains, Any-in, list_any-in}
use Rattle.bintree_laws.proofs.LevelLemmas.{splittable-below}
use Rattle.mesh_laws.specs.Ancestors.{ancestors_of}
use Rattle.mesh_laws.proofs.ClosureLemmas.{IsOuter, leaves_of-same, IsLeastClosed-unique}
use Rattle.mesh_laws.proofs.ExistenceLemmas.{least_closed_of}
use Rattle.mesh_laws.proofs.ForcingLemmas.{with-cases, with-old}
use Rattle.mesh_laws.proofs.LeafLemmas.{leaves-most, four-power}
use Rattle.mesh_laws.proofs.SetListLemmas.{in-range}
use Rattle.fit_laws.specs.PlaneHeight.{deviation_of}
use Rattle.mesh_laws.specs.Vertex.{IsSquareCorner, centre_of}
use Rattle.mesh_laws.proofs.VertexLemmas.{centre-inside}
use Rattle.fit_laws.specs.Error.{error_of}
use Rattle.fit_laws.specs.Settled.{IsFineEnough}
use Rattle.fit_laws.proofs.SettledLemmas.{outer-leaf, settled-outer}
use Rattle.fit_laws.proofs.OrderLemmas.{leaves-order}
use Rattle.fit_laws.specs.Required.{IsLeastSettledWith, IsLeastMeshWith}
use Rattle.fit_laws.proofs.RequiredLemmas.{with-mesh}
use Rattle.certificate_laws.specs.declared.fit_reason.Witness.{Witness}
use Rattle.certificate_laws.specs.declared.fit_reason.FitReject.{FitReject}
use Rattle.certificate_laws.specs.declared.fit_reason.FitReject.TheVariants.{OtherTolerance, BadReason, OverTolerance}
use Rattle.certificate_laws.specs.declared.fit_reason.FitReject.TheVariants.{OverBudget, TooFewReasons}
use Rattle.certificate_laws.specs.declared.fit_reason.FitVerdict.{FitVerdict}
use Rattle.certificate_laws.specs.declared.fit_reason.FitVerdict.TheVariants.{Certified, Rejected}
use Rattle.certificate_laws.specs.FitCertificate.{LeadsTo, IsFirstBadFit}
use Rattle.certificate_laws.specs.Keeping.{is_centred, KeptCertificate, IsNeed, IsFirstBadNeed, LeadsToKept}
use Rattle.certificate_laws.specs.Keeping.{IsKeptFit, IsKeptSound, IsBadKept, IsKeptRejected, IsKeptVerdict}
use Rattle.certificate_laws.specs.Keeping.{IsKeptVerdictOf}
use Rattle.certificate_laws.proofs.LeadLemmas.{off-error, leads-closed, leads-grown, leads-unique, leads-no_bad}
use Rattle.certificate_laws.proofs.FitSoundLemmas.{leaves-two}
use Rattle.certificate_laws.proofs.DecisionLemmas.{leads_or_bad, bad-one}
use Rattle.certificate_laws.proofs.FoundLemmas.{settles}
use Rattle.certificate_laws.proofs.CentreLemmas.{centred-splittable, centred-point, is-centred, centred-within}
use Rattle.certificate_laws.proofs.CentreLemmas.{listed_or_not}

-- what is needed

-- a settled set that has all from which reasons go on has all that they lead to
pub leads-within : (n : ℕ) (heights : List ℕ) (tolerance : ℕ) (has : ℕ → Bool) (reasons : List Witness)
    (after other : ℕ → Bool) → IsClosed n has → IsFineEnough n tolerance (error_of n heights) other →
    IsSubset has other → LeadsTo n heights tolerance has reasons after → IsSubset after other
leads-within n heights tolerance has [] after other closed fine within leads = λ a is. within a (leads a ∙ is)
leads-within n heights tolerance has (r ∷ reasons) after other closed fine within leads =
    leads-within n heights tolerance leads.0 reasons after other leads.2.closed fine
    (leads.2.least other fine.closed (λ a h. ⊎_elim
    (λ old. within a old)
    (λ same. subst (λ z. IsTrue (other z)) same split)
    (with-cases has r.triangle a h)))
    leads.3
  where
    outer : IsOuter n has r.triangle
    outer = outer-leaf n has r.triangle closed (IsIn-contains r.triangle (leaves_of n has) leads.1.leaf)

    split : IsTrue (other r.triangle)
    split = ⊎_elim
        (λ is. is)
        (λ no.
        let fits = settled-outer n tolerance (error_of n heights) other r.triangle fine record {
          address = outer.address;
          outside = λ is. both_ways (other r.triangle) no is;
          parent = λ big. within _ (outer.parent big);
        } in
        let above = off-error n heights tolerance r leads.1.off in absurd (omega arith))
        (cases_Bool (other r.triangle))

-- points that are needed are kept
needs-kept : (n : ℕ) (points needs : List Point) → All (IsNeed n points) needs → (p : Point) → Contains needs p →
    Contains points p
needs-kept n points needs are p listed = (All-contains (IsNeed n points) needs p are listed).kept

module _ (n : ℕ) (heights : List ℕ) (points : List Point) (cert : KeptCertificate) (has : ℕ → Bool)
    (leads : LeadsToKept n heights points cert has) where
  -- the set of the mesh is closed
  pub kept-closed : IsClosed n has
  kept-closed = leads-closed n heights cert.rest.tolerance leads.start cert.rest.needed has leads.begun.closed
      leads.needed

  -- and each settled set that has what is kept has all of it
  pub kept-needed : (other : ℕ → Bool) → IsFineEnough n cert.rest.tolerance (error_of n heights) other →
      IsSubset (is_centred n points) other → IsSubset has other
  kept-needed other fine keeps =
      leads-within n heights cert.rest.tolerance leads.start cert.rest.needed has other leads.begun.closed fine
      (leads.begun.least other fine.closed (λ a is. keeps a
      (centred-within n cert.needs points (needs-kept n points cert.needs leads.needs) a is)))
      leads.needed

module _ (n : ℕ) (heights : List ℕ) (points : List Point) (tolerance : ℕ) (cert : KeptCertificate) (mesh : List ℕ)
    (sound : IsKeptSound n heights points tolerance cert mesh) where
  -- so the mesh of a sound certificate is the fewest triangles for the tolerance that keep the points
  pub kept-least : IsLeastMeshWith n tolerance (error_of n heights) (is_centred n points) mesh
  kept-least =
      let closed = kept-closed n heights points cert sound.has sound.fit.leads in
      let least : IsLeastSettledWith n cert.rest.tolerance (error_of n heights) (is_centred n points) sound.has =
      record {
        settled = record { closed = closed; within = sound.fit.within };
        splits = sound.keeps;
        needed = kept-needed n heights points cert sound.has sound.fit.leads;
      } in
      subst (λ k. IsLeastMeshWith n k (error_of n heights) (is_centred n points) mesh) sound.own
      (subst (λ (l : List ℕ). IsLeastMeshWith n cert.rest.tolerance (error_of n heights) (is_centred n points) l)
      (sym sound.leaves)
      (with-mesh n sound.has (leaves_of n sound.has) closed (record { counts = λ a. refl }) cert.rest.tolerance
      (error_of n heights) (is_centred n points) least))

  -- it stands depth first
  pub kept-order : leaves_of n (ancestors_of mesh) ≡ mesh
  kept-order = ap (λ (l : List ℕ). leaves_of n (ancestors_of l)) sound.leaves
      ∙ leaves-order n sound.has (kept-closed n heights points cert sound.has sound.fit.leads) ∙ sym sound.leaves

  -- and there are no more reasons than triangles that may be split
  pub kept-few : length cert.rest.needed + 2 ≤ 2 ^ (2 * n + 1)
  kept-few =
      let two = leaves-two n sound.fit.leads.start in
      let grown = leads-grown n heights cert.rest.tolerance sound.fit.leads.start cert.rest.needed sound.has
      sound.fit.leads.begun.closed sound.fit.leads.needed in
      let most = leaves-most n sound.has in
      let four = four-power n in
      let double = pow-add 2 (2 * n) 1 in
      omega arith

-- one set

module _ (n : ℕ) (heights : List ℕ) (points : List Point) (cert : KeptCertificate) where
  -- points and reasons lead to one set alone
  pub kept-one : (has other : ℕ → Bool) → LeadsToKept n heights points cert has →
      LeadsToKept n heights points cert other → (a : ℕ) → has a ≡ other a
  kept-one has other p q =
      leads-unique n heights cert.rest.tolerance p.start q.start cert.rest.needed has other
      (IsLeastClosed-unique n (is_centred n cert.needs) p.start q.start p.begun q.begun) p.needed q.needed

  pub kept-leaves : (has other : ℕ → Bool) → LeadsToKept n heights points cert has →
      LeadsToKept n heights points cert other → leaves_of n has ≡ leaves_of n other
  kept-leaves has other p q = leaves_of-same n has other (kept-one has other p q)

  -- and a sound certificate has one mesh
  pub kept-mesh_one : (tolerance : ℕ) (mesh others : List ℕ) → IsKeptSound n heights points tolerance cert mesh →
      IsKeptSound n heights points tolerance cert others → mesh ≡ others
  kept-mesh_one tolerance mesh others p q =
      p.leaves ∙ kept-leaves p.has q.has p.fit.leads q.fit.leads ∙ sym q.leaves

-- points that are needed

-- whether two numbers are the same is decided
eq_or_not : (i j : ℕ) → (i ≡ j) ⊎ (i ≡ j → ⊥)
eq_or_not i j = ⊎_elim
    (λ is. inl (eqb-true i j is))
    (λ no. inr (λ e. both_ways (eqb i j) no (eq-eqb i j e)))
    (cases_Bool (eqb i j))

end_or_not : (m i : ℕ) → ((i ≡ 0) ⊎ (i ≡ m)) ⊎ (((i ≡ 0) ⊎ (i ≡ m)) → ⊥)
end_or_not m i = ⊎_elim
    (λ (first : i ≡ 0). inl (inl first))
    (λ (after : i ≡ 0 → ⊥). ⊎_elim
    (λ (last : i ≡ m). inl (inr last))
    (λ (before : i ≡ m → ⊥). inr (λ (e : (i ≡ 0) ⊎ (i ≡ m)). ⊎_elim after before e))
    (eq_or_not i m))
    (eq_or_not i 0)

corner_or_not : (m : ℕ) (p : Point) → IsSquareCorner m p ⊎ (IsSquareCorner m p → ⊥)
corner_or_not m p = ⊎_elim
    (λ (x : (p.x ≡ 0) ⊎ (p.x ≡ m)). ⊎_elim
    (λ (y : (p.y ≡ 0) ⊎ (p.y ≡ m)). inl (x, y))
    (λ (inside : ((p.y ≡ 0) ⊎ (p.y ≡ m)) → ⊥). inr (λ (c : IsSquareCorner m p). inside c.1))
    (end_or_not m p.y))
    (λ (inside : ((p.x ≡ 0) ⊎ (p.x ≡ m)) → ⊥). inr (λ (c : IsSquareCorner m p). inside c.0))
    (end_or_not m p.x)

-- whether a point is needed is decided
need_or_not : (n : ℕ) (points : List Point) (p : Point) → IsNeed n points p ⊎ (IsNeed n points p → ⊥)
need_or_not n points p = ⊎_elim
    (λ (corner : IsSquareCorner (2 ^ n) p). inr (λ (is : IsNeed n points p). is.inner corner))
    (λ (inner : IsSquareCorner (2 ^ n) p → ⊥). ⊎_elim
    (λ (kept : Contains points p). inl record { kept = kept; inner = inner })
    (λ (other : Contains points p → ⊥). inr (λ (is : IsNeed n points p). other is.kept))
    (listed_or_not points p))
    (corner_or_not (2 ^ n) p)

-- a point that is none behind one that is needed
need-behind : (n : ℕ) (points : List Point) (p : Point) (needs : List Point) (index : ℕ) → IsNeed n points p →
    IsFirstBadNeed n points needs index → IsFirstBadNeed n points (p ∷ needs) (index + 1)
need-behind n points p needs index is b = record {
  good = p ∷ b.good;
  bad = b.bad;
  rest = b.rest;
  parts = ap (λ (l : List Point). p ∷ l) b.parts;
  place = (let place = b.place in omega arith);
  are = All-cons (IsNeed n points) p b.good is b.are;
  fails = b.fails;
}

-- all are needed, or one is the first that is not
needs_or_bad : (n : ℕ) (points needs : List Point) →
    All (IsNeed n points) needs ⊎ ((index : ℕ) × IsFirstBadNeed n points needs index)
needs_or_bad n points [] = inl (All-nil (IsNeed n points))
needs_or_bad n points (p ∷ needs) = ⊎_elim
    (λ (is : IsNeed n points p). ⊎_elim
    (λ (are : All (IsNeed n points) needs). inl (All-cons (IsNeed n points) p needs is are))
    (λ (b : (index : ℕ) × IsFirstBadNeed n points needs index).
    inr (b.0 + 1, need-behind n points p needs b.0 is b.1))
    (needs_or_bad n points needs))
    (λ (fails : IsNeed n points p → ⊥). inr (
      1,
      record {
        good = [];
        bad = p;
        rest = needs;
        parts = refl;
        place = refl;
        are = All-nil (IsNeed n points);
        fails = fails;
      },
    ))
    (need_or_not n points p)

same_first : (x y : Point) (xs ys : List Point) → x ∷ xs ≡ y ∷ ys → x ≡ y
same_first x y xs ys e = cc

same_rest : (x y : Point) (xs ys : List Point) → x ∷ xs ≡ y ∷ ys → xs ≡ ys
same_rest x y xs ys e = cc

-- the first that is none is one alone
need-place : (n : ℕ) (points good fine : List Point) (bad worse : Point) (rest more : List Point) →
    good ++ bad ∷ rest ≡ fine ++ worse ∷ more → All (IsNeed n points) good → All (IsNeed n points) fine →
    (IsNeed n points bad → ⊥) → (IsNeed n points worse → ⊥) → length good ≡ length fine
need-place n points [] [] bad worse rest more parts p q fails falls = refl
need-place n points [] (s ∷ fine) bad worse rest more parts p q fails falls =
    absurd (fails (subst (λ (z : Point). IsNeed n points z)
    (sym (same_first bad s rest (fine ++ worse ∷ more) parts)) (All-head (IsNeed n points) s fine q)))
need-place n points (r ∷ good) [] bad worse rest more parts p q fails falls =
    absurd (falls (subst (λ (z : Point). IsNeed n points z)
    (same_first r worse (good ++ bad ∷ rest) more parts) (All-head (IsNeed n points) r good p)))
need-place n points (r ∷ good) (s ∷ fine) bad worse rest more parts p q fails falls =
    ap (λ k. suc k) (need-place n points good fine bad worse rest more
    (same_rest r s (good ++ bad ∷ rest) (fine ++ worse ∷ more) parts)
    (All-tail (IsNeed n points) r good p) (All-tail (IsNeed n points) s fine q) fails falls)

need-one : (n : ℕ) (points needs : List Point) (i j : ℕ) → IsFirstBadNeed n points needs i →
    IsFirstBadNeed n points needs j → i ≡ j
need-one n points needs i j b d =
    let places = need-place n points b.good d.good b.bad d.bad b.rest d.rest (sym b.parts ∙ d.parts) b.are d.are
    b.fails d.fails in
    sym b.place ∙ ap (λ k. k + 1) places ∙ d.place

-- where all are needed none is the first that is not
need-none : (n : ℕ) (points needs : List Point) (index : ℕ) → IsFirstBadNeed n points needs index →
    All (IsNeed n points) needs → ⊥
need-none n points needs index b are =
    b.fails (All-contains (IsNeed n points) needs b.bad are
    (subst (λ (l : List Point). Contains l b.bad) (sym b.parts) (Contains-append_right b.good (b.bad ∷ b.rest) b.bad
    (Contains-append_left (b.bad ∷ []) b.rest b.bad (Contains-push [] b.bad)))))

-- whether a set has all that is kept is decided
keeps_or_not : (n : ℕ) (points : List Point) (has : ℕ → Bool) →
    IsSubset (is_centred n points) has ⊎ (IsSubset (is_centred n points) has → ⊥)
keeps_or_not n points has = ⊎_elim
    (λ some. inr (λ keeps.
    let found = Any-in lacks (range_with_len 0 (4 * 2 ^ (2 * n))) some in
    let parts = and_parts (is_centred n points found.0) (not (has found.0)) found.2 in
    not-both (has found.0) parts.1 (keeps found.0 parts.0)))
    (λ none. inl (λ a is. ⊎_elim
    (λ member. member)
    (λ outside.
    let small = splittable-below n a (centred-splittable n points a is) in
    absurd (both_ways (list_any lacks (range_with_len 0 (4 * 2 ^ (2 * n)))) none
    (list_any-in lacks (range_with_len 0 (4 * 2 ^ (2 * n))) a
    (in-range 0 (4 * 2 ^ (2 * n)) a (omega arith) (omega arith))
    (and_from (is_centred n points a) (not (has a)) is (ap not outside)))))
    (cases_Bool (has a))))
    (cases_Bool (list_any lacks (range_with_len 0 (4 * 2 ^ (2 * n)))))
  where
    lacks : ℕ → Bool
    lacks a = is_centred n points a && not (has a)

    not-both : (b : Bool) → not b ≡ true → b ≡ true → ⊥
    not-both true e is = false≢true e
    not-both false e is = false≢true is

-- a list is empty or it is not
empty_or_not : (reasons : List Witness) → (reasons ≡ []) ⊎ (reasons ≡ [] → ⊥)
empty_or_not [] = inl refl
empty_or_not (r ∷ reasons) = inr (λ e. cc)

-- a verdict

module _ (n : ℕ) (heights : List ℕ) (points : List Point) (tolerance : ℕ) (cert : KeptCertificate) where
  abbrev HasVerdict : Type 0
  HasVerdict = (verdict : FitVerdict) × (mesh : List ℕ) × IsKeptVerdictOf n heights points tolerance cert verdict mesh

  abbrev rejected : (why : FitReject) → IsKeptRejected n heights points tolerance cert why → HasVerdict
  rejected why is = (Rejected why, [], is)

  -- of a mesh within its tolerance
  fit-verdict : (has : ℕ → Bool) → cert.rest.tolerance ≡ tolerance → IsKeptFit n heights points cert has → HasVerdict
  fit-verdict has own fit = ⊎_elim
      (λ (behind : cert.rest.beyond ≡ []). ⊎_elim
      (λ (keeps : IsSubset (is_centred n points) has).
      let mesh : List ℕ = leaves_of n has in (
        Certified (length mesh) (deviation_of n heights mesh),
        mesh,
        (
          record { has = has; own = own; fit = fit; behind = behind; keeps = keeps; leaves = refl },
          refl,
          refl,
        ),
      ))
      (λ (lacks : IsSubset (is_centred n points) has → ⊥). rejected TooFewReasons (own, has, fit, behind, lacks))
      (keeps_or_not n points has))
      (λ (some : cert.rest.beyond ≡ [] → ⊥).
      rejected (BadReason (length cert.needs + length cert.rest.needed + 1))
      (own, inr (inr (has, fit, some, refl))))
      (empty_or_not cert.rest.beyond)

  -- of a mesh
  leads-verdict : (has : ℕ → Bool) → cert.rest.tolerance ≡ tolerance → LeadsToKept n heights points cert has →
      HasVerdict
  leads-verdict has own leads = ⊎_elim
      (λ over. rejected OverTolerance (own, has, leads, over))
      (λ within. fit-verdict has own record { leads = leads; within = within })
      (cases_lt cert.rest.tolerance (worst_of (error_of n heights) (leaves_of n has)))

  -- of points that are needed
  needs-verdict : (start : ℕ → Bool) → cert.rest.tolerance ≡ tolerance → All (IsNeed n points) cert.needs →
      IsLeastClosed n (is_centred n cert.needs) start → HasVerdict
  needs-verdict start own needs begun = ⊎_elim
      (λ (l : (after : ℕ → Bool) × LeadsTo n heights cert.rest.tolerance start cert.rest.needed after).
      leads-verdict l.0 own record { start = start; needs = needs; begun = begun; needed = l.1 })
      (λ (b : (index : ℕ) × IsFirstBadFit n heights cert.rest.tolerance start cert.rest.needed index).
      rejected (BadReason (length cert.needs + b.0)) (own, inr (inl (start, needs, begun, b.0, b.1, refl))))
      (leads_or_bad n heights cert.rest.tolerance start cert.rest.needed begun.closed)

  -- there is one
  pub kept_found : HasVerdict
  kept_found = ⊎_elim
      (λ (own : cert.rest.tolerance ≡ tolerance). ⊎_elim
      (λ (needs : All (IsNeed n points) cert.needs).
      let start = least_closed_of n (is_centred n cert.needs) (centred-splittable n cert.needs) in
      needs-verdict start.0 own needs start.1)
      (λ (b : (index : ℕ) × IsFirstBadNeed n points cert.needs index). rejected (BadReason b.0) (own, inl b.1))
      (needs_or_bad n points cert.needs))
      (λ (other : cert.rest.tolerance ≡ tolerance → ⊥). rejected OtherTolerance other)
      (eq_or_not cert.rest.tolerance tolerance)

  -- there is one alone

  -- where the reasons lead to a set, and where that is within the tolerance
  abbrev Leads : Type 0
  Leads = (has : ℕ → Bool) × LeadsToKept n heights points cert has

  abbrev Fits : Type 0
  Fits = (has : ℕ → Bool) × IsKeptFit n heights points cert has

  -- the three ways to a bad reason
  abbrev BadPoint : ℕ → Type 0
  BadPoint index = IsFirstBadNeed n points cert.needs index

  abbrev BadBefore : ℕ → Type 0
  BadBefore index = (start : ℕ → Bool) × All (IsNeed n points) cert.needs
      × IsLeastClosed n (is_centred n cert.needs) start
      × (place : ℕ) × IsFirstBadFit n heights cert.rest.tolerance start cert.rest.needed place
      × (index ≡ length cert.needs + place)

  abbrev BadBehind : ℕ → Type 0
  BadBehind index = (has : ℕ → Bool) × IsKeptFit n heights points cert has × (cert.rest.beyond ≡ [] → ⊥)
      × (index ≡ length cert.needs + length cert.rest.needed + 1)

  -- the first two ways lead to no set
  bad-leads : (i : ℕ) → BadPoint i ⊎ BadBefore i → Leads → ⊥
  bad-leads i (inl b) l = need-none n points cert.needs i b l.1.needs
  bad-leads i (inr b) l =
      leads-no_bad n heights cert.rest.tolerance b.0 l.1.start cert.rest.needed b.3 l.0
      (IsLeastClosed-unique n (is_centred n cert.needs) b.0 l.1.start b.2 l.1.begun) b.4 l.1.needed

  -- what is over the tolerance is not within it
  over-fits : (has : ℕ → Bool) → LeadsToKept n heights points cert has →
      cert.rest.tolerance < worst_of (error_of n heights) (leaves_of n has) → Fits → ⊥
  over-fits has leads over f =
      let more : cert.rest.tolerance < worst_of (error_of n heights) (leaves_of n f.0) =
      subst (λ (l : List ℕ). cert.rest.tolerance < worst_of (error_of n heights) l)
      (kept-leaves n heights points cert has f.0 leads f.1.leads) over in
      let within = f.1.within in absurd (omega arith)

  -- a bad reason is one
  bad-alone : (i j : ℕ) → IsBadKept n heights points cert i → IsBadKept n heights points cert j → i ≡ j
  bad-alone i j (inl b) (inl d) = need-one n points cert.needs i j b d
  bad-alone i j (inl b) (inr (inl d)) = absurd (need-none n points cert.needs i b d.1)
  bad-alone i j (inl b) (inr (inr d)) = absurd (bad-leads i (inl b) (d.0, d.1.leads))
  bad-alone i j (inr (inl b)) (inl d) = absurd (need-none n points cert.needs j d b.1)
  bad-alone i j (inr (inl b)) (inr (inl d)) =
      let place = bad-one n heights cert.rest.tolerance b.0 d.0 cert.rest.needed b.3 d.3
      (IsLeastClosed-unique n (is_centred n cert.needs) b.0 d.0 b.2 d.2) b.4 d.4 in
      b.5 ∙ ap (λ k. length cert.needs + k) place ∙ sym d.5
  bad-alone i j (inr (inl b)) (inr (inr d)) = absurd (bad-leads i (inr b) (d.0, d.1.leads))
  bad-alone i j (inr (inr b)) (inl d) = absurd (bad-leads j (inl d) (b.0, b.1.leads))
  bad-alone i j (inr (inr b)) (inr (inl d)) = absurd (bad-leads j (inr d) (b.0, b.1.leads))
  bad-alone i j (inr (inr b)) (inr (inr d)) = b.3 ∙ sym d.3

  -- a bad reason, and a test that comes later
  bad-over : (i : ℕ) → IsBadKept n heights points cert i → (has : ℕ → Bool) → LeadsToKept n heights points cert has →
      cert.rest.tolerance < worst_of (error_of n heights) (leaves_of n has) → ⊥
  bad-over i (inl b) has leads over = bad-leads i (inl b) (has, leads)
  bad-over i (inr (inl b)) has leads over = bad-leads i (inr b) (has, leads)
  bad-over i (inr (inr b)) has leads over = over-fits has leads over (b.0, b.1)

  bad-few : (i : ℕ) → IsBadKept n heights points cert i → Fits → cert.rest.beyond ≡ [] → ⊥
  bad-few i (inl b) f behind = bad-leads i (inl b) (f.0, f.1.leads)
  bad-few i (inr (inl b)) f behind = bad-leads i (inr b) (f.0, f.1.leads)
  bad-few i (inr (inr b)) f behind = b.2 behind

  rejected-one : (why other : FitReject) → IsKeptRejected n heights points tolerance cert why →
      IsKeptRejected n heights points tolerance cert other → why ≡ other
  rejected-one OtherTolerance OtherTolerance p q = refl
  rejected-one OtherTolerance (BadReason j) p q = absurd (p q.0)
  rejected-one OtherTolerance OverTolerance p q = absurd (p q.0)
  rejected-one OtherTolerance OverBudget p q = absurd q
  rejected-one OtherTolerance TooFewReasons p q = absurd (p q.0)
  rejected-one (BadReason i) OtherTolerance p q = absurd (q p.0)
  rejected-one (BadReason i) (BadReason j) p q = ap BadReason (bad-alone i j p.1 q.1)
  rejected-one (BadReason i) OverTolerance p q = absurd (bad-over i p.1 q.1 q.2 q.3)
  rejected-one (BadReason i) OverBudget p q = absurd q
  rejected-one (BadReason i) TooFewReasons p q = absurd (bad-few i p.1 (q.1, q.2) q.3)
  rejected-one OverTolerance OtherTolerance p q = absurd (q p.0)
  rejected-one OverTolerance (BadReason j) p q = absurd (bad-over j q.1 p.1 p.2 p.3)
  rejected-one OverTolerance OverTolerance p q = refl
  rejected-one OverTolerance OverBudget p q = absurd q
  rejected-one OverTolerance TooFewReasons p q = absurd (over-fits p.1 p.2 p.3 (q.1, q.2))
  rejected-one OverBudget other p q = absurd p
  rejected-one TooFewReasons OtherTolerance p q = absurd (q p.0)
  rejected-one TooFewReasons (BadReason j) p q = absurd (bad-few j q.1 (p.1, p.2) p.3)
  rejected-one TooFewReasons OverTolerance p q = absurd (over-fits q.1 q.2 q.3 (p.1, p.2))
  rejected-one TooFewReasons OverBudget p q = absurd q
  rejected-one TooFewReasons TooFewReasons p q = refl

  -- a sound certificate passes each test
  accepted : (mesh : List ℕ) → IsKeptSound n heights points tolerance cert mesh → (why : FitReject) →
      IsKeptRejected n heights points tolerance cert why → ⊥
  accepted mesh sound OtherTolerance r = r sound.own
  accepted mesh sound (BadReason i) r = bad-few i r.1 (sound.has, sound.fit) sound.behind
  accepted mesh sound OverTolerance r = over-fits r.1 r.2 r.3 (sound.has, sound.fit)
  accepted mesh sound OverBudget r = r
  accepted mesh sound TooFewReasons r =
      r.4 (λ a is. kept-one n heights points cert r.1 sound.has r.2.leads sound.fit.leads a ∙ sound.keeps a is)

  -- so it has the verdict that it is certified, with the numbers of its mesh
  pub kept-certified : (mesh : List ℕ) → IsKeptSound n heights points tolerance cert mesh → (verdict : FitVerdict) →
      IsKeptVerdict n heights points tolerance cert verdict →
      verdict ≡ Certified (length mesh) (deviation_of n heights mesh)
  kept-certified mesh sound (Certified triangles deviation) v =
      let same : v.0 ≡ mesh = kept-mesh_one n heights points cert tolerance v.0 mesh v.1 sound in
      ap₂ (λ i j. Certified i j) (v.2 ∙ ap (λ (l : List ℕ). length l) same) (v.3 ∙ ap (deviation_of n heights) same)
  kept-certified mesh sound (Rejected why) v = absurd (accepted mesh sound why v)

  -- a verdict on a mesh is one
  pub kept-verdict_is : (verdict : FitVerdict) (mesh : List ℕ) →
      IsKeptVerdictOf n heights points tolerance cert verdict mesh → IsKeptVerdict n heights points tolerance cert verdict
  kept-verdict_is (Certified triangles deviation) mesh v = (mesh, v.0, v.1, v.2)
  kept-verdict_is (Rejected why) mesh v = v

  -- two verdicts are the same
  pub kept-verdict_one : (verdict other : FitVerdict) → IsKeptVerdict n heights points tolerance cert verdict →
      IsKeptVerdict n heights points tolerance cert other → verdict ≡ other
  kept-verdict_one (Certified triangles deviation) other v w =
      ap₂ (λ i j. Certified i j) v.2 v.3 ∙ sym (kept-certified v.0 v.1 other w)
  kept-verdict_one (Rejected why) (Certified triangles deviation) v w =
      kept-certified w.0 w.1 (Rejected why) v ∙ sym (ap₂ (λ i j. Certified i j) w.2 w.3)
  kept-verdict_one (Rejected why) (Rejected other) v w = ap Rejected (rejected-one why other v w)

-- a sound certificate

-- the first entry of a list, and those behind it
head-in : (q : Point) (rest : List Point) → Contains (q ∷ rest) q
head-in q rest = Contains-append_left (q ∷ []) rest q (Contains-push [] q)

tail-in : (q : Point) (rest : List Point) (p : Point) → Contains rest p → Contains (q ∷ rest) p
tail-in q rest p listed = Contains-append_right (q ∷ []) rest p listed

head-cases : (q : Point) (rest : List Point) (p : Point) → Contains (q ∷ rest) p → (q ≡ p) ⊎ Contains rest p
head-cases q rest p listed = ⊎_elim
    (λ (first : Contains (q ∷ []) p). ⊎_elim
    (λ (none : Contains [] p). absurd (omega (arith, none.1)))
    (λ (same : q ≡ p). inl same)
    (Contains-push_cases [] q p first))
    (λ (later : Contains rest p). inr later)
    (Contains-append_cases (q ∷ []) rest p listed)

-- the points of a list that are no corners, each of them needed
abbrev InnerPoints : ℕ → List Point → List Point → Type 0
InnerPoints n points list = (needs : List Point) × All (IsNeed n points) needs
    × ((p : Point) → Contains list p → (IsSquareCorner (2 ^ n) p → ⊥) → Contains needs p)
    × (length needs ≤ length list)

-- one more, behind the others
inner_next : (n : ℕ) (points : List Point) (q : Point) (list : List Point) → Contains points q →
    InnerPoints n points list → InnerPoints n points (q ∷ list)
inner_next n points q list kept later = ⊎_elim
    (λ (corner : IsSquareCorner (2 ^ n) q). (
      later.0,
      later.1,
      (λ p listed inner. ⊎_elim
          (λ (e : q ≡ p). absurd (inner (subst (λ (z : Point). IsSquareCorner (2 ^ n) z) e corner)))
          (λ (there : Contains list p). later.2 p there inner)
          (head-cases q list p listed)),
      (let less = later.3 in omega arith),
    ))
    (λ (inner_q : IsSquareCorner (2 ^ n) q → ⊥). (
      q ∷ later.0,
      All-cons (IsNeed n points) q later.0 record { kept = kept; inner = inner_q } later.1,
      (λ p listed inner. ⊎_elim
          (λ (e : q ≡ p). subst (λ (z : Point). Contains (q ∷ later.0) z) e (head-in q later.0))
          (λ (there : Contains list p). tail-in q later.0 p (later.2 p there inner))
          (head-cases q list p listed)),
      (let less = later.3 in omega arith),
    ))
    (corner_or_not (2 ^ n) q)

inner_points : (n : ℕ) (points list : List Point) → ((p : Point) → Contains list p → Contains points p) →
    InnerPoints n points list
inner_points n points [] within =
    ([], All-nil (IsNeed n points), (λ p listed inner. absurd (omega (arith, listed.1))), omega arith)
inner_points n points (q ∷ list) within =
    inner_next n points q list (within q (head-in q list))
    (inner_points n points list (λ p listed. within p (tail-in q list p listed)))

-- what reasons lead to has all that they go on from
pub leads-more : (n : ℕ) (heights : List ℕ) (tolerance : ℕ) (has : ℕ → Bool) (reasons : List Witness)
    (after : ℕ → Bool) →
    LeadsTo n heights tolerance has reasons after → IsSubset has after
leads-more n heights tolerance has [] after leads a is = sym (leads a) ∙ is
leads-more n heights tolerance has (r ∷ reasons) after leads a is =
    leads-more n heights tolerance leads.0 reasons after leads.3 a (leads.2.holds a (with-old has r.triangle a is))

-- two passes make a sound certificate: the points that are needed, and what is off
module _ (n : ℕ) (heights : List ℕ) (points : List Point) (cert : KeptCertificate) (start has : ℕ → Bool)
    (needs : All (IsNeed n points) cert.needs) (begun : IsLeastClosed n (is_centred n cert.needs) start)
    (keeps : IsSubset (is_centred n points) start)
    (needed : LeadsTo n heights cert.rest.tolerance start cert.rest.needed has)
    (within : worst_of (error_of n heights) (leaves_of n has) ≤ cert.rest.tolerance)
    (behind : cert.rest.beyond ≡ []) where
  pub kept-made : IsKeptSound n heights points cert.rest.tolerance cert (leaves_of n has)
  kept-made = record {
    has = has;
    own = refl;
    fit = record {
      leads = record { start = start; needs = needs; begun = begun; needed = needed };
      within = within;
    };
    behind = behind;
    keeps = λ a is. leads-more n heights cert.rest.tolerance start cert.rest.needed has needed a (keeps a is);
    leaves = refl;
  }

-- there is one for each tolerance and points
pub kept_sound_found : (n : ℕ) (heights : List ℕ) (points : List Point) (tolerance : ℕ) →
    (cert : KeptCertificate) × (mesh : List ℕ) × IsKeptSound n heights points tolerance cert mesh
    × (length cert.needs ≤ length points)
kept_sound_found n heights points tolerance =
    let inner = inner_points n points points (λ p listed. listed) in
    let start = least_closed_of n (is_centred n inner.0) (centred-splittable n inner.0) in
    let found = settles n heights tolerance start.0 start.1.closed in
    let cert : KeptCertificate = record {
      needs = inner.0;
      rest = record { tolerance = tolerance; needed = found.0; beyond = [] };
    } in (
      cert,
      leaves_of n found.1,
      kept-made n heights points cert start.0 found.1 inner.1 start.1
          (λ a is.
          let s = centred-splittable n points a is in
          start.1.holds a (is-centred n inner.0 a s (inner.2 (centre_of n a) (centred-point n points a is)
          (λ corner. centre-inside n a s corner))))
          found.2 found.3 refl,
      inner.3,
    )
