-- Points that are kept: marked one after the other, and needed one after the other.
use Rattle.std.proofs.Common.{◌≡◌, ◌↔◌, ℕ, ◌+◌, ◌^◌, ◌<◌, ◌≤◌, Bool, false, IsTrue, List, [], ◌∷◌, ◌++◌, All}
use Rattle.std.proofs.Common.{Contains, length, replicate, get_or, take, drop, length-append, append_assoc, sym, ◌∙◌}
use Rattle.std.proofs.Common.{ap, ap₂, subst, arith, ⊎_elim}
use Rattle.std.proofs.Common.{Option, Some, None, IfSome, IfNone}
use Rattle.std.proofs.lemmas.Bool.{cases_lt, cases_Bool, both_ways}
use Rattle.std.proofs.lemmas.List.{length-replicate, get_or-replicate, get_or_past, take_more, take-append-drop, length-take-le}
use Rattle.std.proofs.lemmas.List.Elements.{All-nil, All-append, All-cons, All-weaker, All-contains, Contains-append_left}
use Rattle.std.proofs.lemmas.List.Elements.{Contains-push, Contains-push_cases, Contains-get_or}
use Rattle.mesh_defs.specs.declared.point.Point.{Point}
use Rattle.mesh_defs.specs.HeightField.{HeightField, height_at, place_of}
use Rattle.mesh_defs.specs.Triangle.{IsSplittable}
use Rattle.mesh_defs.specs.ClosedSet.{IsClosed, IsSubset, IsLeastClosed, leaves_of}
use Rattle.mesh_defs.specs.Greedy.{with_triangle}
use Rattle.mesh_defs.specs.MeshText.{is_same_point}
use Rattle.mesh_defs.proofs.PointLemmas.{same_point-eq, eq-same_point}
use Rattle.bintree_laws.specs.Corners.{IsInSquare}
use Rattle.mesh_defs.specs.BoundingBox.{point}
use Rattle.mesh_laws.proofs.ClosureLemmas.{nothing_closed, leaves_of-same, IsLeastClosed-unique}
use Rattle.mesh_laws.proofs.ForcingLemmas.{with-old, with-new}
use Rattle.fit_laws.proofs.FitLemmas.{closed-same}
use Rattle.mesh_laws.specs.Vertex.{centre_of, IsSquareCorner}
use Rattle.mesh_laws.proofs.VertexLemmas.{centre-inside}
use Rattle.mesh_laws.specs.Sweep.{is_flagged}
use Rattle.certificate_laws.specs.FitCertificate.{LeadsTo, IsFirstBadFit}
use Rattle.certificate_laws.specs.Keeping.{is_centred, KeptCertificate, IsNeed, IsFirstBadNeed, IsKeptSound}
use Rattle.certificate_laws.proofs.LeadLemmas.{leads-unique, leads-no_bad}
use Rattle.certificate_laws.proofs.CentreLemmas.{centred-cases, centred-more, centred-held}
use Rattle.certificate_laws.proofs.CentreLemmas.{centred-last, centred-none, centred-within, corner-none}
use Rattle.certificate_laws.proofs.CentreLemmas.{closure-more, closure-none, is-centred}
use Rattle.fit_certify.specs.Keeping.{AreMarked, AreNeeded}

-- marks

-- no list has an entry if it is empty
nothing-in : (p : Point) → Contains [] p → ⊥
nothing-in p listed = absurd (omega (arith, listed.1))

-- a grid whose heights are all 0 has no mark
pub marked-none : (marks : HeightField) (count : ℕ) → marks.heights ≡ replicate count 0 → AreMarked [] marks
marked-none marks count flat = record {
  inside = All-nil (IsInSquare (2 ^ marks.n));
  told = λ q within. (
    (λ (one : height_at marks.n marks.heights q.x q.y ≡ 1).
        absurd (low marks.heights (place_of marks.n q.x q.y) flat one)),
    (λ listed. absurd (nothing-in q listed)),
  );
}
  where
    low : (heights : List ℕ) (i : ℕ) → heights ≡ replicate count 0 → get_or heights i 0 ≡ 1 → ⊥
    low heights i is one = ⊎_elim
        (λ (within : i < count).
        let none : get_or heights i 0 ≡ 0 =
        ap (λ (l : List ℕ). get_or l i 0) is ∙ get_or-replicate count i 0 0 within in
        absurd (omega arith))
        (λ (past : count ≤ i).
        let long = ap (λ (l : List ℕ). length l) is ∙ length-replicate count 0 in
        let none : get_or heights i 0 ≡ 0 = get_or_past heights i 0 (omega arith) in
        absurd (omega arith))
        (cases_lt i count)

-- one mark more
pub marked-next : (points : List Point) (p : Point) (old new : HeightField) → new.n ≡ old.n →
    IsInSquare (2 ^ old.n) p → height_at old.n new.heights p.x p.y ≡ 1 →
    ((i j : ℕ) → i ≤ 2 ^ old.n → j ≤ 2 ^ old.n → (i ≡ p.x → j ≡ p.y → ⊥) →
    height_at old.n new.heights i j ≡ height_at old.n old.heights i j) →
    AreMarked points old → AreMarked (points ++ p ∷ []) new
marked-next points p old new same within there others marked = record {
  inside = subst (λ (k : ℕ). All (IsInSquare (2 ^ k)) (points ++ p ∷ [])) (sym same)
      (All-append (IsInSquare (2 ^ old.n)) points (p ∷ []) marked.inside
      (All-cons (IsInSquare (2 ^ old.n)) p [] within (All-nil (IsInSquare (2 ^ old.n)))));
  told = λ q square.
      subst (λ (k : ℕ). (height_at k new.heights q.x q.y ≡ 1) ↔ Contains (points ++ p ∷ []) q) (sym same)
      (at q (subst (λ (k : ℕ). IsInSquare (2 ^ k) q) same square));
}
  where
    at : (q : Point) → IsInSquare (2 ^ old.n) q →
        (height_at old.n new.heights q.x q.y ≡ 1) ↔ Contains (points ++ p ∷ []) q
    at q square = ⊎_elim
        (λ is.
        let e = same_point-eq p q is in (
          (λ one. subst (λ (z : Point). Contains (points ++ p ∷ []) z) e (Contains-push points p)),
          (λ listed. subst (λ (z : Point). height_at old.n new.heights z.x z.y ≡ 1) e there),
        ))
        (λ no.
        let differ : p ≡ q → ⊥ = λ e. both_ways (is_same_point p q) no (eq-same_point p q e) in
        let kept = others q.x q.y square.x square.y
        (λ i j. differ (sym (ap₂ (λ (a b : ℕ). point a b) i j))) in (
          (λ one. Contains-append_left points (p ∷ []) q ((marked.told q square).0 (sym kept ∙ one))),
          (λ listed. kept ∙ (marked.told q square).1 (⊎_elim
              (λ old_one. old_one)
              (λ (last : p ≡ q). absurd (differ last))
              (Contains-push_cases points p q listed))),
        ))
        (cases_Bool (is_same_point p q))

-- points of a list, one after the other

-- the first ones with one more
pub points-next : (points : List Point) (i : ℕ) (d : Point) → i < length points →
    take (i + 1) points ≡ take i points ++ get_or points i d ∷ []
points-next points i d within = take_more points i d within

-- those that are needed, and the first that is not
pub need-next : (n : ℕ) (points needs : List Point) (i : ℕ) (d : Point) → i < length needs →
    All (IsNeed n points) (take i needs) → IsNeed n points (get_or needs i d) →
    All (IsNeed n points) (take (i + 1) needs)
need-next n points needs i d within are is =
    subst (λ (l : List Point). All (IsNeed n points) l) (sym (take_more needs i d within))
    (All-append (IsNeed n points) (take i needs) (get_or needs i d ∷ []) are
    (All-cons (IsNeed n points) (get_or needs i d) [] is (All-nil (IsNeed n points))))

pub need-bad : (n : ℕ) (points needs : List Point) (i : ℕ) (d : Point) → i < length needs →
    All (IsNeed n points) (take i needs) → (IsNeed n points (get_or needs i d) → ⊥) →
    IsFirstBadNeed n points needs (i + 1)
need-bad n points needs i d within are fails = record {
  good = take i needs;
  bad = get_or needs i d;
  rest = drop (i + 1) needs;
  parts = sym (take-append-drop (i + 1) needs)
      ∙ ap (λ (l : List Point). l ++ drop (i + 1) needs) (take_more needs i d within)
      ∙ append_assoc (take i needs) (get_or needs i d ∷ []) (drop (i + 1) needs);
  place = ap (λ k. k + 1) (length-take-le i needs (omega arith));
  are = are;
  fails = fails;
}

-- splits

-- a corner of the square asks for none
pub corner-closure : (n : ℕ) (points : List Point) (p : Point) (has : ℕ → Bool) → IsSquareCorner (2 ^ n) p →
    IsLeastClosed n (is_centred n points) has → IsLeastClosed n (is_centred n (points ++ p ∷ [])) has
corner-closure n points p has corner least = record {
  closed = least.closed;
  holds = λ a is. least.holds a (corner-none n points p corner a is);
  least = λ other closed holds. least.least other closed (λ a is. holds a (centred-more n points p a is));
}

-- one point alone

-- that is a corner
pub corner-kept : (n : ℕ) (p : Point) (has : ℕ → Bool) → IsSquareCorner (2 ^ n) p →
    IsSubset (is_centred n (p ∷ [])) has
corner-kept n p has corner a is = absurd (centred-none n a (corner-none n [] p corner a is))

-- or the centre of a triangle
pub centre-kept : (n : ℕ) (p : Point) (has : ℕ → Bool) (t : ℕ) → IsClosed n has → IsSplittable n t →
    centre_of n t ≡ p → IsTrue (has t) ↔ IsSubset (is_centred n (p ∷ [])) has
centre-kept n p has t closed splittable centre = (
  (λ member. centred-held n [] p t splittable centre has closed (λ a is. absurd (centred-none n a is)) member),
  (λ kept. kept t (centred-last n [] p t splittable centre)),
)

-- what is centred at a list, entry by entry
pub kept-next : (n : ℕ) (points : List Point) (i : ℕ) (d : Point) (has : ℕ → Bool) → i < length points →
    IsSubset (is_centred n (take i points)) has → IsSubset (is_centred n (get_or points i d ∷ [])) has →
    IsSubset (is_centred n (take (i + 1) points)) has
kept-next n points i d has within before one a is = ⊎_elim
    (λ old. before a old)
    (λ (new : IsSplittable n a × (get_or points i d ≡ centre_of n a)).
    one a (is-centred n (get_or points i d ∷ []) a new.0
    (subst (λ (z : Point). Contains (get_or points i d ∷ []) z) new.1 (Contains-push [] (get_or points i d)))))
    (centred-cases n (take i points) (get_or points i d) a
    (subst (λ (l : List Point). IsTrue (is_centred n l a)) (take_more points i d within) is))

-- an entry of a list is centred where the list is
pub kept-entry : (n : ℕ) (points : List Point) (i : ℕ) (d : Point) (has : ℕ → Bool) → i < length points →
    IsSubset (is_centred n points) has → IsSubset (is_centred n (get_or points i d ∷ [])) has
kept-entry n points i d has within all a is =
    all a (centred-within n (get_or points i d ∷ []) points (λ p listed. ⊎_elim
    (λ none. absurd (nothing-in p none))
    (λ (same : get_or points i d ≡ p).
    subst (λ (z : Point). Contains points z) same (Contains-get_or points i d within))
    (Contains-push_cases [] (get_or points i d) p listed)) a is)

-- needed points

module _ (n : ℕ) (points some needs : List Point) (p : Point) (flags : List Bool)
    (so_far : AreNeeded n points some needs flags) where
  -- a point whose triangles are split, or that is a corner, is not listed
  pub needed-same : IsSubset (is_centred n (p ∷ [])) (is_flagged flags) →
      AreNeeded n points (some ++ p ∷ []) needs flags
  needed-same kept = record {
    are = so_far.are;
    begun = so_far.begun;
    kept = λ a is. ⊎_elim
        (λ old. so_far.kept a old)
        (λ (new : IsSplittable n a × (p ≡ centre_of n a)).
        kept a (is-centred n (p ∷ []) a new.0
        (subst (λ (z : Point). Contains (p ∷ []) z) new.1 (Contains-push [] p))))
        (centred-cases n some p a is);
    few = (let few = so_far.few in omega (arith, length-append some (p ∷ [])));
  }

  -- and another one is, and split
  pub needed-more : (t : ℕ) (more : List Point) (next : List Bool) → Contains points p → IsSplittable n t →
      centre_of n t ≡ p → more ≡ needs ++ p ∷ [] →
      IsLeastClosed n (with_triangle (is_flagged flags) t) (is_flagged next) →
      AreNeeded n points (some ++ p ∷ []) more next
  needed-more t more next listed splittable centre is_more least = record {
    are = subst (λ (l : List Point). All (IsNeed n points) l) (sym is_more)
        (All-append (IsNeed n points) needs (p ∷ []) so_far.are
        (All-cons (IsNeed n points) p [] record {
          kept = listed;
          inner = λ corner.
              centre-inside n t splittable (subst (λ (z : Point). IsSquareCorner (2 ^ n) z) (sym centre) corner);
        } (All-nil (IsNeed n points))));
    begun = subst (λ (l : List Point). IsLeastClosed n (is_centred n l) (is_flagged next)) (sym is_more)
        (closure-more n needs p t splittable centre (is_flagged flags) (is_flagged next) so_far.begun least);
    kept = centred-held n some p t splittable centre (is_flagged next) least.closed
        (λ a is. least.holds a (with-old (is_flagged flags) t a (so_far.kept a is)))
        (least.holds t (with-new (is_flagged flags) t));
    few = (let few = so_far.few in
        let e = ap (λ (l : List Point). length l) is_more in
        omega (arith, length-append some (p ∷ []), length-append needs (p ∷ [])));
  }

-- before the first point none is needed
pub needed-none : (n : ℕ) (points : List Point) (flags : List Bool) → ((a : ℕ) → is_flagged flags a ≡ false) →
    AreNeeded n points [] [] flags
needed-none n points flags empty = record {
  are = All-nil (IsNeed n points);
  begun = closure-none n (is_flagged flags) empty
      (closed-same n (λ a. false) (is_flagged flags) (λ a. sym (empty a)) (nothing_closed n));
  kept = λ a is. absurd (centred-none n a is);
  few = omega arith;
}

-- a certificate

-- needed points lie on the grid where those that are kept do
pub needs-inside : (n : ℕ) (points needs : List Point) → All (IsInSquare (2 ^ n)) points →
    All (IsNeed n points) needs → All (IsInSquare (2 ^ n)) needs
needs-inside n points needs inside are =
    All-weaker (IsNeed n points) (IsInSquare (2 ^ n))
    (λ p need. All-contains (IsInSquare (2 ^ n)) points p inside need.kept) needs are

-- what the points and the reasons of a sound certificate make is its mesh
pub kept-listed : (n : ℕ) (heights : List ℕ) (points : List Point) (tolerance : ℕ) (cert : KeptCertificate)
    (mesh : List ℕ) (has : ℕ → Bool) (answer : Option ℕ) → All (IsInSquare (2 ^ n)) points →
    IsKeptSound n heights points tolerance cert mesh →
    IfNone answer (All (IsInSquare (2 ^ n)) cert.needs → (start : ℕ → Bool)
    × IsLeastClosed n (is_centred n cert.needs) start
    × LeadsTo n heights cert.rest.tolerance start cert.rest.needed has) →
    IfSome answer (λ k. All (IsInSquare (2 ^ n)) cert.needs → (start : ℕ → Bool)
    × IsLeastClosed n (is_centred n cert.needs) start
    × IsFirstBadFit n heights cert.rest.tolerance start cert.rest.needed k) → leaves_of n has ≡ mesh
kept-listed n heights points tolerance cert mesh has (Some k) inside sound all bad =
    let b = bad (needs-inside n points cert.needs inside sound.fit.leads.needs) in
    absurd (leads-no_bad n heights cert.rest.tolerance b.0 sound.fit.leads.start cert.rest.needed k sound.has
    (IsLeastClosed-unique n (is_centred n cert.needs) b.0 sound.fit.leads.start b.1 sound.fit.leads.begun)
    b.2 sound.fit.leads.needed)
kept-listed n heights points tolerance cert mesh has None inside sound all bad =
    let l = all (needs-inside n points cert.needs inside sound.fit.leads.needs) in
    leaves_of-same n has sound.has
    (leads-unique n heights cert.rest.tolerance l.0 sound.fit.leads.start cert.rest.needed has sound.has
    (IsLeastClosed-unique n (is_centred n cert.needs) l.0 sound.fit.leads.start l.1 sound.fit.leads.begun)
    l.2 sound.fit.leads.needed)
    ∙ sym sound.leaves
