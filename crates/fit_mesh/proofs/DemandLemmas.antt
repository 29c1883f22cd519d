-- Closures of what is required, one part more at a time; and the triangles whose centre stands at a place.
use Rattle.std.proofs.Common.{◌≡◌, ℕ, ◌-◌, ◌*◌, ◌/◌, ◌%◌, ◌^◌, ◌<◌, Bool, true, false, ◌&&◌, ◌||◌, leb, ltb}
use Rattle.std.proofs.Common.{IsTrue, eqb, List, [], ◌∷◌, ◌++◌, refl, sym, ◌∙◌, ap, subst, arith, ⊎_elim, eq-eqb}
use Rattle.std.proofs.lemmas.Bool.{or_cases, or_left, or_right, eqb-true, false≢true}
use Rattle.std.proofs.lemmas.Nat.{div-mul-add, mod-mul-add}
use Rattle.mesh_defs.specs.declared.point.Point.{Point}
use Rattle.mesh_defs.specs.HeightField.{side_of, place_of}
use Rattle.mesh_defs.specs.Triangle.{level_of, IsSplittable}
use Rattle.mesh_defs.specs.ClosedSet.{IsClosed, IsSubset, IsLeastClosed, among}
use Rattle.mesh_defs.specs.Greedy.{with_triangle}
use Rattle.bintree_laws.specs.Corners.{IsInSquare}
use Rattle.bintree_laws.proofs.CornerLemmas.{IsWithin-corners_of}
use Rattle.mesh_laws.proofs.ForcingLemmas.{with-cases, with-old, with-new}
use Rattle.mesh_laws.specs.Vertex.{centre_of, IsSquareCorner}
use Rattle.mesh_laws.proofs.VertexLemmas.{centre-inside}
use Rattle.fit_laws.proofs.CentreLemmas.{has_centre-splittable, has_centre-point, splittable-has_centre, centre-shared}
use Rattle.fit_mesh.specs.Required.{is_centred_at}
use Rattle.fit_mesh.proofs.LogLemmas.{among-more, or-assoc}

-- closures

module _ (n : ℕ) where
  -- what a closed set has forces nothing
  pub closure-start : (has extra : ℕ → Bool) → IsClosed n has → IsSubset extra has →
      IsLeastClosed n (λ a. has a || extra a) has
  closure-start has extra closed within = record {
    closed = closed;
    holds = λ a h. ⊎_elim (λ old. old) (λ new. within a new) (or_cases (has a) (extra a) h);
    least = λ other c splits a h. splits a (or_left (has a) (extra a) h);
  }

  -- what more forces behind what was wanted
  pub closure-joined : (wanted extra all has next : ℕ → Bool) → IsLeastClosed n wanted has →
      IsLeastClosed n (λ a. has a || extra a) next → ((a : ℕ) → all a ≡ (wanted a || extra a)) →
      IsLeastClosed n all next
  closure-joined wanted extra all has next before after same = record {
    closed = after.closed;
    holds = λ a h. ⊎_elim
        (λ old. after.holds a (or_left (has a) (extra a) (before.holds a old)))
        (λ new. after.holds a (or_right (has a) (extra a) new))
        (or_cases (wanted a) (extra a) (sym (same a) ∙ h));
    least = λ other c splits. after.least other c (λ a h. ⊎_elim
        (λ old. before.least other c (λ b w. splits b (same b ∙ or_left (wanted b) (extra b) w)) a old)
        (λ new. splits a (same a ∙ or_right (wanted a) (extra a) new))
        (or_cases (has a) (extra a) h));
  }

-- one triangle more
pub listed-more : (has : ℕ → Bool) (xs : List ℕ) (t a : ℕ) →
    (has a || among (xs ++ t ∷ []) a) ≡ ((has a || among xs a) || eqb t a)
listed-more has xs t a = ap (λ z. has a || z) (among-more xs t a) ∙ or-assoc (has a) (among xs a) (eqb t a)

-- places

and-or : (c x y : Bool) → (c && (x || y)) ≡ ((c && x) || (c && y))
and-or true x y = refl
and-or false x y = refl

and-false : (c : Bool) → (c && false) ≡ false
and-false true = refl
and-false false = refl

or-false : (x : Bool) → x ≡ (x || false)
or-false true = refl
or-false false = refl

module _ (n : ℕ) where
  abbrev is_coarse : ℕ → Bool
  is_coarse a = leb 2 a && ltb (level_of a) (2 * n)

  abbrev centre_place : ℕ → ℕ
  centre_place a = place_of n (centre_of n a).x (centre_of n a).y

  abbrev is_at : List ℕ → Point → Bool
  is_at places p = among places (place_of n p.x p.y)

  -- at no place
  pub centred-none : (a : ℕ) → is_centred_at n [] a ≡ false
  centred-none a = and-false (is_coarse a)

  -- at one place more
  pub centred-more : (has : ℕ → Bool) (xs : List ℕ) (p a : ℕ) →
      (has a || is_centred_at n (xs ++ p ∷ []) a) ≡ ((has a || is_centred_at n xs a) || is_centred_at n (p ∷ []) a)
  centred-more has xs p a =
      let e : is_centred_at n (xs ++ p ∷ []) a ≡ (is_centred_at n xs a || is_centred_at n (p ∷ []) a) =
      ap (λ z. is_coarse a && z) (among-more xs p (centre_place a)
      ∙ ap (λ z. among xs (centre_place a) || z) (or-false (eqb p (centre_place a))))
      ∙ and-or (is_coarse a) (among xs (centre_place a)) (eqb p (centre_place a) || false) in
      ap (λ z. has a || z) e ∙ or-assoc (has a) (is_centred_at n xs a) (is_centred_at n (p ∷ []) a)

  -- a triangle that is centred may be split, and its centre is at the place
  pub centred-splittable : (places : List ℕ) (a : ℕ) → IsTrue (is_centred_at n places a) → IsSplittable n a
  centred-splittable places a is = has_centre-splittable n (is_at places) a is

  pub centred-place : (places : List ℕ) (a : ℕ) → IsTrue (is_centred_at n places a) →
      IsTrue (among places (centre_place a))
  centred-place places a is = has_centre-point n (is_at places) a is

  pub is-centred : (places : List ℕ) (a : ℕ) → IsSplittable n a → IsTrue (among places (centre_place a)) →
      IsTrue (is_centred_at n places a)
  is-centred places a s listed = splittable-has_centre n (is_at places) a s listed

  -- a place is that of one point
  pub place-one : (p q : Point) → IsInSquare (2 ^ n) p → IsInSquare (2 ^ n) q →
      place_of n p.x p.y ≡ place_of n q.x q.y → p ≡ q
  place-one p q here there same =
      let short : p.x < side_of n = (let l = here.x in omega arith) in
      let brief : q.x < side_of n = (let l = there.x in omega arith) in
      let x : p.x ≡ q.x = sym (mod-mul-add (2 ^ n - p.y) (side_of n) p.x short) ∙ ap (λ k. k % side_of n) same
      ∙ mod-mul-add (2 ^ n - q.y) (side_of n) q.x brief in
      let line : 2 ^ n - p.y ≡ 2 ^ n - q.y = sym (div-mul-add (2 ^ n - p.y) (side_of n) p.x short)
      ∙ ap (λ k. k / side_of n) same ∙ div-mul-add (2 ^ n - q.y) (side_of n) q.x brief in
      let y : p.y ≡ q.y = (let l = here.y in let m = there.y in omega arith) in
      λ i. record { x = x i; y = y i }

  -- a centre lies in the square
  pub centre-within : (a : ℕ) → IsInSquare (2 ^ n) (centre_of n a)
  centre-within a =
      let w = IsWithin-corners_of n a in record {
        x = (let i = w.v0_x in let j = w.v1_x in omega arith);
        y = (let i = w.v0_y in let j = w.v1_y in omega arith);
      }

  module _ (place : ℕ) (p : Point) (here : IsInSquare (2 ^ n) p) (at : place_of n p.x p.y ≡ place) where
    one-point : (a : ℕ) → IsTrue (is_centred_at n (place ∷ []) a) → centre_of n a ≡ p
    one-point a is = place-one (centre_of n a) p (centre-within a) here (⊎_elim
        (λ same. sym (eqb-true place (centre_place a) same) ∙ sym at)
        (λ none. absurd (false≢true none))
        (or_cases (eqb place (centre_place a)) false (centred-place (place ∷ []) a is)))

    -- at a corner of the square there is no centre
    pub corner-none : (has : ℕ → Bool) → IsSquareCorner (2 ^ n) p → IsSubset (is_centred_at n (place ∷ [])) has
    corner-none has corner a is = absurd (centre-inside n a (centred-splittable (place ∷ []) a is)
        (subst (λ q. IsSquareCorner (2 ^ n) q) (sym (one-point a is)) corner))

    -- the split of a triangle with the centre is that of all of them
    pub split-centred : (has next : ℕ → Bool) (t : ℕ) → IsSplittable n t → centre_of n t ≡ p →
        IsLeastClosed n (with_triangle has t) next →
        IsLeastClosed n (λ a. has a || is_centred_at n (place ∷ []) a) next
    split-centred has next t s centre least = record {
      closed = least.closed;
      holds = λ a h. ⊎_elim
          (λ old. least.holds a (with-old has t a old))
          (λ new. centre-shared n next a t least.closed (centred-splittable (place ∷ []) a new) s
          (one-point a new ∙ sym centre) ∙ least.holds t (with-new has t))
          (or_cases (has a) (is_centred_at n (place ∷ []) a) h);
      least = λ other closed splits. least.least other closed (λ a h. ⊎_elim
          (λ old. splits a (or_left (has a) (is_centred_at n (place ∷ []) a) old))
          (λ same. subst (λ z. IsTrue (other z)) same
          (splits t (or_right (has t) (is_centred_at n (place ∷ []) t) (is-centred (place ∷ []) t s
          (or_left (eqb place (centre_place t)) false
          (eq-eqb place (centre_place t) (sym at ∙ ap (λ (q : Point). place_of n q.x q.y) (sym centre))))))))
          (with-cases has t a h));
    }
