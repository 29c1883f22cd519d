-- The strip is a ring. The strip of a triangle begins at one end of its base and ends at the other: its first
-- leaf has a corner at the one end, with edges along the base and along the leg there, and so has its last
-- leaf at the other end. The strips of the two children meet at the apex, where both have an edge along the
-- leg that the children share.
use Rattle.std.proofs.Common.{◌≡◌, ℕ, zero, suc, ◌+◌, ◌*◌, ◌%◌, ◌^◌, ◌<◌, ◌≤◌, ◌⊎◌, inl, inr, Bool, true, false, not}
use Rattle.std.proofs.Common.{eqb, List, [], ◌∷◌, ◌++◌, Contains, refl, sym, subst, arith, ⊎_elim, pow_pos}
use Rattle.std.proofs.lemmas.Bool.{cases_lt, false≢true}
use Rattle.mesh_defs.specs.declared.point.Point.{Point}
use Rattle.mesh_defs.specs.declared.point.Corners.{Corners}
use Rattle.mesh_defs.specs.Triangle.{level_of, midpoint, child, corners_of}
use Rattle.mesh_defs.specs.Tiling.{IsStrictlyBetween, IsConforming}
use Rattle.mesh_defs.specs.ClosedSet.{IsClosed, leaves_of}
use Rattle.bintree_laws.proofs.LevelLemmas.{level_of-left, level_of-right}
use Rattle.bintree_laws.proofs.CornerLemmas.{corners_of-left, corners_of-right}
use Rattle.mesh_laws.proofs.WayLemmas.{Way, north_west, south_east, point, IsRun, IsInside-between}
use Rattle.mesh_laws.proofs.WayLemmas.{IsStrictlyBetween-inside, IsRun-first_half, IsRun-second_half}
use Rattle.mesh_laws.proofs.WayLemmas.{IsInside-first_half, IsInside-second_half, IsInside-middle}
use Rattle.mesh_laws.proofs.WayLemmas.{IsStrictlyBetween-reversed}
use Rattle.mesh_laws.proofs.TurnLemmas.{three, six, IsTurned, leg, IsRun-base, IsRun-right_leg, IsTurned-right}
use Rattle.mesh_laws.proofs.DescentLemmas.{IsDown, IsDown-left, IsDown-right, IsDown-2, IsDown-3, forked_of}
use Rattle.mesh_laws.proofs.ConformityLemmas.{IsConforming-leaves_of}
use Rattle.mesh_defs.proofs.ListLemmas.{IsIn, Contains-in, IsIn-append-left, IsIn-append-right}
use Rattle.mesh_laws.specs.Strip.{has_even_level, strip_under, strip_of, SharesEdge, IsStripChain, one, more, IsRing}
use Rattle.mesh_laws.proofs.StripEdgeLemmas.{HasEdgeAlong, HasEdgeAlong-longer, SharesEdge-along}
use Rattle.mesh_laws.proofs.StripOrderLemmas.{leaf-strip_of}

-- ---- lists and chains

-- the first and the last triangle of a chain are entries
IsIn-first : (n first last : ℕ) (xs : List ℕ) → IsStripChain n first last xs → IsIn first xs
IsIn-first n first last xs (one a) = inl refl
IsIn-first n first last xs (more a b z rest shares chain) = inl refl

IsIn-last : (n first last : ℕ) (xs : List ℕ) → IsStripChain n first last xs → IsIn last xs
IsIn-last n first last xs (one a) = inl refl
IsIn-last n first last xs (more a b z rest shares chain) = inr (IsIn-last n b z rest chain)

-- a chain after a chain
IsChain-append : (n a b c d : ℕ) (xs ys : List ℕ) → IsStripChain n a b xs → SharesEdge n b c → IsStripChain n c d ys →
    IsStripChain n a d (xs ++ ys)
IsChain-append n a b c d xs ys (one e) shares chain = more e c d ys shares chain
IsChain-append n a b c d xs ys (more e f z rest next front) shares chain =
    more e f d (rest ++ ys) next (IsChain-append n f z c d rest ys front shares chain)

-- ---- crossing a triangle

-- leaf e lies at one end of a base: it has an edge along the base, and one along the leg
record IsAtEnd (n : ℕ) (out back : Bool) (e : ℕ) (here there apex : Point) : Type 0 where
  base : HasEdgeAlong n out e here there
  leg : HasEdgeAlong n back e here apex

-- a chain of leaves from one end of a base to the other
record Crosses (n : ℕ) (out back : Bool) (from to apex : Point) (triangles : List ℕ) : Type 0 where
  first : ℕ
  last : ℕ
  chain : IsStripChain n first last triangles
  entry : IsAtEnd n out back first from to apex
  exit : IsAtEnd n back out last to from apex

-- a base and its middle, and the run from the apex to the middle
record IsFolded (from to apex middle : Point) : Type 0 where
  inside : IsStrictlyBetween from to middle
  near_part : (r : Point) → IsStrictlyBetween from middle r → IsStrictlyBetween from to r
  far_part : (r : Point) → IsStrictlyBetween to middle r → IsStrictlyBetween to from r
  way : Way
  steps : ℕ
  some : 0 < steps
  run : IsRun way steps apex middle

-- the same from the other end
IsFolded-turned : (from to apex middle : Point) → IsFolded from to apex middle → IsFolded to from apex middle
IsFolded-turned from to apex middle f = record {
  inside = IsStrictlyBetween-reversed from to middle f.inside;
  near_part = f.far_part;
  far_part = f.near_part;
  way = f.way;
  steps = f.steps;
  some = f.some;
  run = f.run;
}

-- a triangle that can be halved is folded so
IsFolded-turn : (w : Way) (k : ℕ) (c : Corners) → 0 < k → IsTurned w (leg w k) c →
    IsFolded c.v0 c.v1 c.apex (midpoint c.v0 c.v1)
IsFolded-turn w k c some t =
    let base = IsRun-base w k c t in
    let middle : Point = midpoint c.v0 c.v1 in
    let first = IsRun-first_half (three w) k c.v0 c.v1 base in
    let second = IsRun-second_half (three w) k c.v0 c.v1 base in
    record {
      inside = IsStrictlyBetween-inside (three w) (2 * k) c.v0 c.v1 middle base
          (IsInside-middle (three w) k c.v0 middle some first);
      near_part = λ r b. IsStrictlyBetween-inside (three w) (2 * k) c.v0 c.v1 r base
          (IsInside-first_half (three w) k c.v0 r (IsInside-between (three w) k c.v0 middle r some first b));
      far_part =
          λ r b. IsStrictlyBetween-reversed c.v0 c.v1 r (IsStrictlyBetween-inside (three w) (2 * k) c.v0 c.v1 r base
          (IsInside-second_half (three w) k c.v0 middle r first
          (IsInside-between (three w) k middle c.v1 r some second (IsStrictlyBetween-reversed c.v1 middle r b))));
      way = six (three w);
      steps = k;
      some = some;
      run = IsRun-right_leg (three w) k (child 1 c) (IsTurned-right w k 0 c t);
    }

IsFolded-down : (n levels a : ℕ) → IsDown n (suc levels) a →
    IsFolded (corners_of n a).v0 (corners_of n a).v1 (corners_of n a).apex
    (midpoint (corners_of n a).v0 (corners_of n a).v1)
IsFolded-down n levels a d = let f = forked_of n levels a d in IsFolded-turn f.0 f.1 (corners_of n a) f.2 f.3

-- a strip crosses a triangle of even level from v0 to v1, one of odd level from v1 to v0
abbrev CrossesTriangle : ℕ → Bool → Corners → List ℕ → Type 0
CrossesTriangle n true c triangles = Crosses n true false c.v0 c.v1 c.apex triangles
CrossesTriangle n false c triangles = Crosses n false true c.v1 c.v0 c.apex triangles

-- a triangle lies at both ends of its base
at_v0 : (n a : ℕ) → IsAtEnd n true false a (corners_of n a).v0 (corners_of n a).v1 (corners_of n a).apex
at_v0 n a = record {
  base = record { far = (corners_of n a).v1; edge = inr (inl (refl, refl)); within = inl refl };
  leg = record { far = (corners_of n a).apex; edge = inl (refl, refl); within = inl refl };
}

at_v1 : (n a : ℕ) → IsAtEnd n false true a (corners_of n a).v1 (corners_of n a).v0 (corners_of n a).apex
at_v1 n a = record {
  base = record { far = (corners_of n a).v0; edge = inr (inl (refl, refl)); within = inl refl };
  leg = record { far = (corners_of n a).apex; edge = inr (inr (refl, refl)); within = inl refl };
}

-- so it is its own strip
Crosses-one : (n : ℕ) (even : Bool) (a : ℕ) → CrossesTriangle n even (corners_of n a) (a ∷ [])
Crosses-one n true a = record { first = a; last = a; chain = one a; entry = at_v0 n a; exit = at_v1 n a }
Crosses-one n false a = record { first = a; last = a; chain = one a; entry = at_v1 n a; exit = at_v0 n a }

-- ---- the children have levels of the other kind

other_parity : (i j : ℕ) → j ≡ i + 1 → eqb (j % 2) 0 ≡ not (eqb (i % 2) 0)
other_parity i j e = parities (i % 2) (j % 2) (⊎_elim
    (λ even. inl (omega arith, omega arith))
    (λ odd. inr (omega arith, omega arith))
    (cases_lt (i % 2) 1))
  where
    parities : (p q : ℕ) → ((p ≡ 0) × (q ≡ 1)) ⊎ ((p ≡ 1) × (q ≡ 0)) → eqb q 0 ≡ not (eqb p 0)
    parities p q (inl h) = rw (h.0, h.1) refl
    parities p q (inr h) = rw (h.0, h.1) refl

pub has_even_level-left : (a : ℕ) → 2 ≤ a → has_even_level (2 * a) ≡ not (has_even_level a)
has_even_level-left a low = other_parity (level_of a) (level_of (2 * a)) (level_of-left a low)

pub has_even_level-right : (a : ℕ) → 2 ≤ a → has_even_level (2 * a + 1) ≡ not (has_even_level a)
has_even_level-right a low = other_parity (level_of a) (level_of (2 * a + 1)) (level_of-right a low)

-- ---- the strip of a triangle crosses it

-- the strip of a triangle by those of its children
abbrev joined : Bool → Bool → List ℕ → List ℕ → ℕ → List ℕ
joined member even left right a = elim member as (λ _. List ℕ) [
  | true ↦ elim even as (λ _. List ℕ) [ true ↦ left ++ right | false ↦ right ++ left ]
  | false ↦ a ∷ []
]

-- it has the entries of both
IsIn-joined_left : (member even : Bool) (left right : List ℕ) (a e : ℕ) → member ≡ true → IsIn e left →
    IsIn e (joined member even left right a)
IsIn-joined_left true true left right a e is h = IsIn-append-left e left right h
IsIn-joined_left true false left right a e is h = IsIn-append-right e right left h
IsIn-joined_left false even left right a e is h = absurd (false≢true is)

IsIn-joined_right : (member even : Bool) (left right : List ℕ) (a e : ℕ) → member ≡ true → IsIn e right →
    IsIn e (joined member even left right a)
IsIn-joined_right true true left right a e is h = IsIn-append-right e left right h
IsIn-joined_right true false left right a e is h = IsIn-append-left e right left h
IsIn-joined_right false even left right a e is h = absurd (false≢true is)

-- each entry is in the list
abbrev AreListed : List ℕ → List ℕ → Type 0
AreListed list triangles = (e : ℕ) → IsIn e triangles → IsIn e list

module _ (n : ℕ) (list : List ℕ) (conforming : IsConforming n list) where
  -- the strips of the children, one after the other
  Crosses-both : (out back : Bool) (from to apex middle : Point) (near far : List ℕ) → not out ≡ back →
      IsFolded from to apex middle → AreListed list (near ++ far) →
      Crosses n back out from apex middle near → Crosses n back out apex to middle far →
      Crosses n out back from to apex (near ++ far)
  Crosses-both out back from to apex middle near far opposite f listed x y =
      let in_near : Contains list x.last =
      Contains-in x.last list
      (listed x.last (IsIn-append-left x.last near far (IsIn-last n x.first x.last near x.chain))) in
      let in_far : Contains list y.first =
      Contains-in y.first list (listed y.first
      (IsIn-append-right y.first near far (IsIn-first n y.first y.last far y.chain))) in
      let shared : SharesEdge n x.last y.first =
      SharesEdge-along n list conforming out x.last y.first f.way f.steps apex middle f.some f.run in_near in_far
      (subst (λ z. HasEdgeAlong n z x.last apex middle) (sym opposite) x.exit.leg) y.entry.leg in
      record {
        first = x.first;
        last = y.last;
        chain = IsChain-append n x.first x.last y.first y.last near far x.chain shared y.chain;
        entry = record {
          base = HasEdgeAlong-longer n out x.first from middle to f.inside f.near_part x.entry.leg;
          leg = x.entry.base;
        };
        exit = record {
          base = HasEdgeAlong-longer n back y.last to middle from
              (IsStrictlyBetween-reversed from to middle f.inside) f.far_part y.exit.leg;
          leg = y.exit.base;
        };
      }

  -- one step, whether a is a member or not, and at a level of either kind
  Crosses-step : (member even : Bool) (a : ℕ) (left right : List ℕ) →
      IsFolded (corners_of n a).v0 (corners_of n a).v1 (corners_of n a).apex
      (midpoint (corners_of n a).v0 (corners_of n a).v1) →
      AreListed list (joined member even left right a) →
      (member ≡ true → CrossesTriangle n (not even) (child 0 (corners_of n a)) left) →
      (member ≡ true → CrossesTriangle n (not even) (child 1 (corners_of n a)) right) →
      CrossesTriangle n even (corners_of n a) (joined member even left right a)
  Crosses-step false even a left right f listed x y = Crosses-one n even a
  Crosses-step true true a left right f listed x y =
      let c : Corners = corners_of n a in
      Crosses-both true false c.v0 c.v1 c.apex (midpoint c.v0 c.v1) left right refl f listed (x refl) (y refl)
  Crosses-step true false a left right f listed x y =
      let c : Corners = corners_of n a in
      Crosses-both false true c.v1 c.v0 c.apex (midpoint c.v0 c.v1) right left refl
      (IsFolded-turned c.v0 c.v1 c.apex (midpoint c.v0 c.v1) f) listed (y refl) (x refl)

  -- the strip of each triangle crosses it
  Crosses-strip_under : (has : ℕ → Bool) (levels a : ℕ) → IsDown n levels a →
      AreListed list (strip_under levels has a) →
      CrossesTriangle n (has_even_level a) (corners_of n a) (strip_under levels has a)
  Crosses-strip_under has zero a d listed = Crosses-one n (has_even_level a) a
  Crosses-strip_under has (suc levels) a d listed =
      let left : List ℕ = strip_under levels has (2 * a) in
      let right : List ℕ = strip_under levels has (2 * a + 1) in
      Crosses-step (has a) (has_even_level a) a left right (IsFolded-down n levels a d) listed
      (λ member. subst (λ c. CrossesTriangle n (not (has_even_level a)) c left) (corners_of-left n a d.low)
      (subst (λ even. CrossesTriangle n even (corners_of n (2 * a)) left) (has_even_level-left a d.low)
      (Crosses-strip_under has levels (2 * a) (IsDown-left n levels a d)
      (λ e h. listed e (IsIn-joined_left (has a) (has_even_level a) left right a e member h)))))
      (λ member. subst (λ c. CrossesTriangle n (not (has_even_level a)) c right) (corners_of-right n a d.low)
      (subst (λ even. CrossesTriangle n even (corners_of n (2 * a + 1)) right) (has_even_level-right a d.low)
      (Crosses-strip_under has levels (2 * a + 1) (IsDown-right n levels a d)
      (λ e h. listed e (IsIn-joined_right (has a) (has_even_level a) left right a e member h)))))

-- ---- the whole strip

-- the strips of 2 and of 3 cross them along the falling diagonal, there and back
Crosses-lower : (n : ℕ) (list : List ℕ) → IsConforming n list → (has : ℕ → Bool) →
    AreListed list (strip_under (2 * n) has 2) →
    Crosses n true false (point (2 ^ n) 0) (point 0 (2 ^ n)) (point 0 0) (strip_under (2 * n) has 2)
unfolding corners_of level_of
Crosses-lower n list conforming has listed = Crosses-strip_under n list conforming has (2 * n) 2 (IsDown-2 n) listed

Crosses-upper : (n : ℕ) (list : List ℕ) → IsConforming n list → (has : ℕ → Bool) →
    AreListed list (strip_under (2 * n) has 3) →
    Crosses n true false (point 0 (2 ^ n)) (point (2 ^ n) 0) (point (2 ^ n) (2 ^ n)) (strip_under (2 * n) has 3)
unfolding corners_of level_of
Crosses-upper n list conforming has listed = Crosses-strip_under n list conforming has (2 * n) 3 (IsDown-3 n) listed

-- the two strips, one after the other, are a ring
IsRing-both : (n : ℕ) (list : List ℕ) → IsConforming n list → (near far : List ℕ) → AreListed list (near ++ far) →
    (apex other : Point) →
    Crosses n true false (point (2 ^ n) 0) (point 0 (2 ^ n)) apex near →
    Crosses n true false (point 0 (2 ^ n)) (point (2 ^ n) 0) other far → IsRing n (near ++ far)
IsRing-both n list conforming near far listed apex other x y =
    let in_near : (e : ℕ) → IsIn e near → Contains list e =
    λ e h. Contains-in e list (listed e (IsIn-append-left e near far h)) in
    let in_far : (e : ℕ) → IsIn e far → Contains list e =
    λ e h. Contains-in e list (listed e (IsIn-append-right e near far h)) in
    let some : 0 < 2 ^ n = pow_pos n in
    record {
      first = x.first;
      last = y.last;
      chain = IsChain-append n x.first x.last y.first y.last near far x.chain
          (SharesEdge-along n list conforming true x.last y.first south_east (2 ^ n)
          (point 0 (2 ^ n)) (point (2 ^ n) 0) some
          (omega arith, omega arith) (in_near x.last (IsIn-last n x.first x.last near x.chain))
          (in_far y.first (IsIn-first n y.first y.last far y.chain)) x.exit.base y.entry.base)
          y.chain;
      closing = SharesEdge-along n list conforming true y.last x.first north_west (2 ^ n)
          (point (2 ^ n) 0) (point 0 (2 ^ n)) some
          (omega arith, omega arith) (in_far y.last (IsIn-last n y.first y.last far y.chain))
          (in_near x.first (IsIn-first n x.first x.last near x.chain)) y.exit.base x.entry.base;
    }

-- the strip of a closed set is a ring
pub IsRing-strip_of : (n : ℕ) (has : ℕ → Bool) → IsClosed n has → IsRing n (strip_of n has)
unfolding strip_of
IsRing-strip_of n has closed =
    let conforming = IsConforming-leaves_of n has closed in
    let lower : List ℕ = strip_under (2 * n) has 2 in
    let upper : List ℕ = strip_under (2 * n) has 3 in
    let listed : AreListed (leaves_of n has) (lower ++ upper) = λ e h. leaf-strip_of n e has h in
    IsRing-both n (leaves_of n has) conforming lower upper listed (point 0 0) (point (2 ^ n) (2 ^ n))
    (Crosses-lower n (leaves_of n has) conforming has (λ e h. listed e (IsIn-append-left e lower upper h)))
    (Crosses-upper n (leaves_of n has) conforming has (λ e h. listed e (IsIn-append-right e lower upper h)))
