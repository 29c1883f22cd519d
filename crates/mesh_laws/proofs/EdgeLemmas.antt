-- The ends of an edge, and the two triangles that have them.
use Rattle.std.proofs.Common.{◌≡◌, ◌≢◌, ◌-◌, ap, sym, ◌∙◌, ◌⊎◌, ℕ, ◌+◌, ◌*◌, ◌/◌, ◌%◌, ◌^◌, ◌<◌, ◌≤◌, refl, arith, inl}
use Rattle.std.proofs.Common.{inr, ⊎_elim, subst}
use Rattle.std.proofs.lemmas.Bool.{cases_lt}
use Rattle.mesh_defs.specs.declared.point.Point.{Point}
use Rattle.mesh_defs.specs.declared.point.Corners.{Corners}
use Rattle.mesh_defs.specs.Triangle.{level_of, corners_of, child, IsCorner, SameEnds, IsMate, midpoint, HasBorderBase}
use Rattle.mesh_defs.specs.Triangle.{OnOneSide}
use Rattle.bintree_laws.proofs.LevelLemmas.{level_of-root, level_of-parent, pow_next}
use Rattle.bintree_laws.proofs.CornerLemmas.{corners_of-left, corners_of-right}
use Rattle.bintree_laws.proofs.LatticeLemmas.{three, scaled, multiple, lattice, halved, halved-half, step_of}
use Rattle.bintree_laws.proofs.LatticeLemmas.{step_of-power, corners_of-lattice, same_by_coordinates}
use Rattle.bintree_laws.proofs.CentreLemmas.{same_centre}
use Rattle.bintree_laws.proofs.MateLemmas.{coordinates, no_pair-HasBorderBase, border_or_has_pair, IsMate-pair}
use Rattle.bintree_laws.proofs.MateLemmas.{pair-IsMate, IsReversed-mate}
use Rattle.mesh_laws.specs.Edge.{mate_of, owner}
use Rattle.bintree_laws.specs.Corners.{IsReversed}
use Rattle.mesh_laws.proofs.OrientationLemmas.{apart}
use Rattle.mesh_laws.proofs.DescentLemmas.{IsAddress-splittable}
use Rattle.mesh_laws.proofs.OwnerLemmas.{owner_cases, owner-low, owner-split, owner-whole}
use Rattle.std.proofs.Common.{Bool, true, false}
use Rattle.mesh_laws.proofs.MateLemmas.{mate_of-low, mate_of-level}
use Rattle.mesh_laws.proofs.IsMateLemmas.{IsMate-mate_of, mate_of-IsMate}

step_of-double : (n level : ℕ) → level ≤ 2 * n → step_of (n + 1) level ≡ 2 * step_of n level
step_of-double n level fits =
    let half : halved level ≡ (level + 1) / 2 = halved-half level in
    let k : ℕ = n - halved level in
    step_of-power (n + 1) level (k + 1) (omega arith) ∙ pow_next k
    ∙ ap (λ t. 2 * t) (sym (step_of-power n level k refl))

scaled-twice : (step : ℕ) (c : Corners) → scaled (2 * step) c ≡ scaled 2 (scaled step c)
scaled-twice step c = same_by_coordinates _ _ (grind arith)

-- in the grid of twice the side all corners are doubled
pub corners_of-double : (n a : ℕ) → level_of a ≤ 2 * n → corners_of (n + 1) a ≡ scaled 2 (corners_of n a)
corners_of-double n a fits =
    corners_of-lattice (n + 1) a (omega arith)
    ∙ ap (λ t. scaled t (lattice (level_of a) a)) (step_of-double n (level_of a) fits)
    ∙ scaled-twice (step_of n (level_of a)) (lattice (level_of a) a)
    ∙ ap (λ t. scaled 2 t) (sym (corners_of-lattice n a fits))

-- the ends of an edge
pub ends_double : (n e : ℕ) → 2 ≤ e → level_of e ≤ 2 * n + 1 →
    ((corners_of (n + 1) e).v0 ≡ multiple 2 (corners_of n e).v0)
    × ((corners_of (n + 1) e).v1 ≡ multiple 2 (corners_of n e).v1)
ends_double n e low fits = ⊎_elim
    (λ fine. let d = corners_of-double n e fine in (ap (λ t. t.v0) d, ap (λ t. t.v1) d))
    (λ finer. ⊎_elim
    (λ top. absurd (let z = level_of-root e low top in omega arith))
    (λ deep.
    let up : level_of e ≡ level_of (e / 2) + 1 = level_of-parent e deep in
    let d : corners_of (n + 1) (e / 2) ≡ scaled 2 (corners_of n (e / 2)) = corners_of-double n (e / 2) (omega arith) in
    ⊎_elim
    (λ even. let is : e ≡ 2 * (e / 2) = omega arith in
    let big : corners_of (n + 1) e ≡ child 0 (corners_of (n + 1) (e / 2)) =
    ap (corners_of (n + 1)) is ∙ corners_of-left (n + 1) (e / 2) (omega arith) in
    let small : corners_of n e ≡ child 0 (corners_of n (e / 2)) =
    ap (corners_of n) is ∙ corners_of-left n (e / 2) (omega arith) in (
      ap (λ t. t.v0) big ∙ ap (λ t. t.apex) d ∙ ap (λ t. multiple 2 t.v0) (sym small),
      ap (λ t. t.v1) big ∙ ap (λ t. t.v0) d ∙ ap (λ t. multiple 2 t.v1) (sym small),
    ))
    (λ odd. let is : e ≡ 2 * (e / 2) + 1 = omega arith in
    let big : corners_of (n + 1) e ≡ child 1 (corners_of (n + 1) (e / 2)) =
    ap (corners_of (n + 1)) is ∙ corners_of-right (n + 1) (e / 2) (omega arith) in
    let small : corners_of n e ≡ child 1 (corners_of n (e / 2)) =
    ap (corners_of n) is ∙ corners_of-right n (e / 2) (omega arith) in (
      ap (λ t. t.v0) big ∙ ap (λ t. t.v1) d ∙ ap (λ t. multiple 2 t.v0) (sym small),
      ap (λ t. t.v1) big ∙ ap (λ t. t.apex) d ∙ ap (λ t. multiple 2 t.v1) (sym small),
    ))
    (cases_lt (e % 2) 1))
    (cases_lt e 4))
    (let z : (level_of e ≤ 2 * n) ⊎ (2 * n < level_of e) =
    ⊎_elim (λ l. inr l) (λ g. inl g) (cases_lt (2 * n) (level_of e)) in
    z)

multiple-cancel : (p q : Point) → multiple 2 p ≡ multiple 2 q → p ≡ q
multiple-cancel p q e = let x = coordinates (multiple 2 p) (multiple 2 q) e in
    let i : p.x ≡ q.x = let y = x.0 in omega arith in let j : p.y ≡ q.y = let y = x.1 in omega arith in rw (i, j) refl

-- ---- an edge and its mate

swapped_middle : (p q : Point) → midpoint p q ≡ midpoint q p
swapped_middle p q =
    let x : (p.x + q.x) / 2 ≡ (q.x + p.x) / 2 = omega arith in
    let y : (p.y + q.y) / 2 ≡ (q.y + p.y) / 2 = omega arith in
    rw (x, y) refl

-- An edge and its mate have the same ends in the other order, in any grid that has the triangles whose edges they are.
pub reversed : (n e : ℕ) → 2 ≤ e → level_of e ≤ 2 * n + 1 → 1 ≤ mate_of e →
    IsReversed (corners_of n e) (corners_of n (mate_of e))
reversed n e low fits some =
    let two = mate_of-low e low some in
    let same : level_of (mate_of e) ≡ level_of e = mate_of-level e low some in
    let r = IsReversed-mate (n + 1) e (mate_of e) low (omega arith) (IsMate-mate_of (n + 1) e low (omega arith) some) in
    let d = ends_double n e low fits in
    let f = ends_double n (mate_of e) two (omega arith) in (
      multiple-cancel (corners_of n e).v0 (corners_of n (mate_of e)).v1 (sym d.0 ∙ r.0 ∙ f.1),
      multiple-cancel (corners_of n e).v1 (corners_of n (mate_of e)).v0 (sym d.1 ∙ r.1 ∙ f.0),
    )

same_middle : {p q r s : Point} → p ≡ r → q ≡ s → midpoint p q ≡ midpoint r s
same_middle {p} {q} {r} {s} x y = ap (λ t. midpoint t q) x ∙ ap (midpoint r) y

-- Two edges with the same ends are one edge, or mates.
pub same_ends : (n e g : ℕ) → 2 ≤ e → 2 ≤ g → level_of e ≤ 2 * n + 1 → level_of g ≤ 2 * n + 1 →
    SameEnds (corners_of n e) (corners_of n g) → (g ≡ e) ⊎ (mate_of e ≡ g)
same_ends n e g low deep fits room ends =
    let d = ends_double n e low fits in
    let f = ends_double n g deep room in
    let middle : midpoint (corners_of (n + 1) e).v0 (corners_of (n + 1) e).v1
    ≡ midpoint (corners_of (n + 1) g).v0 (corners_of (n + 1) g).v1 = ⊎_elim
    (λ v. same_middle (d.0 ∙ ap (multiple 2) v.0 ∙ sym f.0) (d.1 ∙ ap (multiple 2) v.1 ∙ sym f.1))
    (λ v. same_middle (d.0 ∙ ap (multiple 2) v.0 ∙ sym f.1) (d.1 ∙ ap (multiple 2) v.1 ∙ sym f.0)
    ∙ swapped_middle (corners_of (n + 1) g).v1 (corners_of (n + 1) g).v0) ends in
    ⊎_elim (λ v. inl v) (λ m. inr (mate_of-IsMate (n + 1) e g low (omega arith) m))
    (same_centre (n + 1) e g (record { low = low; coarse = omega arith })
    (record { low = deep; coarse = omega arith }) middle)

-- ---- the leaf across

-- the triangle that owns an edge has both of its ends among its corners
owner_ends : (n : ℕ) (split : ℕ → Bool) (e : ℕ) → 2 ≤ e → 2 ≤ owner split e →
    IsCorner (corners_of n (owner split e)) (corners_of n e).v0
    × IsCorner (corners_of n (owner split e)) (corners_of n e).v1
owner_ends n split e low two = elim (owner_cases split e) [
  | inl v ↦ rw (v.1) (inr (inl refl), inr (inr refl))
  | inr v ↦
      let half : 2 ≤ e / 2 = let o = v.1 in omega arith in
      rw (v.1) (⊎_elim
      (λ even. let is : e ≡ 2 * (e / 2) = omega arith in
      let small : corners_of n e ≡ child 0 (corners_of n (e / 2)) =
      ap (corners_of n) is ∙ corners_of-left n (e / 2) half in
      (inl (ap (λ t. t.v0) small), inr (inl (ap (λ t. t.v1) small))))
      (λ odd. let is : e ≡ 2 * (e / 2) + 1 = omega arith in
      let small : corners_of n e ≡ child 1 (corners_of n (e / 2)) =
      ap (corners_of n) is ∙ corners_of-right n (e / 2) half in
      (inr (inr (ap (λ t. t.v0) small)), inl (ap (λ t. t.v1) small)))
      (cases_lt (e % 2) 1))
]

-- Both ends of the edge e are corners of the leaf across.
pub ends_across : (n : ℕ) (split : ℕ → Bool) (e : ℕ) → 2 ≤ e → level_of e ≤ 2 * n + 1 → 1 ≤ mate_of e → split 1 ≡ true →
    IsCorner (corners_of n (owner split (mate_of e))) (corners_of n e).v0
    × IsCorner (corners_of n (owner split (mate_of e))) (corners_of n e).v1
ends_across n split e low fits some root =
    let two = mate_of-low e low some in
    let o = owner_ends n split (mate_of e) two (owner-low split (mate_of e) root two) in
    let P : Point → Type 0 = λ t. IsCorner (corners_of n (owner split (mate_of e))) t in
    let r = reversed n e low fits some in
    (subst P (sym r.0) o.1, subst P (sym r.1) o.0)

-- Two corners of a triangle that are apart are the ends of an edge of it.
pub edge_of : (n c : ℕ) (p q : Point) → 2 ≤ c → IsCorner (corners_of n c) p →
    IsCorner (corners_of n c) q → (p ≡ q → ⊥) →
    (g : ℕ) × ((g ≡ c) ⊎ (g / 2 ≡ c)) × (((p ≡ (corners_of n g).v0) × (q ≡ (corners_of n g).v1))
    ⊎ ((p ≡ (corners_of n g).v1) × (q ≡ (corners_of n g).v0)))
edge_of n c p q low at_p at_q apart =
    let l : corners_of n (2 * c) ≡ child 0 (corners_of n c) = corners_of-left n c low in
    let r : corners_of n (2 * c + 1) ≡ child 1 (corners_of n c) = corners_of-right n c low in
    let hl : 2 * c / 2 ≡ c = omega arith in let hr : (2 * c + 1) / 2 ≡ c = omega arith in
    elim at_p [
      | inl x ↦ elim at_q [
        | inl y ↦ absurd (apart (x ∙ sym y))
        | inr (inl y) ↦ (2 * c, inr hl, inl (x ∙ ap (λ t. t.v0) (sym l), y ∙ ap (λ t. t.v1) (sym l)))
        | inr (inr y) ↦ (2 * c + 1, inr hr, inr (x ∙ ap (λ t. t.v1) (sym r), y ∙ ap (λ t. t.v0) (sym r)))
      ]
      | inr (inl x) ↦ elim at_q [
        | inl y ↦ (2 * c, inr hl, inr (x ∙ ap (λ t. t.v1) (sym l), y ∙ ap (λ t. t.v0) (sym l)))
        | inr (inl y) ↦ absurd (apart (x ∙ sym y))
        | inr (inr y) ↦ (c, inl refl, inl (x, y))
      ]
      | inr (inr x) ↦ elim at_q [
        | inl y ↦ (2 * c + 1, inr hr, inl (x ∙ ap (λ t. t.v0) (sym r), y ∙ ap (λ t. t.v1) (sym r)))
        | inr (inl y) ↦ (c, inl refl, inr (x, y))
        | inr (inr y) ↦ absurd (apart (x ∙ sym y))
      ]
    ]

-- The leaf across is the only other leaf with both ends.
pub only_across : (n : ℕ) (split : ℕ → Bool) (a e c : ℕ) → 2 ≤ e → level_of e ≤ 2 * n + 1 → owner split e ≡ a →
    ((corners_of n e).v0 ≡ (corners_of n e).v1 → ⊥) →
    2 ≤ c → level_of c ≤ 2 * n → split (c / 2) ≡ true → split c ≡ false → c ≢ a →
    IsCorner (corners_of n c) (corners_of n e).v0 → IsCorner (corners_of n c) (corners_of n e).v1 →
    c ≡ owner split (mate_of e)
only_across n split a e c low fits own apart c_low c_fits live whole other at_p at_q =
    let edge = edge_of n c (corners_of n e).v0 (corners_of n e).v1 c_low at_p at_q apart in
    let g : ℕ = edge.0 in
    let g_low : 2 ≤ g = ⊎_elim (λ v. omega arith) (λ v. omega arith) edge.1 in
    let g_fits : level_of g ≤ 2 * n + 1 = ⊎_elim (λ v. let z : level_of g ≡ level_of c = ap level_of v in omega arith)
    (λ v. let z : level_of (g / 2) ≡ level_of c = ap level_of v in
    let up : level_of g ≡ level_of (g / 2) + 1 = level_of-parent g (omega arith) in omega arith) edge.1 in
    let g_own : owner split g ≡ c = ⊎_elim (λ v. owner-split split g (ap (λ t. split (t / 2)) v ∙ live) ∙ v)
    (λ v. owner-whole split g (ap split v ∙ whole) ∙ v) edge.1 in
    let ends : SameEnds (corners_of n e) (corners_of n g) = edge.2 in
    ⊎_elim (λ same. absurd (other (sym g_own ∙ ap (owner split) same ∙ own)))
    (λ mate. sym g_own ∙ ap (owner split) (sym mate))
    (same_ends n e g low g_low fits g_fits ends)

-- An edge has no mate exactly where it lies on the border, in the grid of twice the side.
pub border_edge : (n e : ℕ) → 2 ≤ e → level_of e ≤ 2 * n + 1 → mate_of e ≡ 0 → HasBorderBase (n + 1) e
border_edge n e low fits none = ⊎_elim (λ b. b)
    (λ pair. absurd (let m : IsMate (n + 1) e pair.0 = IsMate-pair (n + 1) e pair.0 low (omega arith) pair.1 in
    let z : mate_of e ≡ pair.0 = mate_of-IsMate (n + 1) e pair.0 low (omega arith) m in
    let two = m.address.low in
    omega arith))
    (border_or_has_pair (n + 1) e low (omega arith))

-- ---- the two ends of an edge are apart

-- no edge begins where it ends
pub ends_apart : (n e : ℕ) → 2 ≤ e → level_of e ≤ 2 * n + 1 → (corners_of n e).v0 ≡ (corners_of n e).v1 → ⊥
ends_apart n e low fits same =
    let d = ends_double n e low fits in
    let three = apart (n + 1) e (IsAddress-splittable (n + 1) e (record { low = low; coarse = omega arith })) in
    three.1 (d.0 ∙ ap (multiple 2) same ∙ sym d.1)

-- ---- the border, in the grid itself

one_side_half : (m : ℕ) (p q : Point) → OnOneSide (2 * m) (multiple 2 p) (multiple 2 q) → OnOneSide m p q
one_side_half m p q h = elim h [
  | inl v ↦ let x = v.0 in let y = v.1 in inl (omega arith, omega arith)
  | inr (inl v) ↦ let x = v.0 in let y = v.1 in inr (inl (omega arith, omega arith))
  | inr (inr (inl v)) ↦ let x = v.0 in let y = v.1 in inr (inr (inl (omega arith, omega arith)))
  | inr (inr (inr v)) ↦ let x = v.0 in let y = v.1 in inr (inr (inr (omega arith, omega arith)))
]

one_side_twice : (m : ℕ) (p q : Point) → OnOneSide m p q → OnOneSide (2 * m) (multiple 2 p) (multiple 2 q)
one_side_twice m p q h = elim h [
  | inl v ↦ let x = v.0 in let y = v.1 in inl (omega arith, omega arith)
  | inr (inl v) ↦ let x = v.0 in let y = v.1 in inr (inl (omega arith, omega arith))
  | inr (inr (inl v)) ↦ let x = v.0 in let y = v.1 in inr (inr (inl (omega arith, omega arith)))
  | inr (inr (inr v)) ↦ let x = v.0 in let y = v.1 in inr (inr (inr (omega arith, omega arith)))
]

-- An edge has no mate exactly where both its ends lie on one side of the square.
pub border_ends : (n e : ℕ) → 2 ≤ e → level_of e ≤ 2 * n + 1 →
    (mate_of e ≡ 0 → OnOneSide (2 ^ n) (corners_of n e).v0 (corners_of n e).v1)
    × (OnOneSide (2 ^ n) (corners_of n e).v0 (corners_of n e).v1 → mate_of e ≡ 0)
border_ends n e low fits =
    let d = ends_double n e low fits in
    let next : 2 ^ (n + 1) ≡ 2 * 2 ^ n = pow_next n in (
      (λ none.
          let doubled : OnOneSide (2 * 2 ^ n) (multiple 2 (corners_of n e).v0) (multiple 2 (corners_of n e).v1) =
          subst (λ m. OnOneSide m (multiple 2 (corners_of n e).v0) (multiple 2 (corners_of n e).v1)) next
          (subst (λ t. OnOneSide (2 ^ (n + 1)) (multiple 2 (corners_of n e).v0) t) d.1
          (subst (λ t. OnOneSide (2 ^ (n + 1)) t (corners_of (n + 1) e).v1) d.0 (border_edge n e low fits none))) in
          one_side_half (2 ^ n) (corners_of n e).v0 (corners_of n e).v1 doubled),
      (λ side. ⊎_elim (λ few. omega arith)
          (λ some.
          let twice : OnOneSide (2 ^ (n + 1)) (multiple 2 (corners_of n e).v0) (multiple 2 (corners_of n e).v1) =
          subst (λ m. OnOneSide m (multiple 2 (corners_of n e).v0) (multiple 2 (corners_of n e).v1)) (sym next)
          (one_side_twice (2 ^ n) (corners_of n e).v0 (corners_of n e).v1 side) in
          let border : HasBorderBase (n + 1) e = subst (λ t. OnOneSide (2 ^ (n + 1)) t (corners_of (n + 1) e).v1)
          (sym d.0) (subst (λ t. OnOneSide (2 ^ (n + 1)) (multiple 2 (corners_of n e).v0) t) (sym d.1) twice) in
          absurd (no_pair-HasBorderBase (n + 1) e (mate_of e) (omega arith) border
          (pair-IsMate (n + 1) e (mate_of e) low (omega arith) (IsMate-mate_of (n + 1) e low (omega arith) some))))
          (cases_lt (mate_of e) 1)),
    )
