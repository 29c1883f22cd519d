-- Images in a rectangle of tiles: those of triangles, and of the ends of their bases.
use Rattle.std.proofs.Common.{◌≡◌, ℕ, zero, suc, ◌-◌, ◌*◌, ◌/◌, ◌^◌, ◌≤◌, ◌⊎◌, inl, inr, refl, sym, ◌∙◌, ap}
use Rattle.mesh_defs.specs.declared.point.Point.{Point}
use Rattle.mesh_defs.specs.declared.point.Corners.{Corners}
use Rattle.mesh_defs.specs.Triangle.{level_of, corners_of, SameEnds}
use Rattle.mosaic_laws.specs.Mirror.{mirrored, reflected, turned_over}
use Rattle.mosaic_laws.proofs.MirrorLemmas.{mirrored-level, mirrored-big, mirrored-parent, mirrored-corners}
use Rattle.mosaic_laws.specs.Beyond.{mirrored_if}

-- the image, if wanted

pub if-level : (odd which a : ℕ) → 4 ≤ a → level_of (mirrored_if odd which a) ≡ level_of a
if-level zero which a big = refl
if-level (suc _) which a big = mirrored-level which a big

pub if-big : (odd which a : ℕ) → 4 ≤ a → 4 ≤ mirrored_if odd which a
if-big zero which a big = big
if-big (suc _) which a big = mirrored-big which a big

pub if-parent : (odd which a : ℕ) → 8 ≤ a → mirrored_if odd which a / 2 ≡ mirrored_if odd which (a / 2)
if-parent zero which a big = refl
if-parent (suc _) which a big = mirrored-parent which a big

-- the image of a point, if wanted
abbrev pub reflected_if : ℕ → ℕ → ℕ → Point → Point
reflected_if zero which m p = p
reflected_if (suc _) zero m p = record { x = m - p.x; y = p.y }
reflected_if (suc _) (suc _) m p = record { x = p.x; y = m - p.y }

-- the base has these two ends
abbrev pub HasEnds : Corners → Point → Point → Type 0
HasEnds c p q = ((c.v0 ≡ p) × (c.v1 ≡ q)) ⊎ ((c.v0 ≡ q) × (c.v1 ≡ p))

-- two triangles whose bases have these ends have the same ends
pub ends-same : (c d : Corners) (p q : Point) → HasEnds c p q → HasEnds d p q → SameEnds c d
ends-same c d p q (inl (e, f)) (inl (g, h)) = inl (e ∙ sym g, f ∙ sym h)
ends-same c d p q (inl (e, f)) (inr (g, h)) = inr (e ∙ sym h, f ∙ sym g)
ends-same c d p q (inr (e, f)) (inl (g, h)) = inr (e ∙ sym h, f ∙ sym g)
ends-same c d p q (inr (e, f)) (inr (g, h)) = inl (e ∙ sym g, f ∙ sym h)

mirrored-ends : (which m : ℕ) (c d : Corners) (p q : Point) → d ≡ turned_over which m c → HasEnds c p q →
    HasEnds d (reflected which m p) (reflected which m q)
mirrored-ends which m c d p q is (inl (e, f)) =
    inr (
      ap (λ (c : Corners). c.v0) is ∙ ap (reflected which m) f,
      ap (λ (c : Corners). c.v1) is ∙ ap
          (reflected which m) e,
    )
mirrored-ends which m c d p q is (inr (e, f)) =
    inl (
      ap (λ (c : Corners). c.v0) is ∙ ap (reflected which m) f,
      ap (λ (c : Corners). c.v1) is ∙ ap
          (reflected which m) e,
    )

-- the ends of the image's base are the images of the ends
pub if-ends : (odd which n a : ℕ) (p q : Point) → 4 ≤ a → level_of a ≤ 2 * n → HasEnds (corners_of n a) p q →
    HasEnds (corners_of n (mirrored_if odd which a)) (reflected_if odd which (2 ^ n) p)
    (reflected_if odd which (2 ^ n) q)
if-ends zero which n a p q big fits ends = ends
if-ends (suc _) zero n a p q big fits ends =
    mirrored-ends 0 (2 ^ n) (corners_of n a) (corners_of n (mirrored 0 a)) p q (mirrored-corners 0 n a big fits) ends
if-ends (suc _) (suc which) n a p q big fits ends =
    mirrored-ends (suc which) (2 ^ n) (corners_of n a) (corners_of n (mirrored (suc which) a)) p q
    (mirrored-corners (suc which) n a big fits) ends
