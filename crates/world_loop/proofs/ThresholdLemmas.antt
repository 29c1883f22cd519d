-- What has a priority above 0 over what is loaded is what has a ratio above the threshold there; and no page is loaded
-- beyond the terrain.
use Rattle.std.proofs.Common.{◌≡◌, ℕ, ◌+◌, ◌*◌, ◌^◌, ◌<◌, Bool, ◌&&◌, IsTrue, nat_le, nat_lt, cond, true, false, Option, None}
use Rattle.std.proofs.Common.{refl, sym, ap, ◌∙◌, subst, ⊎_elim, slice_index_or, arith}
use Rattle.std.specs.Option.{is_some}
use Rattle.std.proofs.lemmas.Bool.{cases_Bool, and_parts, ltb-true, false≢true}
use Rattle.mesh_defs.specs.declared.point.Point.{Point}
use Rattle.mesh_defs.specs.Triangle.{level_of}
use Rattle.mesh_defs.specs.BoundingBox.{BoundingBox, distance_of}
use Rattle.mesh_defs.specs.View.{mark_of}
use Rattle.mesh_defs.specs.Priority.{seen_ratio}
use Rattle.mesh_defs.specs.ClosedSet.{IsLeastClosed}
use Rattle.mesh_defs.proofs.ThresholdLemmas.{lt-above}
use Rattle.mesh_laws.specs.Least.{is_worse}
use Rattle.page_laws.specs.Pages.{AreOnTerrain, is_known}
use Rattle.page_laws.specs.Loaded.{known_box, known_wedge, known_priority}
use Rattle.page_wedges.specs.Page.{Page}
use Rattle.page_store.specs.Store.{Store, pages_of, page_at, is_square, cuts_of, place}
use Rattle.page_priority.specs.Loaded.{LoadedState, is_open, loaded_box, loaded_wedge, loaded_priority}
use Rattle.world_loop.specs.World.{loaded_above}

-- ---- the threshold

opened-above : (s : LoadedState) (a : ℕ) (open_there : Bool) →
    nat_lt 0 (cond open_there (known_priority s.pages.large s.height (is_known s.pages) s.view a) 0)
    ≡ nat_lt s.view.threshold (cond open_there (known_priority s.pages.large s.height (is_known s.pages)
    (loaded_above 0 s).view a) 0)
unfolding known_priority
opened-above s a true =
    let box : BoundingBox = loaded_box s a in
    lt-above s.view.threshold
    (seen_ratio (mark_of s.view.planes box) (loaded_wedge s a).thickness (distance_of box s.view.camera))
opened-above s a false = grind arith

worse-above : (s : LoadedState) (a : ℕ) → is_worse s.pages.large 0 (loaded_priority s) a
    ≡ is_worse s.pages.large s.view.threshold (loaded_priority (loaded_above 0 s)) a
worse-above s a = ap (λ b. (nat_le 2 a && nat_lt (level_of a) (2 * s.pages.large)) && b) (opened-above s a (is_open s a))

-- so both have the same least closed sets
pub least-above : (s : LoadedState) (has : ℕ → Bool) →
    IsLeastClosed s.pages.large (is_worse s.pages.large 0 (loaded_priority s)) has →
    IsLeastClosed s.pages.large (is_worse s.pages.large s.view.threshold (loaded_priority (loaded_above 0 s))) has
least-above s has is = record {
  closed = is.closed;
  holds = λ a h. is.holds a (subst (λ b. IsTrue b) (sym (worse-above s a)) h);
  least = λ other closed holds. is.least other closed (λ a h.
      holds a (subst (λ b. IsTrue b) (worse-above s a) h));
}

-- ---- the terrain

pub on-terrain : (s : Store) → AreOnTerrain (pages_of s)
unfolding page_at
on-terrain s q t coarse loaded = ⊎_elim
    (λ (is : is_square s q t ≡ true).
    let a = and_parts (nat_le (s.n + q) s.large) (nat_lt t.x (2 ^ cuts_of s q) && nat_lt t.y (2 ^ cuts_of s q)) is in
    let b = and_parts (nat_lt t.x (2 ^ cuts_of s q)) (nat_lt t.y (2 ^ cuts_of s q)) a.1 in
    record { column = ltb-true t.x (2 ^ cuts_of s q) b.0; row = ltb-true t.y (2 ^ cuts_of s q) b.1 })
    (λ (not : is_square s q t ≡ false).
    absurd (false≢true (sym (ap (λ b. is_some (cond b (slice_index_or s.pages (place (cuts_of s q) t) None) None)) not)
    ∙ loaded)))
    (cases_Bool (is_square s q t))
