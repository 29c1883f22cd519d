-- The box, the priority and the reading of a triangle by the parts that the code finds.
use Rattle.std.proofs.Common.{◌≡◌, ℕ, Bool, cond, IsTrue, refl, ◌∙◌, sym}
use Rattle.mesh_defs.specs.declared.mark.Mark.{Mark}
use Rattle.mesh_defs.specs.declared.point.Corners.{Corners}
use Rattle.mesh_defs.specs.Triangle.{corners_of}
use Rattle.mesh_defs.specs.Priority.{above, seen_ratio}
use Rattle.view_priority.specs.Bounds.{box_over}
use Rattle.page_laws.specs.declared.wedge.KnownWedge.{KnownWedge}
use Rattle.page_laws.specs.Loaded.{known_box, known_priority}
use Rattle.page_priority.specs.Loaded.{LoadedState, is_open, loaded_wedge, loaded_box, loaded_mark, loaded_distance}
use Rattle.page_priority.specs.Loaded.{loaded_priority}

-- the box over the corners, from the least to the greatest height
pub loaded_box-by_parts : (s : LoadedState) (a : ℕ) (corners : Corners) (wedge : KnownWedge) →
    corners ≡ corners_of s.pages.large a → wedge ≡ loaded_wedge s a →
    box_over s.view.spacing corners wedge.low wedge.high ≡ loaded_box s a
unfolding known_box
loaded_box-by_parts s a corners wedge corners_is wedge_is = rw (corners_is, wedge_is) refl

opened-is : (b : Bool) (p : ℕ) → IsTrue b → cond b p 0 ≡ p
opened-is b p is = rw is refl

-- what an open triangle's priority is at its distance
pub loaded_priority-by_parts : (s : LoadedState) (a p e d threshold : ℕ) (mark : Mark) → IsTrue (is_open s a) →
    p ≡ above threshold (seen_ratio mark e d) → threshold ≡ s.view.threshold →
    mark ≡ loaded_mark s s.view.planes a → e ≡ (loaded_wedge s a).thickness → d ≡ loaded_distance s a →
    p ≡ loaded_priority s a
unfolding known_priority
loaded_priority-by_parts s a p e d threshold mark is p_is threshold_is mark_is e_is d_is =
    p_is ∙ rw (threshold_is, mark_is, e_is, d_is) refl ∙ sym (opened-is (is_open s a) _ is)
