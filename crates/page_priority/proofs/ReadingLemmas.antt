-- What a reading tells of priorities from other places, and where two states have the same priorities.
use Rattle.std.proofs.Common.{◌≡◌, ◌↔◌, ℕ, ◌+◌, ◌-◌, ◌≤◌, Bool, true, false, cond, IsTrue, List, refl, sym}
use Rattle.std.proofs.Common.{◌∙◌, ap, subst, arith}
use Rattle.std.proofs.lemmas.Bool.{false≢true}
use Rattle.mesh_defs.specs.declared.mark.Mark.{Mark}
use Rattle.mesh_defs.specs.declared.mark.Mark.TheVariants.{Inside, Cut, Outside}
use Rattle.mesh_defs.specs.declared.point.Point.{Point}
use Rattle.mesh_defs.specs.BoundingBox.{BoundingBox, CameraAt, distance_of}
use Rattle.mesh_defs.specs.View.{View, ViewPlane}
use Rattle.mesh_defs.specs.Priority.{above, seen_ratio}
use Rattle.mesh_defs.specs.State.{move_length}
use Rattle.mesh_defs.specs.MeshText.{is_same_mark}
use Rattle.mesh_laws.specs.Stamps.{IsInStamp, stamp_now}
use Rattle.cull_marks.specs.Nesting.{IsOrdered}
use Rattle.view_priority.specs.Bounds.{box_priority_at, box_priority, viewed_from}
use Rattle.page_laws.specs.Pages.{is_known}
use Rattle.page_laws.specs.Loaded.{known_wedge, known_box, known_priority}
use Rattle.page_priority.specs.Loaded.{LoadedState, is_open, loaded_wedge, loaded_box, loaded_mark, loaded_distance}
use Rattle.page_priority.specs.Loaded.{loaded_priority, slack_at, loaded_readings, loaded_from}
use Rattle.page_priority.specs.Loaded.{loaded_within}

-- readings

cond-order : (b : Bool) (p q : ℕ) → (IsTrue b → p ≤ q) → cond b p 0 ≤ cond b q 0
cond-order true p q le = le refl
cond-order false p q le = omega arith

open-slack : (b : Bool) (i j : ℕ) → IsTrue b → cond b i j ≡ i
open-slack true i j is = refl
open-slack false i j is = absurd (false≢true is)

module _ (pace : ℕ) (s : LoadedState) (to : CameraAt) (a : ℕ)
    (above_lo : (view : View) (to : CameraAt) (box : BoundingBox) (thickness slack : ℕ) → IsOrdered box →
    move_length view.camera to ≤ slack → box_priority_at view box thickness (distance_of box view.camera + slack)
    ≤ box_priority (viewed_from to view) box thickness)
    (below_hi : (view : View) (to : CameraAt) (box : BoundingBox) (thickness slack : ℕ) → IsOrdered box →
    move_length view.camera to ≤ slack → box_priority (viewed_from to view) box thickness
    ≤ box_priority_at view box thickness (distance_of box view.camera - slack))
    (ordered : IsOrdered (loaded_box s a)) where
  -- within the slack of its reading the priority is between its bounds
  pub in-reading : (odometer : ℕ) → move_length s.view.camera to ≤ (loaded_readings pace s).slack a →
      IsInStamp (stamp_now (loaded_readings pace s) odometer a) (loaded_priority (loaded_from to s) a)
  unfolding known_priority
  in-reading odometer within =
      let slack = slack_at pace (loaded_distance s a) in
      let near : IsTrue (is_open s a) → move_length s.view.camera to ≤ slack =
      λ is. subst (λ k. move_length s.view.camera to ≤ k) (open-slack (is_open s a) slack _ is) within in
      record {
        below = cond-order (is_open s a) _ _
            (λ is. above_lo s.view to (loaded_box s a) (loaded_wedge s a).thickness slack ordered (near is));
        above = cond-order (is_open s a) _ _
            (λ is. below_hi s.view to (loaded_box s a) (loaded_wedge s a).thickness slack ordered (near is));
      }

-- the same priorities

cond-same : (b c : Bool) (p q : ℕ) → b ≡ c → (IsTrue c → p ≡ q) → cond b p 0 ≡ cond c q 0
cond-same true true p q same is = is refl
cond-same true false p q same is = absurd (false≢true (sym same))
cond-same false true p q same is = absurd (false≢true same)
cond-same false false p q same is = refl

-- a triangle that keeps its wedge keeps its priority
wedge-priority : (n m : ℕ) (height other : Point → ℕ) (known known_too : ℕ → Bool) (view : View) (a : ℕ) → n ≡ m →
    known_wedge n height known a ≡ known_wedge m other known_too a →
    known_priority n height known view a ≡ known_priority m other known_too view a
unfolding known_priority known_box
wedge-priority n m height other known known_too view a same wedge = rw (wedge, same) refl

pub same-priority : (s other : LoadedState) (to : CameraAt) (a : ℕ) → other.view ≡ s.view →
    other.pages.large ≡ s.pages.large → is_open other a ≡ is_open s a →
    (IsTrue (is_open s a) → loaded_wedge other a ≡ loaded_wedge s a) →
    loaded_priority (loaded_from to other) a ≡ loaded_priority (loaded_from to s) a
same-priority s other to a view large opened wedge =
    cond-same (is_open other a) (is_open s a) _ _ opened
    (λ is. ap (λ v. known_priority other.pages.large other.height (is_known other.pages) (viewed_from to v) a) view
    ∙ wedge-priority other.pages.large s.pages.large other.height s.height (is_known other.pages) (is_known s.pages)
    (viewed_from to s.view) a large (wedge is))

-- planes

seen : (m : Mark) → (Outside ≡ Outside → m ≡ Outside) → is_same_mark Outside m ≡ true
seen m is = ap (is_same_mark Outside) (is refl)

seen-same : (m k : Mark) (e d : ℕ) → ((m ≡ Outside) ↔ (k ≡ Outside)) → seen_ratio k e d ≡ seen_ratio m e d
seen-same Inside Inside e d both = refl
seen-same Inside Cut e d both = refl
seen-same Inside Outside e d both = absurd (false≢true (seen Inside both.1))
seen-same Cut Inside e d both = refl
seen-same Cut Cut e d both = refl
seen-same Cut Outside e d both = absurd (false≢true (seen Cut both.1))
seen-same Outside Inside e d both = absurd (false≢true (seen Inside both.0))
seen-same Outside Cut e d both = absurd (false≢true (seen Cut both.0))
seen-same Outside Outside e d both = refl

pub same-planes : (s : LoadedState) (planes : List ViewPlane) (to : CameraAt) (a : ℕ) →
    ((loaded_mark s s.view.planes a ≡ Outside) ↔ (loaded_mark s planes a ≡ Outside)) →
    loaded_priority (loaded_from to (loaded_within planes s)) a ≡ loaded_priority (loaded_from to s) a
unfolding known_priority
same-planes s planes to a both =
    let box = loaded_box s a in
    ap (λ k. cond (is_open s a) (above s.view.threshold k) 0)
    (seen-same (loaded_mark s s.view.planes a) (loaded_mark s planes a) (loaded_wedge s a).thickness
    (distance_of box to) both)
