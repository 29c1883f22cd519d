-- Two steps, 2 and 4, and then 8, the only leaf of positive priority, which forces too much.
use Rattle.std.proofs.Common.{◌≡◌, ◌≢◌, ◌<◌, ◌||◌, ℕ, Bool, true, false, List, [], ◌∷◌, length, refl, ap, subst, lit≤}
use Rattle.std.proofs.Common.{lit<, arith}
use Rattle.std.specs.Prelude.{Contains, pos, nat_eq}
use Rattle.std.proofs.lemmas.Bool.{eqb-true}
use Rattle.laws_tests.specs.declared.worked_numbers.TheConstants.{CORNER}
use Rattle.mesh_defs.specs.Triangle.{level_of, corners_of}
use Rattle.mesh_defs.specs.ClosedSet.{IsLeastClosed, leaves_of, among}
use Rattle.mesh_defs.specs.Thickness.{thickness_of}
use Rattle.mesh_defs.specs.BoundingBox.{points_of, low_of, high_of, box_of, root_of, distance_of}
use Rattle.mesh_defs.specs.View.{mark_of}
use Rattle.mesh_defs.specs.Priority.{priority_of}
use Rattle.mesh_defs.specs.Ranking.{RanksBefore}
use Rattle.mesh_defs.specs.Greedy.{IsFirstLeaf, IsGreedyStep, with_triangle}
use Rattle.laws_tests.proofs.ClosedLists.{Each, each-among, closed-list}
use Rattle.laws_tests.proofs.RankingExamples.{each-contains, least-leaves}
use Rattle.laws_tests.proofs.CornerExample.{mate_2_3, with_4, with_8, least-with_8}
use Rattle.laws_tests.proofs.worked_numbers.greedy_refinement_stops_before_the_jump.Goals as goal

-- the priorities of the example
abbrev corner : ℕ → ℕ
corner a =
    priority_of 2 CORNER (record { camera = record { x = pos 0; y = pos 0; z = pos 0 }; spacing = 1; planes = []; threshold = 0 }) a

-- of a leaf that is not f: if it has positive priority, f ranks before it
abbrev Follows : ℕ → ℕ → Type 0
Follows f a = 0 < corner a → a ≢ f → RanksBefore corner f a

first_2 : IsFirstLeaf 2 corner (λ a. false) 2
unfolding level_of corners_of leaves_of thickness_of points_of low_of high_of box_of root_of
    distance_of mark_of priority_of
first_2 = record {
  leaf = (0, lit< tt, refl);
  positive = lit< tt;
  first = λ a there. each-contains (Follows 2) (2 ∷ 3 ∷ [])
      ((λ some ne. absurd (ne refl)), ((λ some ne. absurd (omega arith)), tt)) a there;
}

first_4 : IsFirstLeaf 2 corner (among (2 ∷ 3 ∷ [])) 4
unfolding level_of corners_of leaves_of thickness_of points_of low_of high_of box_of root_of
    distance_of mark_of priority_of
first_4 = record {
  leaf = (0, lit< tt, refl);
  positive = lit< tt;
  first = λ a there. each-contains (Follows 4) (4 ∷ 5 ∷ 6 ∷ 7 ∷ []) (
    (λ some ne. absurd (ne refl)),
    ((λ some ne. absurd (omega arith)), ((λ some ne. absurd (omega arith)), ((λ some ne. absurd (omega arith)), tt))),
  ) a there;
}

-- a member of a list and one more triangle has what each of them has
with_one : (P : ℕ → Type 0) (xs : List ℕ) (f : ℕ) → Each P xs → P f → (a : ℕ) → (q : Bool) → among xs a ≡ q →
    (q || nat_eq f a) ≡ true → P a
with_one P xs f each here a true e h = each-among P xs each a e
with_one P xs f each here a false e h = subst P (eqb-true f a h) here

least_2 : IsLeastClosed 2 (with_triangle (λ a. false) 2) (among (2 ∷ 3 ∷ []))
unfolding level_of corners_of
least_2 = record {
  closed = closed-list 2 (2 ∷ 3 ∷ []) (refl, (refl, tt));
  holds = λ a h. subst (λ (i : ℕ). among (2 ∷ 3 ∷ []) i ≡ true) (eqb-true 2 a h) refl;
  least = λ other closed wanted a h.
      let has_2 : other 2 ≡ true = wanted 2 refl in
      each-among (λ i. other i ≡ true) (2 ∷ 3 ∷ []) (has_2, (closed.mate 2 3 has_2 mate_2_3, tt)) a h;
}

least_4 : IsLeastClosed 2 (with_triangle (among (2 ∷ 3 ∷ [])) 4) (among with_4)
unfolding level_of corners_of
least_4 = record {
  closed = closed-list 2 with_4 (refl, (refl, (refl, tt)));
  holds = λ a h. with_one (λ i. among with_4 i ≡ true) (2 ∷ 3 ∷ []) 4 (refl, (refl, tt)) refl a
      (among (2 ∷ 3 ∷ []) a) refl h;
  least = λ other closed wanted a h.
      each-among (λ i. other i ≡ true) with_4 (wanted 2 refl, (wanted 3 refl, (wanted 4 refl, tt))) a h;
}

least_8 : IsLeastClosed 2 (with_triangle (among with_4) 8) (among with_8)
least_8 = record {
  closed = least-with_8.closed;
  holds =
      λ a h. with_one (λ i. among with_8 i ≡ true) with_4 8 (refl, (refl, (refl, tt))) refl a (among with_4 a) refl h;
  least = λ other closed wanted a h. least-with_8.least other closed
      (λ i there. each-among (λ j. other j ≡ true) (2 ∷ 4 ∷ 8 ∷ []) (
        wanted 2 refl,
        (wanted 4 refl, (wanted 8 refl, tt)),
      ) i there) a h;
}

only_8 : (f : ℕ) → Contains (leaves_of 2 (among with_4)) f → 0 < corner f → f ≡ 8
unfolding level_of corners_of leaves_of thickness_of points_of low_of high_of box_of root_of
    distance_of mark_of priority_of
only_8 f there = each-contains (λ a. 0 < corner a → a ≡ 8) (8 ∷ 9 ∷ 5 ∷ 6 ∷ 7 ∷ []) (
  (λ some. refl),
  (
    (λ some. absurd (omega arith)),
    ((λ some. absurd (omega arith)), ((λ some. absurd (omega arith)), ((λ some. absurd (omega arith)), tt))),
  ),
) f there

too_many : (next : ℕ → Bool) → IsGreedyStep 2 corner (among with_4) next → 7 < length (leaves_of 2 next)
unfolding leaves_of
too_many next step =
    let e : step.split.0 ≡ 8 = only_8 (step.split.0) (step.split.1.leaf) (step.split.1.positive) in
    let closed : IsLeastClosed 2 (with_triangle (among with_4) 8) next =
    subst (λ (f : ℕ). IsLeastClosed 2 (with_triangle (among with_4) f) next) e (step.split.2) in
    let count : length (leaves_of 2 next) ≡ 8 =
    ap (λ (leaves : List ℕ). length leaves)
    (least-leaves 2 (with_triangle (among with_4) 8) next (among with_8) closed least_8) in
    omega arith

pub returns : goal.returns
unfolding leaves_of
returns c = record {
  seven = record {
    reached = (
      2,
      (
        among (2 ∷ 3 ∷ []),
        ((λ a. false), (λ a. refl), record { split = (2, first_2, least_2) }, lit≤ tt),
        record { split = (4, first_4, least_4) },
        lit≤ tt,
      ),
    );
    stops = too_many;
  };
}
