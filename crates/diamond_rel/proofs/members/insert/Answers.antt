-- The binary search finds the triangle, or gives the place for it.
use Rattle.std.proofs.Common.{◌≡◌, ◌∙◌, ℕ, List, Ok, Err, subst, sym, ap}
use Rattle.std.specs.List.Sorted.{IsBinarySearchResult}
use Rattle.std.specs.Ordering.{nat_cmp}
use Rattle.mesh_defs.specs.ClosedSet.{among}
use Rattle.mesh_defs.specs.GridSet.{IsAscending}
use Rattle.diamond_rel.proofs.SearchLemmas.{IsPlaceFor, IsPlaceFor-searched, ascending-insert, among-insert}
use Rattle.diamond_rel.proofs.SearchLemmas.{among-there, found-searched}
use Rattle.diamond_rel.proofs.members.insert.Goals as goal

pub returns-in-Ok-clause-ok : goal.returns-in-Ok-clause-ok
returns-in-Ok-clause-ok c a =
    among-there c.args.members.now.items c.args.t a
    (found-searched c.args.members.now.items c.args.t c.in-Ok.field-0 c.requires.ascending
    (subst (λ (l : List ℕ). IsBinarySearchResult (λ y. nat_cmp y c.args.t) l (Ok c.in-Ok.field-0)) c.deref.ensures.value
    c.in-Ok.ensures.position))

-- the place in the list that was searched
place_in : (xs ys : List ℕ) (t i : ℕ) → ys ≡ xs → IsAscending xs →
    IsBinarySearchResult (λ y. nat_cmp y t) ys (Err i) → IsPlaceFor xs t i
place_in xs ys t i e o r =
    IsPlaceFor-searched xs t i o (subst (λ (l : List ℕ). IsBinarySearchResult (λ y. nat_cmp y t) l (Err i)) e r)

pub returns-in_ok-insert-in-Err-clause-ascending : goal.returns-in_ok-insert-in-Err-clause-ascending
returns-in_ok-insert-in-Err-clause-ascending c =
    subst IsAscending (sym c.in_ok-insert-in-Err.ensures.items)
    (ascending-insert c.args.members.now.items c.args.t c.in-Err.place c.requires.ascending
    (place_in c.args.members.now.items c.deref.result.now c.args.t c.in-Err.place c.deref.ensures.value
    c.requires.ascending c.in-Err.ensures.position))

pub returns-in_ok-insert-in-Err-clause-ok : goal.returns-in_ok-insert-in-Err-clause-ok
returns-in_ok-insert-in-Err-clause-ok c a =
    ap (λ (l : List ℕ). among l a) c.in_ok-insert-in-Err.ensures.items
    ∙ among-insert c.args.members.now.items c.args.t c.in-Err.place a
