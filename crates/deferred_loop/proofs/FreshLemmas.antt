-- How many roles a step gives out anew, as a leaf or as a triangle of a diamond that can be merged: three at most for
-- each triangle that is split or merged. A fresh entry is among these.
use Rattle.std.proofs.Common.{◌≡◌, ℕ, ◌+◌, ◌-◌, ◌*◌, ◌/◌, ◌%◌, ◌<◌, ◌≤◌, ◌⊎◌, inl, inr, false, not, IsTrue, List, []}
use Rattle.std.proofs.Common.{◌∷◌, length, Contains, refl, sym, subst, arith, ⊎_elim, nat_eq}
use Rattle.deferred_loop.specs.Seen.{IsNewEntry}
use Rattle.std.specs.List.{filter, IsDistinct}
use Rattle.std.proofs.lemmas.Bool.{cases_lt, not_from_false, false_from_ne_true}
use Rattle.mesh_defs.specs.Triangle.{IsAddress, IsMate}
use Rattle.mesh_defs.specs.ClosedSet.{leaves_of, among}
use Rattle.mesh_laws.proofs.DescentLemmas.{IsAddress-splittable}
use Rattle.mesh_defs.proofs.ListLemmas.{IsIn, IsIn-among, among-in}
use Rattle.mesh_defs.specs.GridSet.{IsGridSet, IsForced}
use Rattle.mesh_laws.specs.Deferred.{IsEntry, leaf as as_leaf, member as as_member}
use Rattle.mesh_laws.proofs.ForcingLemmas.{with-old}
use Rattle.mesh_laws.specs.Diamond.{IsInDiamond, CanMerge, IsWithoutDiamond}
use Rattle.mesh_laws.proofs.SetListLemmas.{in-filter, filter-in, length-parts, length-distinct}
use Rattle.bintree_laws.proofs.CentreLemmas.{mate_unique}
use Rattle.mesh_laws.proofs.DiamondLemmas.{mate_or_none, diamond_symmetric, diamond_closed}
use Rattle.mesh_laws.proofs.ChangeLemmas.{merge_new_leaf, merge_new_mergeable, split_new_leaf, split_diamonds}

-- members of one list that are not in another
others : List ℕ → List ℕ → List ℕ
others few many = filter (λ a. not (among few a)) many

others_in : (few many : List ℕ) (a : ℕ) → IsTrue (among many a) → among few a ≡ false → IsIn a (others few many)
unfolding others
others_in few many a there out =
    filter-in (λ b. not (among few b)) a many (IsIn-among a many there) (not_from_false (among few a) out)

-- a list that covers what each entry of another one makes anew
pub record Cover (R : ℕ → ℕ → Type 0) (xs : List ℕ) : Type 0 where
  pub list : List ℕ
  pub size : length list ≡ 3 * length xs
  pub covers : (x a : ℕ) → IsIn x xs → R x a → IsIn a list

-- The roles that a step gives out anew, so many for each of its triangles: a leaf after it was one before or is in the
-- list, and so is a triangle that can be merged.
pub record NewRoles (n : ℕ) (before after : List ℕ) (steps : ℕ) : Type 0 where
  pub list : List ℕ
  pub size : length list ≡ 3 * steps
  pub leaf : (a : ℕ) → Contains (leaves_of n (among after)) a →
      Contains (leaves_of n (among before)) a ⊎ IsTrue (among list a)
  pub member : (a : ℕ) → CanMerge n (among after) a → CanMerge n (among before) a ⊎ IsTrue (among list a)

-- three for each entry
pub cover : (R : ℕ → ℕ → Type 0) (xs : List ℕ) →
    ((x : ℕ) → IsIn x xs → (b : ℕ) × (c : ℕ) × ((a : ℕ) → R x a → (x ≡ a) ⊎ ((b ≡ a) ⊎ (c ≡ a)))) → Cover R xs
cover R [] three = record { list = []; size = omega arith; covers = λ x a i r. absurd i }
cover R (x ∷ xs) three =
    let rest = cover R xs (λ y i. three y (inr i)) in
    let own = three x (inl refl) in
    let size = rest.size in
    record {
      list = x ∷ own.0 ∷ own.1 ∷ rest.list;
      size = omega arith;
      covers = λ y a i r. ⊎_elim
          (λ (same : x ≡ y). ⊎_elim
          (λ (one : x ≡ a). inl one)
          (λ more. inr (⊎_elim (λ two. inl two) (λ last. inr (inl last)) more))
          (own.2 a (subst (λ z. R z a) (sym same) r)))
          (λ there. inr (inr (inr (rest.covers y a there r))))
          i;
    }

module _ (n : ℕ) (before : List ℕ) (set : IsGridSet n before) where
  -- a split triangle makes itself and its children anew
  abbrev SplitMakes : ℕ → ℕ → Type 0
  SplitMakes x a = (x ≡ a) ⊎ (x ≡ a / 2)

  split_cover : (xs : List ℕ) → Cover SplitMakes xs
  split_cover xs = cover SplitMakes xs (λ x i. (
    2 * x,
    2 * x + 1,
    λ a r. ⊎_elim
        (λ same. inl same)
        (λ (half : x ≡ a / 2). inr (⊎_elim
        (λ (even : a % 2 < 1). inl (omega arith))
        (λ (odd : 1 ≤ a % 2). inr (omega arith))
        (cases_lt (a % 2) 1)))
        r,
  ))

  -- the roles that a split gives out
  pub split_roles : (t : ℕ) (after : List ℕ) → IsForced n before t after →
      NewRoles n before after (length after - length before)
  unfolding others
  split_roles t after forced =
      let parts = length-parts before after set.ascending forced.ascending
      (λ a h. forced.least.holds a (with-old (among before) t a h)) in
      let c = split_cover (others before after) in
      let size = c.size in
      record {
        list = c.list;
        size = omega arith;
        leaf = λ a h. ⊎_elim
            (λ old. inl old)
            (λ (new : (4 ≤ a) × (among before (a / 2) ≡ false) × IsTrue (among after (a / 2))).
            inr (among-in a c.list (c.covers (a / 2) a (others_in before after (a / 2) new.2 new.1) (inr refl))))
            (split_new_leaf n before t after a set.closed forced h);
        member = λ a h. ⊎_elim
            (λ old. inl old)
            (λ (new : (among before a ≡ false) × IsInDiamond n a t).
            inr (among-in a c.list (c.covers a a (others_in before after a h.member new.0) (inl refl))))
            (split_diamonds n before t after a set.closed forced h);
      }

  -- a merged triangle makes itself and the diamond of its parent anew
  abbrev MergeMakes : ℕ → ℕ → Type 0
  MergeMakes x a = (x ≡ a) ⊎ ((4 ≤ x) × IsInDiamond n (x / 2) a)

  merge_cover : (xs : List ℕ) → ((x : ℕ) → IsIn x xs → IsTrue (among before x)) → Cover MergeMakes xs
  merge_cover xs members = cover MergeMakes xs (λ x i. ⊎_elim
      (λ (small : x < 4). (
        x,
        x,
        λ a r. ⊎_elim (λ same. inl same)
            (λ (up : (4 ≤ x) × IsInDiamond n (x / 2) a). absurd (let big = up.0 in omega arith)) r,
      ))
      (λ (big : 4 ≤ x). ⊎_elim
      (λ (found : (m : ℕ) × IsMate n (x / 2) m). (
        x / 2,
        found.0,
        λ a r. ⊎_elim
            (λ same. inl same)
            (λ (up : (4 ≤ x) × IsInDiamond n (x / 2) a). ⊎_elim
            (λ (own : a ≡ x / 2). inr (inl (sym own)))
            (λ (mate : IsMate n (x / 2) a).
            inr (inr (mate_one x (parent_address x (members x i) big) found.0 a found.1 mate)))
            up.1)
            r,
      ))
      (λ none. (
        x / 2,
        x / 2,
        λ a r. ⊎_elim
            (λ same. inl same)
            (λ (up : (4 ≤ x) × IsInDiamond n (x / 2) a).
            ⊎_elim (λ (own : a ≡ x / 2). inr (inl (sym own))) (λ mate. absurd (none a mate)) up.1)
            r,
      ))
      (mate_or_none n (x / 2) (parent_address x (members x i) big)))
      (cases_lt x 4))
    where
      parent_address : (x : ℕ) → IsTrue (among before x) → 4 ≤ x → IsAddress n (x / 2)
      parent_address x member big =
          IsAddress-splittable n (x / 2) (set.closed.splittable (x / 2) (set.closed.parent x member big))

      mate_one : (x : ℕ) → IsAddress n (x / 2) → (m a : ℕ) → IsMate n (x / 2) m → IsMate n (x / 2) a → m ≡ a
      mate_one x address m a one two = mate_unique n (x / 2) m a address one two

  -- the roles that a merge gives out
  pub merge_roles : (d : ℕ) (after : List ℕ) → CanMerge n (among before) d → IsWithoutDiamond n before d after →
      NewRoles n before after (length before - length after)
  unfolding others
  merge_roles d after can merged =
      let parts = length-parts after before merged.ascending set.ascending (λ a h. ((merged.members a).0 h).0) in
      let c = merge_cover (others after before)
      (λ x i. among-in x before (in-filter (λ b. not (among after b)) x before i).0) in
      let size = c.size in
      record {
        list = c.list;
        size = omega arith;
        leaf = λ a h. ⊎_elim
            (λ (own : IsInDiamond n d a). inr (among-in a c.list (c.covers a a (gone a own) (inl refl))))
            (λ (old : Contains (leaves_of n (among before)) a × (4 ≤ a → IsInDiamond n d (a / 2) → ⊥)). inl old.0)
            (merge_new_leaf n before d after a set.closed can merged h);
        member = λ a h. ⊎_elim
            (λ old. inl old)
            (λ (up : (c : ℕ) × IsInDiamond n d c × (4 ≤ c) × IsInDiamond n a (c / 2)).
            let address : IsAddress n a =
            IsAddress-splittable n a (set.closed.splittable a ((merged.members a).0 h.member).0) in
            inr (among-in a c.list (c.covers up.0 a (gone up.0 up.1) (inr (
              up.2,
              diamond_symmetric n a (up.0 / 2) address up.3,
            )))))
            (merge_new_mergeable n before d after a set.closed can merged h);
      }
    where
      -- the merged triangles are those that are taken away
      gone : (a : ℕ) → IsInDiamond n d a → IsIn a (others after before)
      gone a inside = others_in after before a (diamond_closed n (among before) d a set.closed can.member inside)
          (false_from_ne_true (among after a) (λ h. ((merged.members a).0 h).1 inside))

-- a fresh entry has a role that was given out
pub few_fresh : (n : ℕ) (before after : List ℕ) (steps : ℕ) (fresh : List ℕ) → NewRoles n before after steps →
    IsDistinct nat_eq fresh →
    ((a : ℕ) → IsTrue (among fresh a) → IsNewEntry n (among before) (among after) a) → length fresh ≤ 3 * steps
few_fresh n before after steps fresh roles distinct each =
    let size = roles.size in
    let most = length-distinct fresh roles.list distinct (λ a i. let new = each a i in given a new.0 new.1) in
    omega arith
  where
    given : (a : ℕ) → IsEntry n (among after) a → (IsEntry n (among before) a → ⊥) → IsTrue (among roles.list a)
    given a (as_leaf h) none = ⊎_elim (λ old. absurd (none (as_leaf old))) (λ there. there) (roles.leaf a h)
    given a (as_member h) none = ⊎_elim (λ old. absurd (none (as_member old))) (λ there. there) (roles.member a h)
