-- What steps add to the log of a frame.
use Rattle.std.proofs.Common.{◌≡◌, ℕ, ◌+◌, ◌≤◌, inl, inr, IfSome, IsSome, List, [], length, Option, None, Some, refl}
use Rattle.std.proofs.Common.{sym, ◌∙◌, ap, subst, arith, ⊎_elim}
use Rattle.mesh_defs.specs.ClosedSet.{among}
use Rattle.deferred_loop.specs.Seen.{PoolSet, IsCountedBy}
use Rattle.deferred_loop.specs.Log.{Log, IsListed, emptied, IsLogged, IsFrameLog}

-- where the set and the log stay, what steps added before is what they added
pub logged_on : (start now after : PoolSet) (old new end : Log) → IsLogged start now old new → after ≡ now → end ≡ new →
    IsLogged start after old end
logged_on start now after old new end is set log =
    subst (λ z. IsLogged start z old end) (sym set) (subst (λ z. IsLogged start now old z) (sym log) is)

-- steps after steps
pub logged_then : (a b c : PoolSet) (x y z : Log) → IsLogged a b x y → IsLogged b c y z → IsLogged a c x z
logged_then a b c x y z one two = record {
  kept = λ t h. two.kept t (one.kept t h);
  listed = λ t. ⊎_elim
      (λ (same : among c.members t ≡ among b.members t). ⊎_elim
      (λ (was : among b.members t ≡ among a.members t). inl (same ∙ was))
      (λ (there : IsListed y.changed t). inr (two.kept t there))
      (one.listed t))
      (λ (there : IsListed z.changed t). inr there)
      (two.listed t);
  room = two.room ∙ one.room;
  rises = omega (arith, one.rises, two.rises);
  few = λ list is.
      let mid = two.few list is in
      let first = one.few mid.0 mid.1 in
      let less = mid.2 in let more = first.2 in
      (first.0, first.1, omega arith);
  fits = λ first is room.
      let later = two.rises in
      let mid = one.fits first is (omega arith) in
      let back = one.few mid.0 mid.1 in
      let same : Some back.0 ≡ Some first = sym back.1 ∙ is in
      let long : length back.0 ≡ length first = length_some back.0 first same in
      let few = back.2 in
      let rooms = one.room in
      two.fits mid.0 mid.1 (omega arith);
}
  where
    length_some : (xs ys : List ℕ) → Some xs ≡ Some ys → length xs ≡ length ys
    length_some xs ys same = let lists : xs ≡ ys = cc in ap length lists

-- a fact of the list where it is not lost
if_listed : (list : Option (List ℕ)) (P : List ℕ → Type 0) → ((xs : List ℕ) → list ≡ Some xs → P xs) → IfSome list P
if_listed None P each = tt
if_listed (Some xs) P each = each xs refl

is_listed : (list : Option (List ℕ)) (xs : List ℕ) → list ≡ Some xs → IsSome list
is_listed list xs is = subst (λ z. IsSome z) (sym is) refl

nothing : (xs : List ℕ) → Some [] ≡ Some xs → length xs ≡ 0
nothing xs same = let lists : [] ≡ xs = cc in ap length (sym lists)

-- what all steps of a frame added to an empty log
pub frame_log : (start now : PoolSet) (old new : Log) (splits merges : ℕ) → IsLogged start now (emptied old) new →
    IsCountedBy start now splits merges →
    IsFrameLog start.members now.members (splits + merges) old new
frame_log start now old new splits merges is counted =
    let more = counted.splits_rose in let less = counted.merges_rose in
    record {
      listed = is.listed;
      few = if_listed new.changed (λ list. length list ≤ splits + merges) (λ list there.
          let first = is.few list there in
          let none = nothing first.0 first.1 in
          let few = first.2 in omega arith);
      lost = λ room.
          let there = is.fits [] refl (omega arith) in
          is_listed new.changed there.0 there.1;
      room = is.room;
    }
