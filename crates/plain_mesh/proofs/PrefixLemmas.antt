-- Prefixes of a list of triangles: one entry more, and where a budget stops.
use Rattle.std.proofs.Common.{◌≡◌, ℕ, zero, suc, ◌+◌, ◌<◌, ◌≤◌, Bool, List, [], ◌∷◌, length, take, get_or, Some}
use Rattle.std.proofs.Common.{slice_get, refl, sym, ◌∙◌, ap, subst, arith}
use Rattle.std.proofs.lemmas.List.{length-map}
use Rattle.std.proofs.lemmas.Option.{slice_get-get_or, slice_get_read, same_Some, none-some}
use Rattle.mesh_defs.specs.ClosedSet.{IsLeastClosed, leaves_of, among}
use Rattle.mesh_defs.specs.Ranking.{IsPrefixClosure, IsRankClosure, IsBlockedBy}
use Rattle.mesh_defs.specs.Greedy.{with_triangle}
use Rattle.mesh_laws.proofs.ClosureLemmas.{nothing_least, IsSubset-closures, leaves_of-more}
use Rattle.mesh_laws.proofs.RankLemmas.{prefix-next, prefix-longer}
use Rattle.bintree_addr.specs.declared.blocked.Blocked.{Blocked}
use Rattle.bintree_addr.specs.declared.rank.Rank.{Rank}
use Rattle.mesh_defs.specs.GridSet.{IsForced}
use Rattle.plain_mesh.specs.Ranks.{ranked_triangles}
use Rattle.plain_mesh.specs.Stop.{IsOver, IsStop}

-- closures of prefixes

-- the empty list is the closure of the empty prefix
pub closure-nothing : (n : ℕ) (xs members : List ℕ) → members ≡ [] → IsPrefixClosure n xs 0 (among members)
closure-nothing n xs members e =
    subst (λ (l : List ℕ). IsPrefixClosure n xs 0 (among l)) (sym e) (nothing_least n (among (take 0 xs)) (λ a. refl))

-- one entry more
pub closure-more : (n : ℕ) (xs : List ℕ) (i t : ℕ) (has next : ℕ → Bool) → i < length xs → t ≡ get_or xs i 0 →
    IsPrefixClosure n xs i has →
    IsLeastClosed n (with_triangle has t) next → IsPrefixClosure n xs (i + 1) next
closure-more n xs i t has next within e p q =
    prefix-next n xs has next i within p (subst (λ z. IsLeastClosed n (with_triangle has z) next) e q)

-- where a budget stops

-- the next entry does not fit
IsRankClosure-over : (n budget : ℕ) (xs : List ℕ) (i t need : ℕ) (before : List ℕ) → i < length xs → t ≡ get_or xs i 0 →
    IsPrefixClosure n xs i (among before) → length (leaves_of n (among before)) ≤ budget →
    IsOver n budget before t need →
    IsRankClosure n budget xs i (among before)
IsRankClosure-over n budget xs i t need before within e p fits o = record {
  prefix = omega arith;
  closure = p;
  fits = fits;
  longest = λ k other more k_within closure.
      let next = closure-more n xs i t (among before) (among o.after) within e p o.forced.least in
      let sub = IsSubset-closures n (among (take (i + 1) xs)) (among (take k xs)) (among o.after) other
      (prefix-longer xs (i + 1) k (omega arith)) next closure in
      let count = leaves_of-more n (among o.after) other sub in
      let counted = o.counted in let over = o.over in omega arith;
}

-- so it blocks
IsBlockedBy-over : (n budget : ℕ) (xs : List ℕ) (i t need : ℕ) (before : List ℕ) → i < length xs → t ≡ get_or xs i 0 →
    IsPrefixClosure n xs i (among before) → IsOver n budget before t need → IsBlockedBy n xs i t need
IsBlockedBy-over n budget xs i t need before within e p o = record {
  next = slice_get-get_or xs i 0 within ∙ ap (λ z. Some z) (sym e);
  counted = (among o.after, closure-more n xs i t (among before) (among o.after) within e p o.forced.least, o.counted);
}

-- along a list of ranks

-- the triangle at a place
tri-at : (ranks : List Rank) (i : ℕ) (d : Rank) → i < length ranks →
    (get_or ranks i d).tri ≡ get_or (ranked_triangles ranks) i 0
tri-at [] i d h = absurd (omega arith)
tri-at (x ∷ ranks) zero d h = refl
tri-at (x ∷ ranks) (suc i) d h = tri-at ranks i d (omega arith)

-- of what is read there
tri-read : (ranks : List Rank) (i : ℕ) (r : Rank) → i < length ranks → r ≡ get_or ranks i r →
    r.tri ≡ get_or (ranked_triangles ranks) i 0
tri-read ranks i r h e = ap (λ (z : Rank). z.tri) e ∙ tri-at ranks i r h

-- so many triangles as ranks
length-triangles : (ranks : List Rank) → length (ranked_triangles ranks) ≡ length ranks
length-triangles ranks = length-map ranks (λ (z : Rank). z.tri)

-- a forced split takes the closure to that of one entry more
pub closure-forced : (n m : ℕ) (ranks : List Rank) (i : ℕ) (r : Rank) (before after : List ℕ) → m ≡ n →
    i < length ranks → r ≡ get_or ranks i r →
    IsPrefixClosure n (ranked_triangles ranks) i (among before) → IsForced m before r.tri after →
    IsPrefixClosure n (ranked_triangles ranks) (i + 1) (among after)
closure-forced n m ranks i r before after grid h e p f =
    let length_same = length-triangles ranks in
    closure-more n (ranked_triangles ranks) i r.tri (among before) (among after) (omega arith)
    (tri-read ranks i r h e) p
    (subst (λ k. IsLeastClosed k (with_triangle (among before) r.tri) (among after)) grid f.least)

-- what blocks with this need
abbrev blocking : Rank → ℕ → Blocked
blocking r need = record { tri = r.tri; need = need }

-- an entry that does not fit is where it stops
pub IsStop-over : (n m budget : ℕ) (ranks : List Rank) (i : ℕ) (r : Rank) (need : ℕ) (before : List ℕ) → m ≡ n →
    i < length ranks → r ≡ get_or ranks i r →
    IsPrefixClosure n (ranked_triangles ranks) i (among before) → length (leaves_of n (among before)) ≤ budget →
    IsOver m budget before r.tri need →
    IsStop n budget ranks before r.p (Some record { tri = r.tri; need = need })
IsStop-over n m budget ranks i r need before grid h e p fits o = record {
  chosen = i;
  closure = IsRankClosure-over n budget (ranked_triangles ranks) i r.tri need before within place p fits over;
  whole = λ none. absurd (none-some (blocking r need) (sym none));
  next = λ b some. subst
      (λ (z : Blocked). (x : Rank) × (slice_get ranks i ≡ Some x) × (x.tri ≡ z.tri) × (x.p ≡ r.p)
      × IsBlockedBy n (ranked_triangles ranks) i z.tri z.need)
      (same_Some (blocking r need) b some) (
        r,
        slice_get_read ranks (length ranks) i r refl h e,
        refl,
        refl,
        IsBlockedBy-over n budget (ranked_triangles ranks) i r.tri need before within place p over,
      );
}
  where
    within : i < length (ranked_triangles ranks)
    within = let length_same = length-triangles ranks in omega arith

    place : r.tri ≡ get_or (ranked_triangles ranks) i 0
    place = tri-read ranks i r h e

    over : IsOver n budget before r.tri need
    over = subst (λ k. IsOver k budget before r.tri need) grid o
