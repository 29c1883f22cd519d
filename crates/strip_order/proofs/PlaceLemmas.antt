-- A strip by the places of its triangles, as a loop goes over it.
use Rattle.std.proofs.Common.{◌≡◌, ◌≢◌, ℕ, zero, suc, ◌+◌, ◌*◌, ◌^◌, ◌<◌, ◌≤◌, inl, inr, Bool, eqb, List, [], ◌∷◌, ◌++◌}
use Rattle.std.proofs.Common.{length, get_or, Contains, refl, sym, subst, arith, count_by, length-append, eq-eqb}
use Rattle.std.proofs.Math.Nat.{pow-le-pow_right}
use Rattle.std.proofs.lemmas.List.Elements.{All-contains}
use Rattle.mesh_defs.specs.Triangle.{level_of, IsAddress}
use Rattle.mesh_defs.specs.ClosedSet.{IsClosed, leaves_under, leaves_of}
use Rattle.mesh_defs.proofs.ListLemmas.{IsIn, Contains-in, count-cons, count-yes, count-some, length-counts}
use Rattle.bintree_laws.proofs.LevelLemmas.{level-le}
use Rattle.mesh_laws.proofs.DescentLemmas.{IsAddress-leaves_of}
use Rattle.mesh_laws.proofs.LeafLemmas.{leaves-most}
use Rattle.mesh_laws.specs.Strip.{strip_of, SharesEdge, IsStripChain, one, more}
use Rattle.mesh_laws.proofs.StripOrderLemmas.{count-strip_of, leaf-strip_of, strip-once}
use Rattle.mesh_laws.proofs.StripLemmas.{IsRing-strip_of}
use Rattle.mesh_laws.proofs.ClosureLemmas.{leaves_under-some}

-- ---- lists by places

-- the entry at a place is an entry
IsIn-at : (xs : List ℕ) (i d : ℕ) → i < length xs → IsIn (get_or xs i d) xs
IsIn-at [] i d h = absurd (omega arith)
IsIn-at (x ∷ xs) zero d h = inl refl
IsIn-at (x ∷ xs) (suc i) d h = inr (IsIn-at xs i d (omega arith))

-- neighbours in a chain share an edge
SharesEdge-at : (n first last : ℕ) (xs : List ℕ) (i d : ℕ) → IsStripChain n first last xs → suc i < length xs →
    SharesEdge n (get_or xs i d) (get_or xs (suc i) d)
SharesEdge-at n first last xs i d (one a) h = absurd (omega arith)
SharesEdge-at n first last xs zero d (more a b z rest shares chain) h = first_of_rest n b z rest d a chain shares
  where
    first_of_rest : (n b z : ℕ) (rest : List ℕ) (d a : ℕ) → IsStripChain n b z rest → SharesEdge n a b →
        SharesEdge n a (get_or rest 0 d)
    first_of_rest n b z rest d a (one e) shares = shares
    first_of_rest n b z rest d a (more e f y others next chain) shares = shares
SharesEdge-at n first last xs (suc i) d (more a b z rest shares chain) h =
    SharesEdge-at n b z rest i d chain (omega arith)

-- each number at most once: entries at two places differ
places_differ : (xs : List ℕ) (i j d : ℕ) → ((a : ℕ) → count_by (λ t. eqb t a) xs ≤ 1) → i < j → j < length xs →
    get_or xs i d ≢ get_or xs j d
places_differ [] i j d once less h = λ e. absurd (omega arith)
places_differ (x ∷ xs) i zero d once less h = λ e. absurd (omega arith)
places_differ (x ∷ xs) zero (suc j) d once less h = λ e.
    let again : IsIn x xs = subst (λ z. IsIn z xs) (sym e) (IsIn-at xs j d (omega arith)) in
    let c = count-yes (λ t. eqb t x) x xs (eq-eqb x x refl) in
    let some = count-some (λ t. eqb t x) x xs again (eq-eqb x x refl) in
    let most = once x in omega arith
places_differ (x ∷ xs) (suc i) (suc j) d once less h =
    places_differ xs i j d (λ a. let c = count-cons (λ t. eqb t a) x xs in let most = once a in omega arith)
    (omega arith) (omega arith)

-- ---- how many leaves

few-leaves_of : (n : ℕ) (has : ℕ → Bool) → n ≤ 14 →
    (2 ≤ length (leaves_of n has)) × (length (leaves_of n has) ≤ 536870912)
unfolding leaves_of
few-leaves_of n has small =
    let x = leaves_under-some (2 * n) has 2 in
    let y = leaves_under-some (2 * n) has 3 in
    let le : 4 ^ n ≤ 4 ^ 14 = pow-le-pow_right (omega arith) small in
    let most : length (leaves_under (2 * n) has 2 ++ leaves_under (2 * n) has 3) ≤ 2 * 4 ^ n = leaves-most n has in
    let l = length-append (leaves_under (2 * n) has 2) (leaves_under (2 * n) has 3) in
    (omega arith, omega arith)

-- ---- a strip

-- what a loop over the strip of a closed set wants to know
pub record IsStrip (n : ℕ) (has : ℕ → Bool) (order : List ℕ) : Type 0 where
  pub closed : IsClosed n has
  pub two : 2 ≤ length order
  pub few : length order ≤ 536870912
  pub listed : (i d : ℕ) → i < length order → Contains (leaves_of n has) (get_or order i d)
  pub level : (i d : ℕ) → i < length order → level_of (get_or order i d) ≤ 2 * n
  pub shared : (i d : ℕ) → i + 1 < length order → SharesEdge n (get_or order i d) (get_or order (i + 1) d)
  pub differ : (i j d : ℕ) → i < j → j < length order → get_or order i d ≢ get_or order j d

-- the strip of a closed set has two entries or more, all leaves and all different, each sharing an edge with the next
pub IsStrip-strip_of : (n : ℕ) (has : ℕ → Bool) → n ≤ 14 → IsClosed n has → IsStrip n has (strip_of n has)
IsStrip-strip_of n has small closed =
    let ring = IsRing-strip_of n has closed in
    let few = few-leaves_of n has small in
    let same : length (leaves_of n has) ≡ length (strip_of n has) =
    length-counts (leaves_of n has) (strip_of n has) (λ a. count-strip_of n (λ t. eqb t a) has) in
    let in_leaves : (i d : ℕ) → i < length (strip_of n has) → Contains (leaves_of n has) (get_or (strip_of n has) i d) =
    λ i d h. Contains-in (get_or (strip_of n has) i d) (leaves_of n has)
    (leaf-strip_of n (get_or (strip_of n has) i d) has (IsIn-at (strip_of n has) i d h)) in
    record {
      closed = closed;
      two = omega arith;
      few = omega arith;
      listed = in_leaves;
      level = λ i d h. level-le n (get_or (strip_of n has) i d)
          (All-contains (IsAddress n) (leaves_of n has) (get_or (strip_of n has) i d)
          (IsAddress-leaves_of n has) (in_leaves i d h));
      shared = λ i d h. let e : i + 1 ≡ suc i = omega arith in
          subst (λ k. SharesEdge n (get_or (strip_of n has) i d) (get_or (strip_of n has) k d)) (sym e)
          (SharesEdge-at n ring.first ring.last (strip_of n has) i d ring.chain (omega arith));
      differ = λ i j d less h. places_differ (strip_of n has) i j d (strip-once n has) less h;
    }

-- the same of a list that is that strip
pub IsStrip-order : (n : ℕ) (has : ℕ → Bool) (order : List ℕ) → n ≤ 14 → IsClosed n has →
    order ≡ strip_of n has → IsStrip n has order
IsStrip-order n has order small closed is =
    subst (λ (xs : List ℕ). IsStrip n has xs) (sym is) (IsStrip-strip_of n has small closed)
