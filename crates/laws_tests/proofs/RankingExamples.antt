-- What shows that a short list is a ranking, and that two least closed sets have the same leaves.
use Rattle.std.proofs.Common.{◌≡◌, ℕ, zero, suc, ◌+◌, ◌-◌, ◌*◌, ◌/◌, ◌^◌, ◌<◌, ◌≤◌, inl, inr, Bool, true, false, ◌&&◌}
use Rattle.std.proofs.Common.{◌||◌, not, List, [], ◌∷◌, ◌++◌, refl, ◌∙◌, ap, subst, arith}
use Rattle.std.specs.Prelude.{All, AllPairs, Contains, nat_le, nat_lt}
use Rattle.std.proofs.lemmas.Bool.{and_from, le-leb, lt-ltb}
use Rattle.std.proofs.lemmas.List.Elements.{All-cons}
use Rattle.std.proofs.lemmas.List.Kept.{AllPairs-cons}
use Rattle.std.proofs.lemmas.Nat.{pow_pos}
use Rattle.std.proofs.Math.Nat.{pow-succ'}
use Rattle.std.proofs.lemmas.Bool.Decides.{leb_tells}
use Rattle.mesh_defs.specs.Triangle.{halvings, level_of, IsSplittable}
use Rattle.mesh_defs.specs.ClosedSet.{IsLeastClosed, leaves_under, leaves_of, among}
use Rattle.mesh_defs.specs.Ranking.{RanksBefore, IsRanking}
use Rattle.mesh_defs.proofs.TestLemmas.{same_tests}
use Rattle.laws_tests.proofs.ClosedLists.{Each, each-among, all_below, all_below-at, implied}

-- an entry of a list whose entries all have P has P
pub each-contains : (P : ℕ → Type 0) (xs : List ℕ) → Each P xs → (a : ℕ) → Contains xs a → P a
each-contains P [] each a (k, lt, e) = absurd (omega arith)
each-contains P (x ∷ xs) each a (zero, lt, e) = subst P e (each.0)
each-contains P (x ∷ xs) each a (suc k, lt, e) = each-contains P xs (each.1) a (k, omega arith, e)

-- a member's two lists of leaves one after the other, or the address alone
abbrev pub node : Bool → List ℕ → List ℕ → ℕ → List ℕ
node has left right a = elim has as (λ _. List ℕ) [ true ↦ left ++ right | false ↦ a ∷ [] ]

-- two tests that agree have the same leaves
leaves_under-same : (k : ℕ) (f g : ℕ → Bool) → ((i : ℕ) → f i ≡ g i) → (a : ℕ) → leaves_under k f a ≡ leaves_under k g a
leaves_under-same zero f g h a = refl
leaves_under-same (suc k) f g h a =
    ap (λ (has : Bool). node has (leaves_under k f (2 * a)) (leaves_under k f (2 * a + 1)) a) (h a)
    ∙ (ap (λ (left : List ℕ). node (g a) left (leaves_under k f (2 * a + 1)) a) (leaves_under-same k f g h (2 * a))
    ∙ ap (λ (right : List ℕ). node (g a) (leaves_under k g (2 * a)) right a) (leaves_under-same k f g h (2 * a + 1)))

-- the leaves of a least closed set are those of any other one of the same triangles
pub least-leaves : (n : ℕ) (wanted f g : ℕ → Bool) → IsLeastClosed n wanted f → IsLeastClosed n wanted g →
    leaves_of n f ≡ leaves_of n g
unfolding leaves_of
least-leaves n wanted f g hf hg =
    let same : (i : ℕ) → f i ≡ g i =
    λ i. same_tests (f i) (g i) (hf.least g hg.closed hg.holds i) (hg.least f hf.closed hf.holds i) in
    rw (leaves_under-same (2 * n) f g same 2, leaves_under-same (2 * n) f g same 3) refl

-- none or one more, by a test
abbrev pub halved : Bool → ℕ → ℕ
halved low rest = elim low as (λ _. ℕ) [ true ↦ 0 | false ↦ suc rest ]

-- a number that is halved at most k times until it is below 4 is below 4 times 2 ^ k
halvings-bound : (steps k a : ℕ) → a ≤ steps → halvings steps a ≤ k → a < 4 * 2 ^ k
halvings-bound zero k a fuel h = let positive : 0 < 2 ^ k = pow_pos k in omega arith
halvings-bound (suc steps) zero a fuel h = elim (leb_tells (suc a) 4) [
  | inl e ↦ let low : suc a ≤ 4 = e.1 in omega arith
  | inr e ↦
      let more : suc (halvings steps (a / 2)) ≤ zero =
      subst (λ (low : Bool). halved low (halvings steps (a / 2)) ≤ zero) (e.0) h in
      absurd (omega arith)
]
halvings-bound (suc steps) (suc k) a fuel h = elim (leb_tells (suc a) 4) [
  | inl e ↦ let low : suc a ≤ 4 = e.1 in let positive : 0 < 2 ^ suc k = pow_pos (suc k) in omega arith
  | inr e ↦
      let more : suc (halvings steps (a / 2)) ≤ suc k =
      subst (λ (low : Bool). halved low (halvings steps (a / 2)) ≤ suc k) (e.0) h in
      let half : a / 2 < 4 * 2 ^ k = halvings-bound steps k (a / 2) (omega arith) (omega arith) in
      let twice : 2 ^ suc k ≡ 2 * 2 ^ k = pow-succ' 2 k in
      omega arith
]

-- a splittable address is below 4 times 2 ^ (2 n - 1)
pub splittable-bound : (n a : ℕ) → 1 ≤ n → IsSplittable n a → a < 4 * 2 ^ (2 * n - 1)
unfolding level_of
splittable-bound n a low s =
    let coarse : halvings a a < 2 * n = s.coarse in
    halvings-bound a (2 * n - 1) a (omega arith) (omega arith)

-- Rankings

all-from-each : (P : ℕ → Type 0) (xs : List ℕ) → Each P xs → All P xs
all-from-each P [] each = λ k d lt. absurd (omega arith)
all-from-each P (x ∷ xs) each = All-cons P x xs (each.0) (all-from-each P xs (each.1))

-- R holds of each entry and each later one
abbrev pub EachPair : (ℕ → ℕ → Type 0) → List ℕ → Type 0
EachPair R [] = Unit {0}
EachPair R (x ∷ xs) = Each (R x) xs × EachPair R xs

pairs-from-each : (R : ℕ → ℕ → Type 0) (xs : List ℕ) → EachPair R xs → AllPairs R xs
pairs-from-each R [] each = λ i j d lt within. absurd (omega arith)
pairs-from-each R (x ∷ xs) each =
    AllPairs-cons R x xs (all-from-each (R x) xs (each.0)) (pairs-from-each R xs (each.1))

-- an address of positive priority is in the ranking
abbrev pub is_ranked : (ℕ → ℕ) → List ℕ → ℕ → Bool
is_ranked priority ranking a = not (nat_le 2 a && nat_lt 0 (priority a)) || among ranking a

-- a list in rank order of splittable addresses of positive priority, in which no other such address is missing
pub ranking-list : (n : ℕ) (priority : ℕ → ℕ) (ranking : List ℕ) → 1 ≤ n → EachPair (RanksBefore priority) ranking →
    Each (λ a. IsSplittable n a × (0 < priority a)) ranking → Each (Contains ranking) ranking →
    all_below (is_ranked priority ranking) (4 * 2 ^ (2 * n - 1)) ≡ true → IsRanking n priority ranking
ranking-list n priority ranking low pairs entries there all = record {
  ordered = pairs-from-each (RanksBefore priority) ranking pairs;
  members = λ a. (
    λ h. each-contains (λ i. IsSplittable n i × (0 < priority i)) ranking entries a h,
    λ h. let within : a < 4 * 2 ^ (2 * n - 1) = splittable-bound n a low (h.0) in
        each-among (Contains ranking) ranking there a
        (implied _ _ (all_below-at (is_ranked priority ranking) (4 * 2 ^ (2 * n - 1)) a all within)
        (and_from _ _ (le-leb 2 a (h.0.low)) (lt-ltb 0 (priority a) (h.1)))),
  );
}
