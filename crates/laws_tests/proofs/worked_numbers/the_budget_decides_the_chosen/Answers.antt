-- A longer prefix has the leaves of the example's next set.
use Rattle.std.proofs.Common.{◌≡◌, ◌<◌, ◌≤◌, ℕ, Bool, List, length, take, refl, ap, subst, inl, inr, lit≤, arith}
use Rattle.std.proofs.lemmas.Bool.Decides.{leb_tells}
use Rattle.laws_tests.specs.declared.worked_numbers.TheConstants.{RANKING}
use Rattle.mesh_defs.specs.ClosedSet.{among, leaves_of}
use Rattle.mesh_defs.specs.Ranking.{IsPrefixClosure}
use Rattle.laws_tests.proofs.RankingExamples.{least-leaves}
use Rattle.laws_tests.proofs.CornerExample.{with_8, with_17, least-with_4, least-with_8, least-with_17}
use Rattle.laws_tests.proofs.worked_numbers.the_budget_decides_the_chosen.Goals as goal

eight_leaves : (k : ℕ) (other : ℕ → Bool) → k ≡ 3 → IsPrefixClosure 2 RANKING k other → length (leaves_of 2 other) ≡ 8
unfolding leaves_of
eight_leaves k other e prefix =
    let closure : IsPrefixClosure 2 RANKING 3 other = subst (λ (i : ℕ). IsPrefixClosure 2 RANKING i other) e prefix in
    ap (λ (leaves : List ℕ). length leaves)
    (least-leaves 2 (among (take 3 RANKING)) other (among with_8) closure least-with_8)

nine_leaves : (k : ℕ) (other : ℕ → Bool) → k ≡ 4 → IsPrefixClosure 2 RANKING k other → length (leaves_of 2 other) ≡ 9
unfolding leaves_of
nine_leaves k other e prefix =
    let closure : IsPrefixClosure 2 RANKING 4 other = subst (λ (i : ℕ). IsPrefixClosure 2 RANKING i other) e prefix in
    ap (λ (leaves : List ℕ). length leaves)
    (least-leaves 2 (among (take 4 RANKING)) other (among with_17) closure least-with_17)

more_than_7 : (k : ℕ) (other : ℕ → Bool) → 2 < k → k ≤ 4 → IsPrefixClosure 2 RANKING k other →
    7 < length (leaves_of 2 other)
more_than_7 k other low high prefix = elim (leb_tells k 3) [
  | inl e ↦
      let third : k ≤ 3 = e.1 in
      let count : length (leaves_of 2 other) ≡ 8 = eight_leaves k other (omega arith) prefix in
      omega arith
  | inr e ↦
      let fourth : 3 < k = e.1 in
      let count : length (leaves_of 2 other) ≡ 9 = nine_leaves k other (omega arith) prefix in
      omega arith
]

pub returns : goal.returns
unfolding leaves_of
returns c = record {
  nine = record {
    prefix = lit≤ tt;
    closure = least-with_17;
    fits = lit≤ tt;
    longest = λ k other low high prefix. absurd (omega arith);
  };
  eight = record {
    prefix = lit≤ tt;
    closure = least-with_8;
    fits = lit≤ tt;
    longest = λ k other low high prefix.
        let count : length (leaves_of 2 other) ≡ 9 = nine_leaves k other (omega arith) prefix in omega arith;
  };
  seven = record {
    prefix = lit≤ tt;
    closure = least-with_4;
    fits = lit≤ tt;
    longest = λ k other low high prefix. more_than_7 k other low high prefix;
  };
  eight_blocked = record { next = refl; counted = (among with_17, least-with_17, refl) };
  seven_blocked = record { next = refl; counted = (among with_8, least-with_8, refl) };
}
