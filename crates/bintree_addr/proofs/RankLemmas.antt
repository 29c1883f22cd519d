-- What the comparison of ranks answers.
use Rattle.std.proofs.Common.{◌≡◌, ℕ, ◌<◌, ◌↔◌, true, true≢false, ⊎_elim, refl, sym, ap, inl, inr, arith, Ordering}
use Rattle.std.proofs.Common.{Less, Equal, Greater, nat_cmp}
use Rattle.std.specs.Ordering.{MatchOrdering, ordering_then, is_lt}
use Rattle.std.proofs.lemmas.Cmp.{ranked}
use Rattle.bintree_addr.specs.declared.rank.Rank.{Rank}
use Rattle.bintree_addr.specs.RankOrder.{rank_cmp, ComesFirst}

abbrev rank : ℕ → ℕ → Rank
rank p tri = record { p = p; tri = tri }

same_rank : (p q a b : ℕ) → p ≡ q → a ≡ b → rank p a ≡ rank q b
same_rank p q a b e f = rw (e, f) refl

by_parts : (o u : Ordering) (r s : Rank) → MatchOrdering o (s.p < r.p) (s.p ≡ r.p) (r.p < s.p) → MatchOrdering u
    (r.tri < s.tri) (r.tri ≡ s.tri) (s.tri < r.tri) →
    MatchOrdering (ordering_then o u) (ComesFirst r s) (r ≡ s) (ComesFirst s r)
by_parts Less u r s p t = inl p
by_parts Greater u r s p t = inl p
by_parts Equal Less r s p t = inr (sym p, t)
by_parts Equal Equal r s p t = same_rank r.p s.p r.tri s.tri (sym p) t
by_parts Equal Greater r s p t = inr (p, t)

-- less, equal or greater: the first comes first, the two are one, the second comes first
pub rank_cmp-cases : (r s : Rank) → MatchOrdering (rank_cmp r s) (ComesFirst r s) (r ≡ s) (ComesFirst s r)
rank_cmp-cases r s =
    by_parts (nat_cmp s.p r.p) (nat_cmp r.tri s.tri) r s (ranked s.p r.p (nat_cmp s.p r.p) refl)
    (ranked r.tri s.tri (nat_cmp r.tri s.tri) refl)

-- no rank comes before itself
ComesFirst-same : (r s : Rank) → r ≡ s → ¬ (ComesFirst r s)
ComesFirst-same r s e h = ⊎_elim (λ l. omega (arith, ap (λ z. z.p) e)) (λ l. omega (arith, ap (λ z. z.tri) e, l.1)) h

-- of two ranks, not both come first
ComesFirst-asym : (r s : Rank) → ComesFirst s r → ¬ (ComesFirst r s)
ComesFirst-asym r s h k =
    ⊎_elim (λ l. ⊎_elim (λ m. omega arith) (λ m. omega (arith, m.0)) k)
    (λ l. ⊎_elim (λ m. omega (arith, l.0)) (λ m. omega (arith, l.1, m.1)) k) h

-- the comparison answers less exactly where the first rank comes first
pub is_lt-rank_cmp : (r s : Rank) → (is_lt (rank_cmp r s) ≡ true) ↔ ComesFirst r s
is_lt-rank_cmp r s = by_answer (rank_cmp r s) (rank_cmp-cases r s)
  where
    by_answer : (o : Ordering) → MatchOrdering o (ComesFirst r s) (r ≡ s) (ComesFirst s r) →
        (is_lt o ≡ true) ↔ ComesFirst r s
    by_answer Less h = (λ e. h, λ k. refl)
    by_answer Equal h = (λ e. absurd (true≢false (sym e)), λ k. absurd (ComesFirst-same r s h k))
    by_answer Greater h = (λ e. absurd (true≢false (sym e)), λ k. absurd (ComesFirst-asym r s h k))
