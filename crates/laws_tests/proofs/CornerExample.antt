-- Which splits force which on five points a side, for the examples of closed sets and budgets.
use Rattle.std.proofs.Common.{◌≡◌, ℕ, Bool, true, List, [], ◌∷◌, refl, inr, lit≤, lit<, arith}
use Rattle.mesh_defs.specs.Triangle.{level_of, corners_of, IsMate}
use Rattle.mesh_defs.specs.ClosedSet.{IsClosed, IsLeastClosed, among}
use Rattle.laws_tests.proofs.ClosedLists.{Each, each-among, closed-list}

pub mate_2_3 : IsMate 2 2 3
unfolding level_of corners_of
mate_2_3 = record {
  address = record { low = lit≤ tt; high = lit< tt };
  other = λ e. omega arith;
  level = refl;
  base = inr (refl, refl);
}

pub mate_8_11 : IsMate 2 8 11
unfolding level_of corners_of
mate_8_11 = record {
  address = record { low = lit≤ tt; high = lit< tt };
  other = λ e. omega arith;
  level = refl;
  base = inr (refl, refl);
}

-- the least closed sets with 4, with 8 and with 17
abbrev pub with_4 : List ℕ
with_4 = 2 ∷ 3 ∷ 4 ∷ []

abbrev pub with_8 : List ℕ
with_8 = 2 ∷ 3 ∷ 4 ∷ 5 ∷ 8 ∷ 11 ∷ []

abbrev pub with_17 : List ℕ
with_17 = 2 ∷ 3 ∷ 4 ∷ 5 ∷ 8 ∷ 11 ∷ 17 ∷ []

three_with_4 : (other : ℕ → Bool) → IsClosed 2 other → other 4 ≡ true → Each (λ a. other a ≡ true) with_4
three_with_4 other closed has_4 =
    let has_2 : other 2 ≡ true = closed.parent 4 has_4 (lit≤ tt) in
    (has_2, (closed.mate 2 3 has_2 mate_2_3, (has_4, tt)))

six_with_8 : (other : ℕ → Bool) → IsClosed 2 other → other 8 ≡ true → Each (λ a. other a ≡ true) with_8
six_with_8 other closed has_8 =
    let has_4 : other 4 ≡ true = closed.parent 8 has_8 (lit≤ tt) in
    let three : Each (λ a. other a ≡ true) with_4 = three_with_4 other closed has_4 in
    let has_11 : other 11 ≡ true = closed.mate 8 11 has_8 mate_8_11 in
    let has_5 : other 5 ≡ true = closed.parent 11 has_11 (lit≤ tt) in
    (three.0, (three.1.0, (has_4, (has_5, (has_8, (has_11, tt))))))

seven_with_17 : (other : ℕ → Bool) → IsClosed 2 other → other 17 ≡ true → Each (λ a. other a ≡ true) with_17
seven_with_17 other closed has_17 =
    let has_8 : other 8 ≡ true = closed.parent 17 has_17 (lit≤ tt) in
    let six : Each (λ a. other a ≡ true) with_8 = six_with_8 other closed has_8 in
    (six.0, (six.1.0, (six.1.1.0, (six.1.1.1.0, (has_8, (six.1.1.1.1.1.0, (has_17, tt)))))))

pub least-with_4 : IsLeastClosed 2 (among (2 ∷ 4 ∷ [])) (among with_4)
unfolding level_of corners_of
least-with_4 = record {
  closed = closed-list 2 with_4 (refl, (refl, (refl, tt)));
  holds = λ a h. each-among (λ i. among with_4 i ≡ true) (2 ∷ 4 ∷ []) (refl, (refl, tt)) a h;
  least = λ other closed wanted a h.
      each-among (λ i. other i ≡ true) with_4 (three_with_4 other closed (wanted 4 refl)) a h;
}

pub least-with_8 : IsLeastClosed 2 (among (2 ∷ 4 ∷ 8 ∷ [])) (among with_8)
unfolding level_of corners_of
least-with_8 = record {
  closed = closed-list 2 with_8 (refl, (refl, (refl, (refl, (refl, (refl, tt))))));
  holds = λ a h. each-among (λ i. among with_8 i ≡ true) (2 ∷ 4 ∷ 8 ∷ []) (refl, (refl, (refl, tt))) a h;
  least = λ other closed wanted a h.
      each-among (λ i. other i ≡ true) with_8 (six_with_8 other closed (wanted 8 refl)) a h;
}

-- 8 alone forces the six
pub least-by_8 : IsLeastClosed 2 (among (8 ∷ [])) (among with_8)
least-by_8 = record {
  closed = least-with_8.closed;
  holds = λ a h. each-among (λ i. among with_8 i ≡ true) (8 ∷ []) (refl, tt) a h;
  least = λ other closed wanted a h.
      each-among (λ i. other i ≡ true) with_8 (six_with_8 other closed (wanted 8 refl)) a h;
}

pub least-with_17 : IsLeastClosed 2 (among (2 ∷ 4 ∷ 8 ∷ 17 ∷ [])) (among with_17)
unfolding level_of corners_of
least-with_17 = record {
  closed = closed-list 2 with_17 (refl, (refl, (refl, (refl, (refl, (refl, (refl, tt)))))));
  holds = λ a h. each-among (λ i. among with_17 i ≡ true) (2 ∷ 4 ∷ 8 ∷ 17 ∷ []) (refl, (refl, (refl, (refl, tt)))) a h;
  least = λ other closed wanted a h.
      each-among (λ i. other i ≡ true) with_17 (seven_with_17 other closed (wanted 17 refl)) a h;
}
