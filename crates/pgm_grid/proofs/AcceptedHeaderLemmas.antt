-- The tests of a header's values.
use Rattle.std.proofs.Common.{◌≡◌, ◌≢◌, ℕ, ◌<◌, ◌≤◌, Bool, true, false, not, ◌||◌, ◌==◌, nat_lt, eqb, Option, Some}
use Rattle.std.proofs.Common.{None, Result, Ok, Err, refl, sym, ap, ap₂, ◌∙◌, inl, inr, subst, arith, eqb-true}
use Rattle.std.proofs.lemmas.Bool.{cond_both, ltb-true, ltb-false, eqb-false, agree_below, agree_below_at, or_cases}
use Rattle.std.proofs.lemmas.Bool.{or_parts, not-false, not-true}
use Rattle.mesh_defs.specs.HeightField.{side_of}
use Rattle.pgm_grid.specs.declared.accepted_header.Header.{Header}
use Rattle.pgm_grid.specs.declared.header_fault.HeaderFault.{HeaderFault}
use Rattle.pgm_grid.specs.declared.header_fault.HeaderFault.TheVariants.{BadMagic, BadHeader, HeaderTooLong, BadMaxval}
use Rattle.pgm_grid.specs.declared.header_fault.HeaderFault.TheVariants.{NotSquare, BadSide}
use Rattle.pgm_grid.specs.declared.header_machine.HeaderValues.{HeaderValues}
use Rattle.pgm_grid.specs.AcceptedHeader.{IsLevel, IsMaxval, Accepts, side_level, with_level, judged}

-- Levels.

-- the level, if there is one, is that of the side
abbrev LevelIn : ℕ → Option ℕ → Type 0
LevelIn side (Some n) = IsLevel n × (side ≡ side_of n)
LevelIn side None = Unit {0}

level_in : (side : ℕ) → LevelIn side (side_level side)
level_in side =
    cond_both (side == 3) (Some 1) _ (LevelIn side)
    (λ e. (record { low = omega arith; high = omega arith }, eqb-true side 3 e)) (λ _.
    cond_both (side == 5) (Some 2) _ (LevelIn side)
    (λ e. (record { low = omega arith; high = omega arith }, eqb-true side 5 e)) (λ _.
    cond_both (side == 9) (Some 3) _ (LevelIn side)
    (λ e. (record { low = omega arith; high = omega arith }, eqb-true side 9 e)) (λ _.
    cond_both (side == 17) (Some 4) _ (LevelIn side)
    (λ e. (record { low = omega arith; high = omega arith }, eqb-true side 17 e)) (λ _.
    cond_both (side == 33) (Some 5) _ (LevelIn side)
    (λ e. (record { low = omega arith; high = omega arith }, eqb-true side 33 e)) (λ _.
    cond_both (side == 65) (Some 6) _ (LevelIn side)
    (λ e. (record { low = omega arith; high = omega arith }, eqb-true side 65 e)) (λ _.
    cond_both (side == 129) (Some 7) _ (LevelIn side)
    (λ e. (record { low = omega arith; high = omega arith }, eqb-true side 129 e)) (λ _.
    cond_both (side == 257) (Some 8) _ (LevelIn side)
    (λ e. (record { low = omega arith; high = omega arith }, eqb-true side 257 e)) (λ _.
    cond_both (side == 513) (Some 9) _ (LevelIn side)
    (λ e. (record { low = omega arith; high = omega arith }, eqb-true side 513 e)) (λ _.
    cond_both (side == 1025) (Some 10) _ (LevelIn side)
    (λ e. (record { low = omega arith; high = omega arith }, eqb-true side 1025 e)) (λ _.
    cond_both (side == 2049) (Some 11) None (LevelIn side)
    (λ e. (record { low = omega arith; high = omega arith }, eqb-true side 2049 e)) (λ _. tt)))))))))))

-- the answer for the side of a level is this level
abbrev is_just : ℕ → Option ℕ → Bool
is_just n (Some m) = eqb m n
is_just n None = false

just_some : (n : ℕ) (o : Option ℕ) → is_just n o ≡ true → o ≡ Some n
just_some n (Some m) e = ap (λ (k : ℕ). Some k) (eqb-true m n e)
just_some n None e = absurd (cc)

levels_test : agree_below (λ n. eqb n 0 || is_just n (side_level (side_of n))) (λ _. true) 12 ≡ true
levels_test = refl

level_of-side : (n : ℕ) → IsLevel n → side_level (side_of n) ≡ Some n
level_of-side n level =
    elim (or_cases (eqb n 0) (is_just n (side_level (side_of n)))
    (agree_below_at (λ k. eqb k 0 || is_just k (side_level (side_of k))) (λ _. true) 12 n levels_test
    (omega (arith, level.high)))) as (λ _. side_level (side_of n) ≡ Some n) [
      | inl none ↦ let nothing : n ≡ 0 = eqb-true n 0 none in absurd (omega (arith, level.low))
      | inr just ↦ just_some n (side_level (side_of n)) just
    ]

-- The tests of the values.

-- what the tests of the values say
abbrev pub JudgedAs : HeaderValues → Result Header HeaderFault → Type 0
JudgedAs v (Ok h) = Accepts v h
JudgedAs v (Err BadMaxval) = ¬ IsMaxval v.maxval
JudgedAs v (Err NotSquare) = IsMaxval v.maxval × (v.width ≢ v.height)
JudgedAs v (Err BadSide) = IsMaxval v.maxval × (v.width ≡ v.height) × ((n : ℕ) → IsLevel n → v.width ≢ side_of n)
JudgedAs v (Err BadMagic) = ⊥
JudgedAs v (Err (BadHeader at)) = ⊥
JudgedAs v (Err HeaderTooLong) = ⊥

level_judged : (v : HeaderValues) (o : Option ℕ) → side_level v.width ≡ o → IsMaxval v.maxval → v.width ≡ v.height →
    LevelIn v.width o → JudgedAs v (with_level v o)
level_judged v None e fine square level = (
  fine,
  square,
  λ n at is.
      let found : side_level v.width ≡ Some n = ap side_level is ∙ level_of-side n at in
      let clash : Some n ≡ None = sym found ∙ e in cc,
)
level_judged v (Some n) e fine square level =
    record {
      valid = record { level = level.0; maxval = fine };
      plain = refl;
      maxval = refl;
      width = level.1;
      height = sym square ∙ level.1;
    }

-- what the tests of the values answer is so
pub judges : (v : HeaderValues) → JudgedAs v (judged v)
judges v =
    cond_both (v.maxval == 0 || nat_lt 65535 v.maxval) (Err BadMaxval) _ (JudgedAs v)
    (λ e. λ fine. elim (or_cases (v.maxval == 0) (nat_lt 65535 v.maxval) e) as (λ _. ⊥) [
      | inl none ↦ let nothing : v.maxval ≡ 0 = eqb-true v.maxval 0 none in absurd (omega (arith, fine.low))
      | inr above ↦ let large : 65535 < v.maxval = ltb-true 65535 v.maxval above in absurd (omega (arith, fine.high))
    ])
    (λ e. let both = or_parts (v.maxval == 0) (nat_lt 65535 v.maxval) e in
    let some : v.maxval ≡ 0 → ⊥ = eqb-false v.maxval 0 both.0 in
    let few : v.maxval ≤ 65535 = ltb-false 65535 v.maxval both.1 in
    let fine : IsMaxval v.maxval = record { low = omega arith; high = few } in
    cond_both (not (v.width == v.height)) (Err NotSquare) _ (JudgedAs v)
    (λ d. (fine, eqb-false v.width v.height (not-true (v.width == v.height) d)))
    (λ d. level_judged v (side_level v.width) refl fine
    (eqb-true v.width v.height (not-false (v.width == v.height) d)) (level_in v.width)))

-- one result at most
same_level : (m n : ℕ) → IsLevel m → IsLevel n → side_of m ≡ side_of n → m ≡ n
same_level m n at_m at_n e =
    let both : Some m ≡ Some n = sym (level_of-side m at_m) ∙ ap side_level e ∙ level_of-side n at_n in
    cc

abbrev header_with : Bool → ℕ → ℕ → Header
header_with p n m = record { plain = p; n = n; maxval = m }

same_fields : (p q : Bool) (i j m n : ℕ) → p ≡ q → i ≡ j → m ≡ n → header_with p i m ≡ header_with q j n
same_fields p q i j m n a b c = ap₂ (λ (x : Bool) (y : ℕ). header_with x y m) a b ∙ ap (header_with q j) c

same_header : (v : HeaderValues) (g h : Header) → Accepts v g → Accepts v h → g ≡ h
same_header v g h a b =
    let plain : g.plain ≡ h.plain = a.plain ∙ sym b.plain in
    let level : g.n ≡ h.n = same_level g.n h.n a.valid.level b.valid.level (sym a.width ∙ b.width) in
    let maxval : g.maxval ≡ h.maxval = a.maxval ∙ sym b.maxval in
    same_fields g.plain h.plain g.n h.n g.maxval h.maxval plain level maxval

-- values that are accepted as a header are answered as this header
pub accepted_as : (v : HeaderValues) (h : Header) (r : Result Header HeaderFault) →
    JudgedAs v r → Accepts v h → r ≡ Ok h
accepted_as v h (Ok g) j a = ap (λ (x : Header). Ok x) (same_header v g h j a)
accepted_as v h (Err BadMaxval) j a = absurd (j (subst IsMaxval a.maxval a.valid.maxval))
accepted_as v h (Err NotSquare) j a = absurd (j.1 (a.width ∙ sym a.height))
accepted_as v h (Err BadSide) j a = absurd (j.2 h.n a.valid.level a.width)
accepted_as v h (Err BadMagic) j a = absurd j
accepted_as v h (Err (BadHeader at)) j a = absurd j
accepted_as v h (Err HeaderTooLong) j a = absurd j

-- values whose maxval is not accepted are refused for it
pub maxval_as : (v : HeaderValues) (r : Result Header HeaderFault) → JudgedAs v r →
    ¬ IsMaxval v.maxval → r ≡ Err BadMaxval
maxval_as v (Ok g) j a = absurd (a (subst IsMaxval j.maxval j.valid.maxval))
maxval_as v (Err BadMaxval) j a = refl
maxval_as v (Err NotSquare) j a = absurd (a j.0)
maxval_as v (Err BadSide) j a = absurd (a j.0)
maxval_as v (Err BadMagic) j a = absurd j
maxval_as v (Err (BadHeader at)) j a = absurd j
maxval_as v (Err HeaderTooLong) j a = absurd j

-- else values whose width and height differ are refused for that
pub oblong_as : (v : HeaderValues) (r : Result Header HeaderFault) → JudgedAs v r → IsMaxval v.maxval →
    (v.width ≢ v.height) → r ≡ Err NotSquare
oblong_as v (Ok g) j fine a = absurd (a (j.width ∙ sym j.height))
oblong_as v (Err BadMaxval) j fine a = absurd (j fine)
oblong_as v (Err NotSquare) j fine a = refl
oblong_as v (Err BadSide) j fine a = absurd (a j.1)
oblong_as v (Err BadMagic) j fine a = absurd j
oblong_as v (Err (BadHeader at)) j fine a = absurd j
oblong_as v (Err HeaderTooLong) j fine a = absurd j

-- else values whose side is that of no level are refused for it
pub side_as : (v : HeaderValues) (r : Result Header HeaderFault) → JudgedAs v r → IsMaxval v.maxval →
    v.width ≡ v.height → ((n : ℕ) → IsLevel n → v.width ≢ side_of n) → r ≡ Err BadSide
side_as v (Ok g) j fine square a = absurd (a g.n j.valid.level j.width)
side_as v (Err BadMaxval) j fine square a = absurd (j fine)
side_as v (Err NotSquare) j fine square a = absurd (j.1 square)
side_as v (Err BadSide) j fine square a = refl
side_as v (Err BadMagic) j fine square a = absurd j
side_as v (Err (BadHeader at)) j fine square a = absurd j
side_as v (Err HeaderTooLong) j fine square a = absurd j
