-- Numbers with a decimal point: where the point is, what thousandths a text is of, and the digits of a fraction.
use Rattle.std.proofs.Common.{zero, suc, [], inl, inr, ◌≡◌, ◌≢◌, ◌↔◌, ◌⊎◌, decimal, Option, Some, None, ◌∷◌, ◌++◌, ℕ}
use Rattle.std.proofs.Common.{◌+◌, ◌-◌, ◌*◌, ◌/◌, ◌%◌, ◌^◌, ◌<◌, ◌≤◌, List, length, get_or, take, drop, refl, sym, ◌∙◌}
use Rattle.std.proofs.Common.{ap, subst, arith, All, append_assoc, append-nil, drop-cons, add-one, take_all}
use Rattle.std.proofs.Common.{length-drop}
use Rattle.std.specs.Option.{option_map}
use Rattle.std.proofs.Math.Nat.{pow-succ', mod-lt, mul-sub, div-lt_iff_lt-mul}
use Rattle.std.proofs.Math.Seq.{drop-length, drop-append_seam, take-append_seam}
use Rattle.std.proofs.lemmas.Nat.{mul-pow, div-add-mod', pow_pos}
use Rattle.std.proofs.lemmas.Bool.Decides.{eqb_tells}
use Rattle.std.proofs.lemmas.Option.{none-some}
use Rattle.std.proofs.lemmas.List.Elements.{All-nil, All-cons, All-head, All-tail}
use Rattle.text_laws.specs.Digits.{IsDigit, value_of}
use Rattle.text_laws.specs.Numbers.{IsDecText, number_in}
use Rattle.text_laws.proofs.NumberLemmas.{number-to, number-from}
use Rattle.roam_num.specs.Laws.{FractionsAreExact}
use Rattle.roam_num.specs.Places.{until_point, with_places, thousandths_in, IsThousandthsOf, fraction_digits}
use Rattle.roam_num.specs.Places.{behind_point, exact_decimal}

-- where the first point is

until-here : (byte : ℕ) (bytes : List ℕ) → byte ≡ 46 → until_point (byte ∷ bytes) ≡ []
until-here byte bytes is =
    elim (eqb_tells byte 46) [ inl p ↦ rw p.0 refl | inr p ↦ absurd (p.1 is) ]

until-later : (byte : ℕ) (bytes : List ℕ) → byte ≢ 46 → until_point (byte ∷ bytes) ≡ byte ∷ until_point bytes
until-later byte bytes other =
    elim (eqb_tells byte 46) [ inl p ↦ absurd (other p.1) | inr p ↦ rw p.0 refl ]

-- what stands before it, and the rest
until-split : (bytes : List ℕ) → bytes ≡ until_point bytes ++ drop (length (until_point bytes)) bytes
until-split [] = refl
until-split (byte ∷ bytes) =
    elim (eqb_tells byte 46) [
      | inl p ↦ rw p.0 refl
      | inr p ↦ rw p.0 (ap (λ (l : List ℕ). byte ∷ l) (until-split bytes))
    ]

-- the rest begins with the point
until-point : (bytes : List ℕ) (first : ℕ) (rest : List ℕ) →
    drop (length (until_point bytes)) bytes ≡ first ∷ rest → first ≡ 46
until-point [] first rest is = absurd (not-empty is)
  where
    not-empty : [] ≡ first ∷ rest → ⊥
    not-empty e = cc
until-point (byte ∷ bytes) first rest is =
    elim (eqb_tells byte 46) [
      | inl p ↦
          sym (head (ap (λ (l : List ℕ). drop (length l) (byte ∷ bytes)) (sym (until-here byte bytes p.1)) ∙ is)) ∙ p.1
      | inr p ↦ until-point bytes first rest
          (ap (λ (l : List ℕ). drop (length l) (byte ∷ bytes)) (sym (until-later byte bytes p.1)) ∙ is)
    ]
  where
    head : byte ∷ bytes ≡ first ∷ rest → byte ≡ first
    head e = cc

-- no digit is a point
digit-other : (byte : ℕ) → IsDigit byte → byte ≢ 46
digit-other byte is e = omega (arith, is.0, e)

until-digits : (bytes : List ℕ) → All IsDigit bytes → until_point bytes ≡ bytes
until-digits [] digits = refl
until-digits (byte ∷ bytes) digits =
    until-later byte bytes (digit-other byte (All-head IsDigit byte bytes digits))
    ∙ ap (λ (l : List ℕ). byte ∷ l) (until-digits bytes (All-tail IsDigit byte bytes digits))

until-behind : (whole digits : List ℕ) → All IsDigit whole → until_point (whole ++ 46 ∷ digits) ≡ whole
until-behind [] digits all = until-here 46 digits refl
until-behind (byte ∷ whole) digits all =
    until-later byte (whole ++ 46 ∷ digits) (digit-other byte (All-head IsDigit byte whole all))
    ∙ ap (λ (l : List ℕ). byte ∷ l) (until-behind whole digits (All-tail IsDigit byte whole all))

-- a byte that is no point
pub point-later : (bytes : List ℕ) (i : ℕ) → i < length bytes → get_or bytes i 0 ≢ 46
    → length (until_point (drop i bytes)) ≡ suc (length (until_point (drop (i + 1) bytes)))
point-later bytes i below other =
    ap (λ (l : List ℕ). length (until_point l)) (drop-cons bytes i 0 below)
    ∙ (ap (λ (l : List ℕ). length l) (until-later (get_or bytes i 0) (drop (suc i) bytes) other)
    ∙ ap (λ (k : ℕ). suc (length (until_point (drop k bytes)))) (sym (add-one i)))

-- thousandths

map-found : (f : ℕ → ℕ) (o : Option ℕ) (v : ℕ) → option_map f o ≡ Some v → (n : ℕ) × (o ≡ Some n) × (v ≡ f n)
map-found f None v h = absurd (none-some v h)
map-found f (Some n) v h = (n, refl, cc)

read-by : (bytes : List ℕ) (count : ℕ) (whole : Option ℕ) (behind : List ℕ) → number_in 16 (until_point bytes) ≡ whole
    → drop (length (until_point bytes)) bytes ≡ behind → with_places whole behind ≡ Some count →
    IsThousandthsOf bytes count
read-by bytes count None behind w b is = absurd (none-some count is)
read-by bytes count (Some whole) [] w b is =
    let read = number-to 16 (until_point bytes) whole w in
    let same : until_point bytes ≡ bytes =
    sym (append-nil (until_point bytes)) ∙ ap (λ (l : List ℕ). until_point bytes ++ l) (sym b)
    ∙ sym (until-split bytes) in
    let value : 1000 * whole ≡ count = one (1000 * whole) count is in
    let P : List ℕ → Type 0 = λ l. IsDecText 16 l × (count ≡ 1000 * value_of l) in
    inl (subst P same (read.0, sym value ∙ ap (λ (k : ℕ). 1000 * k) read.1))
  where
    one : (a b : ℕ) → Some a ≡ Some b → a ≡ b
    one a b e = cc
read-by bytes count (Some whole) (point ∷ digits) w b is =
    let read = number-to 16 (until_point bytes) whole w in
    let found = map-found (λ part. 1000 * whole + part * 10 ^ (3 - length digits)) (number_in 3 digits) count is in
    let part = number-to 3 digits found.0 found.1 in
    let point_is : point ≡ 46 = until-point bytes point digits b in
    let split : bytes ≡ until_point bytes ++ 46 ∷ digits =
    until-split bytes ∙ ap (λ (l : List ℕ). until_point bytes ++ l) (b ∙ ap (λ (k : ℕ). k ∷ digits) point_is) in
    inr (
      until_point bytes,
      digits,
      split,
      read.0,
      part.0,
      found.2 ∙ ap (λ (k : ℕ). 1000 * k + found.0 * 10 ^ (3 - length digits)) read.1
          ∙ ap (λ (k : ℕ). 1000 * value_of (until_point bytes) + k * 10 ^ (3 - length digits)) part.1,
    )

thousandths-to : (bytes : List ℕ) (count : ℕ) → thousandths_in bytes ≡ Some count → IsThousandthsOf bytes count
unfolding thousandths_in
thousandths-to bytes count is =
    read-by bytes count (number_in 16 (until_point bytes)) (drop (length (until_point bytes)) bytes) refl refl is

thousandths-from : (bytes : List ℕ) (count : ℕ) → IsThousandthsOf bytes count → thousandths_in bytes ≡ Some count
unfolding thousandths_in
thousandths-from bytes count (inl is) =
    let until = until-digits bytes is.0.digits in
    ap (λ (l : List ℕ). with_places (number_in 16 l) (drop (length l) bytes)) until
    ∙ (ap (λ (l : List ℕ). with_places (number_in 16 bytes) l) (drop-length bytes)
    ∙ (ap (λ (o : Option ℕ). with_places o []) (number-from 16 bytes is.0) ∙ ap Some (sym is.1)))
thousandths-from bytes count (inr is) =
    let whole : List ℕ = is.0 in
    let digits : List ℕ = is.1 in
    let cut : List ℕ = whole ++ 46 ∷ digits in
    let until = until-behind whole digits is.3.digits in
    ap (λ (l : List ℕ). with_places (number_in 16 (until_point l)) (drop (length (until_point l)) l)) is.2
    ∙ (ap (λ (l : List ℕ). with_places (number_in 16 l) (drop (length l) cut)) until
    ∙ (ap (λ (l : List ℕ). with_places (number_in 16 whole) l) (drop-append_seam whole (46 ∷ digits))
    ∙ (ap (λ (o : Option ℕ). with_places o (46 ∷ digits)) (number-from 16 whole is.3)
    ∙ (ap (option_map (λ part. 1000 * value_of whole + part * 10 ^ (3 - length digits))) (number-from 3 digits is.4)
    ∙ ap Some (sym is.5)))))

-- what is answered is how many thousandths the bytes are
pub thousandths-reads : (bytes : List ℕ) (result : Option ℕ) → result ≡ thousandths_in bytes → (count : ℕ) →
    (result ≡ Some count) ↔ IsThousandthsOf bytes count
thousandths-reads bytes result same count =
    ((λ h. thousandths-to bytes count (sym same ∙ h)), (λ h. same ∙ thousandths-from bytes count h))

-- three digits are thousandths
pub three-places : (digits : List ℕ) (part : ℕ) → number_in 3 digits ≡ Some part → length digits ≢ 1 → length digits ≢ 2
    → Some part ≡ option_map (λ k. k * 10 ^ (3 - length digits)) (number_in 3 digits)
three-places digits part is one two =
    let text = (number-to 3 digits part is).0 in
    let some = text.some in
    let short = text.short in
    let three : length digits ≡ 3 = omega (arith, some, short, one, two) in
    let same : part * 10 ^ (3 - length digits) ≡ part = ap (λ (k : ℕ). part * 10 ^ (3 - k)) three ∙ omega arith in
    sym (ap (option_map (λ k. k * 10 ^ (3 - length digits))) is ∙ ap Some same)

-- what the code puts together, by what it reads

-- the bytes before the point are the first ones
pub until-take : (bytes : List ℕ) (k : ℕ) → k ≡ length (until_point bytes) → take k bytes ≡ until_point bytes
until-take bytes k is =
    let u : List ℕ = until_point bytes in
    ap (λ (j : ℕ). take j bytes) is ∙ ap (take (length u)) (until-split bytes)
    ∙ take-append_seam u (drop (length u) bytes)

-- without a whole number there is none
pub whole-refused : (bytes : List ℕ) → number_in 16 (until_point bytes) ≡ None → None ≡ thousandths_in bytes
unfolding thousandths_in
whole-refused bytes w = sym (ap (λ (o : Option ℕ). with_places o (drop (length (until_point bytes)) bytes)) w)

pub whole-and-part : (bytes : List ℕ) (whole : Option ℕ) (k : ℕ) → number_in 16 (until_point bytes) ≡ whole →
    k ≡ length (until_point bytes) → k < length bytes
    → with_places whole (46 ∷ drop (k + 1) bytes) ≡ thousandths_in bytes
unfolding thousandths_in
whole-and-part bytes whole k w at below =
    sym (ap (λ (o : Option ℕ). with_places o (drop (length (until_point bytes)) bytes)) w
    ∙ ap (λ (l : List ℕ). with_places whole l)
    (ap (λ (j : ℕ). drop j bytes) (sym at) ∙ drop-cons bytes k 0 below
    ∙ ap (λ (c : ℕ). c ∷ drop (suc k) bytes) (until-point bytes (get_or bytes k 0) (drop (suc k) bytes)
    (ap (λ (j : ℕ). drop j bytes) (sym at) ∙ drop-cons bytes k 0 below))
    ∙ ap (λ (j : ℕ). 46 ∷ drop j bytes) (sym (add-one k))))

-- a slice to the end is the rest of the list
pub slice-rest : (bytes : List ℕ) (k : ℕ) → take (length bytes - k) (drop k bytes) ≡ drop k bytes
slice-rest bytes k = take_all (length bytes - k) (drop k bytes) (let l = length-drop k bytes in omega (arith, l))

-- what is behind the point has no number, or this one
pub part-refused : (bytes digits : List ℕ) (whole k : ℕ) → number_in 16 (until_point bytes) ≡ Some whole →
    k ≡ length (until_point bytes) → k < length bytes
    → digits ≡ drop (k + 1) bytes → option_map (λ part. part * 10 ^ (3 - length digits)) (number_in 3 digits) ≡ None →
    None ≡ thousandths_in bytes
part-refused bytes digits whole k w at below is none =
    none-mapped (λ part. part * 10 ^ (3 - length digits)) (λ part. 1000 * whole + part * 10 ^ (3 - length digits))
    (number_in 3 digits) none
    ∙ ap (λ (l : List ℕ). with_places (Some whole) (46 ∷ l)) is
    ∙ whole-and-part bytes (Some whole) k w at below
  where
    none-mapped : (f h : ℕ → ℕ) (o : Option ℕ) → option_map f o ≡ None → None ≡ option_map h o
    none-mapped f h None e = refl
    none-mapped f h (Some n) e = absurd (none-some (f n) (sym e))

pub part-added : (bytes digits : List ℕ) (whole part k : ℕ) → number_in 16 (until_point bytes) ≡ Some whole →
    k ≡ length (until_point bytes) → k < length bytes
    → digits ≡ drop (k + 1) bytes → option_map (λ n. n * 10 ^ (3 - length digits)) (number_in 3 digits) ≡ Some part →
    Some (1000 * whole + part) ≡ thousandths_in bytes
part-added bytes digits whole part k w at below is some =
    some-mapped (λ n. n * 10 ^ (3 - length digits)) (number_in 3 digits) some
    ∙ ap (λ (l : List ℕ). with_places (Some whole) (46 ∷ l)) is
    ∙ whole-and-part bytes (Some whole) k w at below
  where
    some-mapped : (f : ℕ → ℕ) (o : Option ℕ) → option_map f o ≡ Some part →
        Some (1000 * whole + part) ≡ option_map (λ n. 1000 * whole + f n) o
    some-mapped f None e = absurd (none-some part e)
    some-mapped f (Some n) e = ap (λ (o : Option ℕ). option_map (λ m. 1000 * whole + m) o) (sym e)

pub whole-alone : (bytes : List ℕ) (whole : ℕ) → number_in 16 (until_point bytes) ≡ Some whole →
    length (until_point bytes) ≡ length bytes
    → Some (1000 * whole) ≡ thousandths_in bytes
unfolding thousandths_in
whole-alone bytes whole w all =
    sym (ap (λ (o : Option ℕ). with_places o (drop (length (until_point bytes)) bytes)) w
    ∙ ap (λ (l : List ℕ). with_places (Some whole) l) (ap (λ (k : ℕ). drop k bytes) all ∙ drop-length bytes))

-- the digits of a fraction

-- nothing is left
pub fraction-none : (most over : ℕ) → fraction_digits most 0 over ≡ []
fraction-none zero over = refl
fraction-none (suc most) over = refl

-- one digit more
pub fraction-some : (most rest over : ℕ) → 0 < most → 0 < rest
    → fraction_digits most rest over ≡ (48 + 10 * rest / over) ∷ fraction_digits (most - 1) (10 * rest % over) over
fraction-some zero rest over some left = absurd (omega (arith, some))
fraction-some (suc most) zero over some left = absurd (omega (arith, left))
fraction-some (suc most) (suc rest) over some left =
    let less : suc most - 1 ≡ most = omega arith in
    ap (λ (k : ℕ). (48 + 10 * suc rest / over) ∷ fraction_digits k (10 * suc rest % over) over) (sym less)

-- the text of a number and its fraction
pub decimal-items : (old middle new : List ℕ) (count n same over : ℕ) → over ≡ 2 ^ n → same ≡ count →
    middle ≡ old ++ decimal (same / over)
    → new ≡ middle ++ behind_point (fraction_digits n (same % over) over) → new ≡ old ++ exact_decimal count n
unfolding exact_decimal
decimal-items old middle new count n same over power is first second =
    let digits : ℕ → ℕ → List ℕ = λ k m. behind_point (fraction_digits n (k % m) m) in
    second
    ∙ ap (λ (l : List ℕ). l ++ digits same over) first
    ∙ append_assoc old (decimal (same / over)) (digits same over)
    ∙ ap (λ (k : ℕ). old ++ (decimal (k / over) ++ digits k over)) is
    ∙ ap (λ (m : ℕ). old ++ (decimal (count / m) ++ digits count m)) power

-- one digit of the loop more, or none because nothing is left
pub next-digit : (all old new : List ℕ) (most place rest over : ℕ) → place < most → 0 < rest
    → old ++ fraction_digits (most - place) rest over ≡ all → new ≡ old ++ (48 + 10 * rest / over) ∷ []
    → new ++ fraction_digits (most - (place + 1)) (10 * rest % over) over ≡ all
next-digit all old new most place rest over below left before pushed =
    let one = fraction-some (most - place) rest over (omega (arith, below)) left in
    let less : most - place - 1 ≡ most - (place + 1) = omega arith in
    ap (λ (l : List ℕ). l ++ fraction_digits (most - (place + 1)) (10 * rest % over) over) pushed
    ∙ append_assoc old ((48 + 10 * rest / over) ∷ []) (fraction_digits (most - (place + 1)) (10 * rest % over) over)
    ∙ ap (λ (k : ℕ). old ++ (48 + 10 * rest / over) ∷ fraction_digits k (10 * rest % over) over) (sym less)
    ∙ ap (λ (l : List ℕ). old ++ l) (sym one)
    ∙ before

pub no-digit : (all old : List ℕ) (most place rest over : ℕ) → rest ≡ 0 →
    old ++ fraction_digits (most - place) rest over ≡ all
    → old ++ fraction_digits (most - (place + 1)) rest over ≡ all
no-digit all old most place rest over none before =
    ap (λ (k : ℕ). old ++ fraction_digits (most - (place + 1)) k over) none
    ∙ ap (λ (l : List ℕ). old ++ l) (fraction-none (most - (place + 1)) over ∙ sym (fraction-none (most - place) over))
    ∙ ap (λ (k : ℕ). old ++ fraction_digits (most - place) k over) (sym none)
    ∙ before

-- long division, over plain numbers
put-together : (d over r s power value : ℕ) → d * over + r ≡ 10 * s → value * over ≡ r * power →
    (d * power + value) * over ≡ s * (10 * power)
put-together d over r s power value step tail =
    let m : (d * over + r) * power ≡ 10 * s * power = ap (λ (k : ℕ). k * power) step in
    omega (arith, m, tail)

quotient : (d over r s power q : ℕ) → d * over + r ≡ 10 * s → s * (10 * power) ≡ q * over →
    r * power ≡ over * (q - d * power)
quotient d over r s power q step ends =
    let m : (d * over + r) * power ≡ 10 * s * power = ap (λ (k : ℕ). k * power) step in
    let sub = mul-sub over q (d * power) in
    omega (arith, m, ends, sub)

-- a fraction below 1 that needs no place is 0
whole-none : (over rest q : ℕ) → rest < over → rest * 10 ^ 0 ≡ over * q → rest ≡ 0
whole-none over rest zero below ends = omega (arith, ends)
whole-none over rest (suc q) below ends = absurd (omega (arith, ends, below))

module _ (over : ℕ) where
  -- the rest times a power of ten is a multiple of what it is divided by, behind one more digit
  next-ends : (most rest q : ℕ) → suc rest * 10 ^ suc most ≡ over * q
      → 10 * suc rest % over * 10 ^ most ≡ over * (q - 10 * suc rest / over * 10 ^ most)
  next-ends most rest q ends =
      let e : suc rest * (10 * 10 ^ most) ≡ q * over =
      ap (λ (k : ℕ). suc rest * k) (sym (pow-succ' 10 most)) ∙ ends ∙ omega arith in
      quotient (10 * suc rest / over) over (10 * suc rest % over) (suc rest) (10 ^ most) q
      (div-add-mod' (10 * suc rest) over) e

  next-below : (rest : ℕ) → rest < over → 10 * rest % over < over
  next-below rest below = mod-lt (10 * rest) {m = over} (omega (arith, below))

  -- the digits are the fraction
  fraction-exact : (most rest q : ℕ) → rest < over → rest * 10 ^ most ≡ over * q
      → value_of (fraction_digits most rest over) * over ≡ rest * 10 ^ length (fraction_digits most rest over)
  fraction-exact zero rest q below ends = let none = whole-none over rest q below ends in omega (arith, none)
  fraction-exact (suc most) zero q below ends = omega arith
  fraction-exact (suc most) (suc rest) q below ends =
      let d : ℕ = 10 * suc rest / over in
      let r : ℕ = 10 * suc rest % over in
      let digits : List ℕ = fraction_digits most r over in
      let tail = fraction-exact most r (q - d * 10 ^ most) (next-below (suc rest) below) (next-ends most rest q ends) in
      let sum = put-together d over r (suc rest) (10 ^ length digits) (value_of digits)
      (div-add-mod' (10 * suc rest) over) tail in
      let digit : 48 + d - 48 ≡ d = omega arith in
      ap (λ (k : ℕ). (k * 10 ^ length digits + value_of digits) * over) digit ∙ sum
      ∙ ap (λ (k : ℕ). suc rest * k) (sym (pow-succ' 10 (length digits)))

  -- they are digits
  fraction-digits : (most rest : ℕ) → rest < over → All IsDigit (fraction_digits most rest over)
  fraction-digits zero rest below = All-nil IsDigit
  fraction-digits (suc most) zero below = All-nil IsDigit
  fraction-digits (suc most) (suc rest) below =
      let small =
      (div-lt_iff_lt-mul {k = over} {x = 10 * suc rest} {y = 10} (omega (arith, below))).1 (omega (arith, below)) in
      All-cons IsDigit (48 + 10 * suc rest / over) (fraction_digits most (10 * suc rest % over) over)
      (omega arith, omega (arith, small))
      (fraction-digits most (10 * suc rest % over) (next-below (suc rest) below))

  -- not too many
  pub fraction-short : (most rest : ℕ) → length (fraction_digits most rest over) ≤ most
  fraction-short zero rest = omega arith
  fraction-short (suc most) zero = omega arith
  fraction-short (suc most) (suc rest) = let l = fraction-short most (10 * suc rest % over) in omega (arith, l)

  -- where there is none, nothing is left
  fraction-empty : (most rest q : ℕ) → rest < over → rest * 10 ^ most ≡ over * q →
      fraction_digits most rest over ≡ [] → rest ≡ 0
  fraction-empty zero rest q below ends none = whole-none over rest q below ends
  fraction-empty (suc most) zero q below ends none = refl
  fraction-empty (suc most) (suc rest) q below ends none = absurd (filled none)
    where
      filled : (48 + 10 * suc rest / over) ∷ fraction_digits most (10 * suc rest % over) over ≡ [] → ⊥
      filled e = cc

  -- and the last is not 0
  fraction-last : (most rest q : ℕ) → rest < over → rest * 10 ^ most ≡ over * q → (before : List ℕ) →
      fraction_digits most rest over ≡ before ++ 48 ∷ [] → ⊥
  fraction-last zero rest q below ends [] is = cc
  fraction-last zero rest q below ends (b ∷ before) is = cc
  fraction-last (suc most) zero q below ends [] is = cc
  fraction-last (suc most) zero q below ends (b ∷ before) is = cc
  fraction-last (suc most) (suc rest) q below ends [] is =
      let d : ℕ = 10 * suc rest / over in
      let r : ℕ = 10 * suc rest % over in
      let none = fraction-empty most r (q - d * 10 ^ most) (next-below (suc rest) below)
      (next-ends most rest q ends) (tail is) in
      let zero_digit : 48 + d ≡ 48 = head is in
      let step = div-add-mod' (10 * suc rest) over in
      let d_none : d ≡ 0 = omega (arith, zero_digit) in
      let sum : 0 * over + 0 ≡ 10 * suc rest =
      ap (λ (k : ℕ). k * over + 0) (sym d_none) ∙ ap (λ (k : ℕ). d * over + k) (sym none) ∙ step in
      omega (arith, sum)
    where
      head : (48 + 10 * suc rest / over) ∷ fraction_digits most (10 * suc rest % over) over ≡ 48 ∷ [] →
          48 + 10 * suc rest / over ≡ 48
      head e = cc

      tail : (48 + 10 * suc rest / over) ∷ fraction_digits most (10 * suc rest % over) over ≡ 48 ∷ [] →
          fraction_digits most (10 * suc rest % over) over ≡ []
      tail e = cc
  fraction-last (suc most) (suc rest) q below ends (b ∷ before) is =
      fraction-last most (10 * suc rest % over) (q - 10 * suc rest / over * 10 ^ most) (next-below (suc rest) below)
      (next-ends most rest q ends) before (tail is)
    where
      tail : (48 + 10 * suc rest / over) ∷ fraction_digits most (10 * suc rest % over) over ≡ b ∷ (before ++ 48 ∷ [])
          → fraction_digits most (10 * suc rest % over) over ≡ before ++ 48 ∷ []
      tail e = cc

-- n places are enough for a fraction over 2 ^ n
enough : (n rest : ℕ) → rest * 10 ^ n ≡ 2 ^ n * (rest * 5 ^ n)
enough n rest =
    let e : rest * 10 ^ n ≡ rest * (2 ^ n * 5 ^ n) = ap (λ (k : ℕ). rest * k) (mul-pow 2 5 n) in
    omega (arith, e)

pub fractions-exact : FractionsAreExact
fractions-exact n count =
    let rest : ℕ = count % 2 ^ n in
    let over : ℕ = 2 ^ n in
    let below : rest < over = mod-lt count {m = 2 ^ n} (pow_pos n) in
    let ends : rest * 10 ^ n ≡ over * (rest * 5 ^ n) = enough n rest in
    record {
      exact = fraction-exact over n rest (rest * 5 ^ n) below ends;
      digits_all = fraction-digits over n rest below;
      short = fraction-short over n rest;
      shortest = fraction-last over n rest (rest * 5 ^ n) below ends;
    }
