-- Texts of numbers, and the numbers that they are.
use Rattle.std.proofs.Common.{suc, negsuc, [], inl, inr, unsigned_abs, decimal, ◌≡◌, ◌≢◌, ◌↔◌, ℤ, pos, neg_ℤ, Option}
use Rattle.std.proofs.Common.{Some, None, IsSome, IfSome, IsTrue, ◌∷◌, cond, ℕ, ◌^◌, ◌<◌, ◌≤◌, Bool, true, false, List}
use Rattle.std.proofs.Common.{length, get_or, refl, sym, ◌∙◌, ap, subst, arith, rules, lit<, All}
use Rattle.std.specs.Str.{all_ascii_digits}
use Rattle.std.specs.Char.{is_ascii_digit}
use Rattle.std.specs.Bool.{Decides}
use Rattle.std.specs.Fmt.{signed_decimal}
use Rattle.std.specs.Option.{SomeIff, option_map}
use Rattle.std.proofs.lemmas.Str.Parse.{IsNumeralModel, numerals_by_weight, tells_all_ascii_digits}
use Rattle.std.proofs.lemmas.Bool.Decides.{Decides-by_and, eqb_tells}
use Rattle.std.proofs.lemmas.List.Elements.{All-get_or}
use Rattle.std.proofs.lemmas.Fmt.{decimal_nonempty, length-decimal-le, digits_decimal, digits_value-decimal}
use Rattle.text_laws.specs.Digits.{IsDigit, value_of}
use Rattle.text_laws.specs.Numbers.{is_dec_text, number_in, signed_in, IsDecText, IsSignedTextOf}
use Rattle.text_laws.proofs.TestLemmas.{some-test}

-- the texts of digits and their numbers are those of the standard library
pub numerals : IsNumeralModel (λ ds. all_ascii_digits ds ≡ true) value_of
numerals = numerals_by_weight _ tells_all_ascii_digits value_of (search rules)

-- the test of a byte decides whether it is a digit
digit-decides : (c : ℕ) → Decides (is_ascii_digit c) (IsDigit c)
digit-decides c = ((λ h. grind arith), (λ h. grind arith))

-- the test of a text decides whether all of its bytes are digits
digits-decide : (bs : List ℕ) → Decides (all_ascii_digits bs) (All IsDigit bs)
digits-decide bs = Decides-by_and is_ascii_digit IsDigit all_ascii_digits digit-decides refl (λ _ _. refl) bs

-- the test of a text decides whether it is 1 to `longest` digits
text-valid : (longest : ℕ) (bs : List ℕ) → is_dec_text longest bs ≡ true → IsDecText longest bs
text-valid longest bs h =
    record {
      some = grind arith;
      short = grind arith;
      digits = (digits-decide bs).0 (grind arith);
    }

valid-text : (longest : ℕ) (bs : List ℕ) → 1 ≤ length bs → length bs ≤ longest → all_ascii_digits bs ≡ true →
    is_dec_text longest bs ≡ true
valid-text longest bs some short digits = grind arith

-- an option that stands on a test has the value that stands there
on-test : (t : Bool) (v : ℕ) → IfSome (cond t (Some v) None) (λ n. n ≡ v)
on-test true v = refl
on-test false v = tt

-- a text whose length or whose digits the code refuses has no number
pub number-refused : (longest : ℕ) (bs : List ℕ) → (is_dec_text longest bs ≡ true → ⊥) → None ≡ number_in longest bs
unfolding number_in
number-refused longest bs refused = grind arith

-- the number that the code reads from a text of such a length
pub number-read : (longest : ℕ) (bs : List ℕ) (result : Option ℕ) → length bs ≢ 0 → length bs ≤ longest →
    SomeIff result (IsTrue (all_ascii_digits bs)) (value_of bs) → result ≡ number_in longest bs
unfolding number_in
number-read longest bs None some short h = number-refused longest bs (λ t. h (grind arith))
number-read longest bs (Some v) some short h = rw (valid-text longest bs (omega arith) short h.0) (ap Some h.1)

-- a text has a number exactly where it is 1 to `longest` digits
pub number-valid : (longest : ℕ) (bs : List ℕ) → IsSome (number_in longest bs) ↔ IsDecText longest bs
unfolding number_in
number-valid longest bs = (
  (λ h. text-valid longest bs (some-test (is_dec_text longest bs) (value_of bs) h)),
  (λ h. rw (valid-text longest bs h.some h.short ((digits-decide bs).1 h.digits)) refl),
)

-- the number of a text is that of its digits
pub number-value : (longest : ℕ) (bs : List ℕ) → IfSome (number_in longest bs) (λ n. n ≡ value_of bs)
unfolding number_in
number-value longest bs = on-test (is_dec_text longest bs) (value_of bs)

-- so the number of 1 to `longest` digits is theirs
pub number-from : (longest : ℕ) (bs : List ℕ) → IsDecText longest bs → number_in longest bs ≡ Some (value_of bs)
unfolding number_in
number-from longest bs h = rw (valid-text longest bs h.some h.short ((digits-decide bs).1 h.digits)) refl

-- and back
pub number-to : (longest : ℕ) (bs : List ℕ) (n : ℕ) → number_in longest bs ≡ Some n →
    IsDecText longest bs × (n ≡ value_of bs)
number-to longest bs n h =
    let value = number-value longest bs in
    ((number-valid longest bs).0 (rw h refl), rw h at value)

-- a text with a `-`
pub signed-minus : (rest : List ℕ) → signed_in (45 ∷ rest) ≡ option_map (λ n. neg_ℤ (pos n)) (number_in 18 rest)
unfolding signed_in
signed-minus rest = refl

-- a text without one
pub signed-plain : (bs : List ℕ) → get_or bs 0 0 ≢ 45 → signed_in bs ≡ option_map (λ n. pos n) (number_in 18 bs)
unfolding signed_in number_in
signed-plain [] plain = refl
signed-plain (first ∷ rest) plain =
    elim (eqb_tells first 45) [ inl p ↦ absurd (plain p.1) | inr p ↦ rw p.0 refl ]

map-some : (f : ℕ → ℤ) (o : Option ℕ) (v : ℤ) → option_map f o ≡ Some v → (n : ℕ) × (o ≡ Some n) × (v ≡ f n)
map-some f None v h = absurd (cc)
map-some f (Some n) v h = (n, refl, cc)

plain-to : (bs : List ℕ) (v : ℤ) → get_or bs 0 0 ≢ 45 → signed_in bs ≡ Some v → IsSignedTextOf bs v
plain-to bs v plain h =
    let found = map-some (λ n. pos n) (number_in 18 bs) v (sym (signed-plain bs plain) ∙ h) in
    let read = number-to 18 bs found.0 found.1 in
    inl (record { valid = read.0; value = found.2 ∙ ap pos read.1 })

minus-to : (digits : List ℕ) (v : ℤ) → signed_in (45 ∷ digits) ≡ Some v → IsSignedTextOf (45 ∷ digits) v
minus-to digits v h =
    let found = map-some (λ n. neg_ℤ (pos n)) (number_in 18 digits) v (sym (signed-minus digits) ∙ h) in
    let read = number-to 18 digits found.0 found.1 in
    inr (record { digits = digits; text = refl; valid = read.0; value = found.2 ∙ ap (λ n. neg_ℤ (pos n)) read.1 })

signed-to : (bs : List ℕ) (v : ℤ) → signed_in bs ≡ Some v → IsSignedTextOf bs v
signed-to [] v h = plain-to [] v (omega arith) h
signed-to (first ∷ rest) v h =
    elim (eqb_tells first 45) [
      | inl p ↦ subst (λ k. signed_in (k ∷ rest) ≡ Some v → IsSignedTextOf (k ∷ rest) v) (sym p.1) (minus-to rest v) h
      | inr p ↦ plain-to (first ∷ rest) v p.1 h
    ]

-- the first of some digits is no `-`
digit-first : (bs : List ℕ) → IsDecText 18 bs → get_or bs 0 0 ≢ 45
digit-first bs h e = let first = All-get_or IsDigit bs 0 0 h.some h.digits in omega (arith, first.0, e)

signed-from : (bs : List ℕ) (v : ℤ) → IsSignedTextOf bs v → signed_in bs ≡ Some v
signed-from bs v (inl h) =
    signed-plain bs (digit-first bs h.valid)
    ∙ ap (option_map (λ n. pos n)) (number-from 18 bs h.valid) ∙ ap Some (sym h.value)
signed-from bs v (inr h) =
    ap signed_in h.text ∙ signed-minus h.digits
    ∙ ap (option_map (λ n. neg_ℤ (pos n))) (number-from 18 h.digits h.valid) ∙ ap Some (sym h.value)

-- a number of which a text is one is that of each such
pub one-number : (bs : List ℕ) (v w : ℤ) → IsSignedTextOf bs v → IsSignedTextOf bs w → v ≡ w
one-number bs v w a b = let e : Some v ≡ Some w = sym (signed-from bs v a) ∙ signed-from bs w b in cc

-- the decimal text of a number is digits
decimal-text : (longest n : ℕ) → 0 < longest → n < 10 ^ longest → n < 2 ^ 64 → IsDecText longest (decimal n)
decimal-text longest n positive small fits =
    record {
      some = decimal_nonempty n fits;
      short = length-decimal-le longest n positive small fits;
      digits = (digits-decide (decimal n)).0 (digits_decimal numerals n fits);
    }

-- the number that these digits are is that of which they are the text
pub decimal-back : (longest n : ℕ) → 0 < longest → n < 10 ^ longest → n < 2 ^ 64 →
    number_in longest (decimal n) ≡ Some n
decimal-back longest n positive small fits =
    number-from longest (decimal n) (decimal-text longest n positive small fits)
    ∙ ap Some (digits_value-decimal numerals n fits)

-- the same of a signed number
pub signed-back : (v : ℤ) → unsigned_abs v < 10 ^ 18 → signed_in (signed_decimal v) ≡ Some v
signed-back (pos n) small =
    signed-plain (decimal n) (digit-first (decimal n) (decimal-text 18 n (lit< tt) small (omega arith)))
    ∙ ap (option_map (λ k. pos k)) (decimal-back 18 n (lit< tt) small (omega arith))
signed-back (negsuc n) small =
    signed-minus (decimal (suc n))
    ∙ ap (option_map (λ k. neg_ℤ (pos k))) (decimal-back 18 (suc n) (lit< tt) small (omega arith))

-- what is answered is the number of which the bytes are a text
pub reads-as : (bs : List ℕ) (result : Option ℤ) → result ≡ signed_in bs → (v : ℤ) →
    (result ≡ Some v) ↔ IsSignedTextOf bs v
reads-as bs result same v = ((λ h. signed-to bs v (sym same ∙ h)), (λ h. same ∙ signed-from bs v h))
