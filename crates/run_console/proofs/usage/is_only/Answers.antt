-- The word at the place 0 is the only one.
use Rattle.std.proofs.Common.{◌≡◌, ℕ, ◌∙◌, false, List, [], ◌∷◌, map, length, get_or, string_bytes, refl, sym, ap, arith}
use Rattle.std.specs.Prelude.{bytes_eq}
use Rattle.run_console.specs.Asked.{is_only}
use Rattle.run_console.proofs.usage.is_only.Goals as goal

-- of one word it is the test of that word
only-one : {A : Type 0} (f : A → List ℕ) (text : List ℕ) (xs : List A) (d : A) → length xs ≡ 1 →
    is_only text (map f xs) ≡ bytes_eq (f (get_or xs 0 d)) text
only-one f text [] d one = absurd (omega arith)
only-one f text (x ∷ []) d one = refl
only-one f text (x ∷ (y ∷ ys)) d one = absurd (omega arith)

-- of any other number it does not hold
only-other : {A : Type 0} (f : A → List ℕ) (text : List ℕ) (xs : List A) → (length xs ≡ 1 → ⊥) →
    is_only text (map f xs) ≡ false
only-other f text [] other = refl
only-other f text (x ∷ []) other = absurd (other refl)
only-other f text (x ∷ (y ∷ ys)) other = refl

pub returns-in-len1 : goal.returns-in-len1
returns-in-len1 c =
    let words = c.args.words.now in
    let at : bytes_eq (string_bytes c.word-item.result) c.args.text.now
    ≡ bytes_eq (string_bytes (get_or words 0 c.word-item.result)) c.args.text.now =
    ap (λ w. bytes_eq (string_bytes w) c.args.text.now) c.word-item.is in
    c.eq.ensures ∙ ap (λ b. bytes_eq b c.args.text.now) c.as_str.ensures.value ∙ at
    ∙ sym (only-one string_bytes c.args.text.now words c.word-item.result (omega arith))

pub returns-in_default : goal.returns-in_default
returns-in_default c = sym (only-other string_bytes c.args.text.now c.args.words.now (λ one. absurd (omega arith)))
