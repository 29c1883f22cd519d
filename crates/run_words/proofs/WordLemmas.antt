-- The walk over the words of a command: where it goes on, some words lead to its end.
use Rattle.std.proofs.Common.{◌≡◌, ℕ, Bool, true, false, if◌then◌else◌, List, [], ◌∷◌, ◌++◌, take, drop, length}
use Rattle.std.proofs.Common.{map, get_or, ◌+◌, ◌<◌, Option, Some, None, IsTrue, is_some, codes}
use Rattle.std.proofs.Common.{bytes_eq, ◌↔◌, refl, sym, ◌∙◌, ap, true≢false}
use Rattle.std.proofs.lemmas.List.{take-append-drop, take_more, take-map, map-append}
use Rattle.std.specs.Option.{option_map}
use Rattle.text_laws.specs.Numbers.{number_in, signed_in}
use Rattle.roam_num.specs.Places.{thousandths_in}
use Rattle.run_words.specs.declared.table.Wanted.{Wanted}
use Rattle.run_words.specs.declared.table.Wanted.TheVariants as want
use Rattle.run_words.specs.Table.{Row, commands, tasks, goals, row_of}
use Rattle.run_words.specs.Words.{is_prefix, number_word, greatest_level, greatest_seed, budget_word, tolerance_word}
use Rattle.run_words.specs.Words.{spacing_word, error_word, coordinate_word, Found, nothing, fill, State, state, chosen}
use Rattle.run_words.specs.Words.{may_stand, step, walk, start, first_wanted, command_at}
use Rattle.run_words.specs.Words.{command_of, Command, BeginsCommand, BeginsNoCommand}

-- no words go on where one was wrong
walk-none : (ws : List (List ℕ)) → walk None ws ≡ None
walk-none [] = refl
walk-none (w ∷ ws) = walk-none ws

walk-append : (s : Option State) (vs ws : List (List ℕ)) → walk s (vs ++ ws) ≡ walk (walk s vs) ws
walk-append s [] ws = refl
walk-append s (v ∷ vs) ws = walk-append (step s v) vs ws

-- a word that fits
abbrev fitting : Wanted → List ℕ
fitting want.Prefix = codes "o"
fitting want.Budget = codes "2"
fitting want.Keep = codes "keep"
fitting x = codes "1"

-- words that lead from a stage to the end
abbrev ending : List Wanted → List (List ℕ)
ending [] = []
ending (want.Command ∷ xs) = codes "info" ∷ (codes "g" ∷ [])
ending (want.Task ∷ xs) = codes "make-fit" ∷ (codes "g" ∷ (codes "budget" ∷ (codes "2" ∷ (codes "1" ∷ []))))
ending (want.Goal ∷ xs) = codes "budget" ∷ (codes "2" ∷ (codes "1" ∷ []))
ending (x ∷ xs) = fitting x ∷ ending xs

ends : (xs : List Wanted) (f : Found) → is_some (command_at (walk (Some (state f xs)) (ending xs))) ≡ true
unfolding number_in signed_in thousandths_in
ends [] f = refl
ends (want.Command ∷ xs) f = refl
ends (want.Task ∷ xs) f = refl
ends (want.Goal ∷ xs) f = refl
ends (x ∷ xs) f = ends xs _

-- Whether a word fits its place does not depend on what was found before.

mapped : {A B C : Type 0} (f : A → B) (g : A → C) (o : Option A) → is_some (option_map f o) ≡ is_some (option_map g o)
mapped f g (Some a) = refl
mapped f g None = refl

tested : {A : Type 0} (a b : A) (t : Bool) → is_some (if t then Some a else None) ≡ is_some (if t then Some b else None)
tested a b true = refl
tested a b false = refl

fill-fits : (x : Wanted) (w : List ℕ) (f g : Found) → is_some (fill x w f) ≡ is_some (fill x w g)
fill-fits want.Prefix w f g = tested _ _ (is_prefix w)
fill-fits want.Keep w f g = tested _ _ (bytes_eq w (codes "keep"))
fill-fits want.X w f g = mapped _ _ (coordinate_word w)
fill-fits want.Y w f g = mapped _ _ (coordinate_word w)
fill-fits want.Z w f g = mapped _ _ (coordinate_word w)
fill-fits want.Level w f g = mapped _ _ (number_word 1 greatest_level w)
fill-fits want.Seed w f g = mapped _ _ (number_word 0 greatest_seed w)
fill-fits want.Budget w f g = mapped _ _ (budget_word w)
fill-fits want.Error w f g = mapped _ _ (error_word w)
fill-fits want.Tolerance w f g = mapped _ _ (tolerance_word w)
fill-fits want.Spacing w f g = mapped _ _ (spacing_word w)
fill-fits x w f g = refl

chosen-fits : (f g : Found) (r : Option Row) → is_some (chosen f r) ≡ is_some (chosen g r)
chosen-fits f g (Some r) = refl
chosen-fits f g None = refl

some-mapped : {A B : Type 0} (f : A → B) (o : Option A) → is_some (option_map f o) ≡ is_some o
some-mapped f (Some a) = refl
some-mapped f None = refl

place-fits : (x : Wanted) (xs : List Wanted) (f : Found) (w : List ℕ) →
    is_some (option_map (λ g. state g xs) (fill x w f)) ≡ is_some (option_map (λ g. state g []) (fill x w nothing))
place-fits x xs f w =
    some-mapped (λ g. state g xs) (fill x w f) ∙ fill-fits x w f nothing
    ∙ sym (some-mapped (λ g. state g []) (fill x w nothing))

-- a word fits exactly where the walk goes on behind it
step-fits : (xs : List Wanted) (f : Found) (w : List ℕ) →
    is_some (step (Some (state f xs)) w) ≡ may_stand (first_wanted xs) w
step-fits [] f w = refl
step-fits (want.Command ∷ xs) f w = chosen-fits f nothing (row_of commands w)
step-fits (want.Task ∷ xs) f w = chosen-fits f nothing (row_of tasks w)
step-fits (want.Goal ∷ xs) f w = chosen-fits f nothing (row_of goals w)
step-fits (x ∷ xs) f w = place-fits x xs f w

-- words behind which something may stand begin a command, and no others do
pub begins : (ws : List (List ℕ)) (s : State) → walk start ws ≡ Some s → BeginsCommand ws
begins ws s h = (
  ending s.stage,
  ap (λ t. is_some (command_at t)) (walk-append start ws (ending s.stage) ∙ ap (λ t. walk t (ending s.stage)) h)
      ∙ ends s.stage s.found,
)

pub begins-none : (ws : List (List ℕ)) → walk start ws ≡ None → BeginsNoCommand ws
begins-none ws h behind =
    ap command_at (walk-append start ws behind ∙ ap (λ s. walk s behind) h ∙ walk-none behind)

-- what is wanted behind words is what goes on to a command
pub begins-wanted : (ws : List (List ℕ)) (s : State) (w : List ℕ) → walk start ws ≡ Some s
    → BeginsCommand (ws ++ w ∷ []) ↔ IsTrue (may_stand (first_wanted s.stage) w)
begins-wanted ws s w h = (there, back)
  where
    one_more : walk start (ws ++ w ∷ []) ≡ step (Some s) w
    one_more = walk-append start ws (w ∷ []) ∙ ap (λ t. step t w) h

    there : BeginsCommand (ws ++ w ∷ []) → IsTrue (may_stand (first_wanted s.stage) w)
    there b = sym (step-fits s.stage s.found w)
        ∙ is_going (step (Some s) w) (λ e. some-none (begins-none (ws ++ w ∷ []) (one_more ∙ e) b.0) b.1)
      where
        is_going : (t : Option State) → (t ≡ None → ⊥) → is_some t ≡ true
        is_going (Some t) e = refl
        is_going None e = absurd (e refl)

        some-none : {c : Option Command} → c ≡ None → IsTrue (is_some c) → ⊥
        some-none e t = true≢false (sym t ∙ ap is_some e)

    back : IsTrue (may_stand (first_wanted s.stage) w) → BeginsCommand (ws ++ w ∷ [])
    back t = goes (step (Some s) w) refl (step-fits s.stage s.found w ∙ t)
      where
        goes : (o : Option State) → step (Some s) w ≡ o → is_some o ≡ true → BeginsCommand (ws ++ w ∷ [])
        goes (Some next) e u = begins (ws ++ w ∷ []) next (one_more ∙ e)
        goes None e u = absurd (true≢false (sym u))

-- words that begin with some that begin no command are none
pub no-command-behind : (k : ℕ) (ws : List (List ℕ)) → BeginsNoCommand (take k ws) → command_of ws ≡ None
no-command-behind k ws h = ap command_of (sym (take-append-drop k ws)) ∙ h (drop k ws)

-- the walk goes on by one word
pub one-more : {A : Type 0} (f : A → List ℕ) (ws : List A) (k : ℕ) (w : A) (s : State) (behind : Option State)
    → k < length ws → w ≡ get_or ws k w → walk start (map f (take k ws)) ≡ Some s → step (Some s) (f w) ≡ behind
    → walk start (map f (take (k + 1) ws)) ≡ behind
one-more f ws k w s behind inside is before goes =
    ap (λ l. walk start (map f l)) (take_more ws k w inside)
    ∙ ap (walk start) (map-append f (take k ws) (get_or ws k w ∷ []))
    ∙ walk-append start (map f (take k ws)) (f (get_or ws k w) ∷ [])
    ∙ ap (λ t. step t (f (get_or ws k w))) before
    ∙ ap (λ v. step (Some s) (f v)) (sym is) ∙ goes

-- the same, told of the texts
pub of-texts : {A : Type 0} (f : A → List ℕ) (ws : List A) (k : ℕ) (s : Option State) →
    walk start (map f (take k ws)) ≡ s → walk start (take k (map f ws)) ≡ s
of-texts f ws k s h = ap (walk start) (take-map f k ws) ∙ h
