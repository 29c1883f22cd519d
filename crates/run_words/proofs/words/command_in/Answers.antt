use Rattle.std.proofs.Common.{◌≡◌, ◌↔◌, ◌++◌, ◌+◌, ◌<◌, ℕ, List, [], ◌∷◌, Some, None, IsTrue, map, take, length}
use Rattle.std.proofs.Common.{string_bytes, sym, subst, ◌∙◌, ap, arith}
use Rattle.run_words.specs.Words.{State, state, step, walk, start, BeginsCommand, may_stand}
use Rattle.run_words.specs.FoundView.{found_seen}
use Rattle.run_words.proofs.WordLemmas.{begins, begins-none, begins-wanted, no-command-behind, one-more, of-texts}
use Rattle.run_words.proofs.words.command_in.Goals as goal

-- a word behind which something is wanted
pub loop-place-preserved : goal.loop-place-preserved
loop-place-preserved c =
    let inside : c.loop-place.place < length c.args.words.now = omega arith in
    let before : State = state (found_seen c.loop-place.found) c.loop-place.stage.now in
    let behind : State = state (found_seen c.stage_behind.new.found) c.in-Some.behind.now in
    let goes : step (Some before) (string_bytes c.index-words-place.result) ≡ Some behind =
    ap (λ w. step (Some before) w) (sym c.as_str.ensures.value) ∙ sym c.in-Some.ensures.value in (
      one-more string_bytes c.args.words.now c.loop-place.place c.index-words-place.result before (Some behind)
          inside c.index-words-place.is c.loop-place.invariant.0 goes,
      c.in-Some.ensures.bounds,
    )

-- a word that is wrong
gone : (c : goal.After-first_of) →
    walk start (take (c.loop-place.place + 1) (map string_bytes c.args.words.now)) ≡ None
gone c =
    let inside : c.loop-place.place < length c.args.words.now = omega arith in
    let before : State = state (found_seen c.loop-place.found) c.loop-place.stage.now in
    let goes : step (Some before) (string_bytes c.index-words-place.result) ≡ None =
    ap (λ w. step (Some before) w) (sym c.as_str.ensures.value) ∙ sym c.in-None.ensures.value in
    of-texts string_bytes c.args.words.now (c.loop-place.place + 1) None
    (one-more string_bytes c.args.words.now c.loop-place.place c.index-words-place.result before None
    inside c.index-words-place.is c.loop-place.invariant.0 goes)

-- the words before it
before_it : (c : goal.After-first_of) → walk start (take c.loop-place.place (map string_bytes c.args.words.now))
    ≡ Some (state (found_seen c.loop-place.found) c.loop-place.stage.now)
before_it c = of-texts string_bytes c.args.words.now c.loop-place.place _ c.loop-place.invariant.0

pub returns-in-None-clause-none : goal.returns-in-None-clause-none
returns-in-None-clause-none c =
    let texts : List (List ℕ) = map string_bytes c.args.words.now in
    no-command-behind (c.loop-place.place + 1) texts
    (begins-none (take (c.loop-place.place + 1) texts) (gone c))

pub returns-in-None-clause-first : goal.returns-in-None-clause-first
returns-in-None-clause-first c =
    begins (take c.loop-place.place (map string_bytes c.args.words.now)) _ (before_it c)

pub returns-in-None-clause-wrong : goal.returns-in-None-clause-wrong
returns-in-None-clause-wrong c =
    λ inside. begins-none (take (c.loop-place.place + 1) (map string_bytes c.args.words.now)) (gone c)

pub returns-in-None-clause-wanted : goal.returns-in-None-clause-wanted
returns-in-None-clause-wanted c =
    let words : List (List ℕ) = take c.loop-place.place (map string_bytes c.args.words.now) in
    λ word.
    subst (λ o. BeginsCommand (words ++ word ∷ []) ↔ IsTrue (may_stand o word)) (sym c.first_of.ensures)
    (begins-wanted words (state (found_seen c.loop-place.found) c.loop-place.stage.now) word (before_it c))

-- all words, of which the last one is right
at_end : (c : goal.In-Some-needed_of) →
    walk start (take (length c.args.words.now) (map string_bytes c.args.words.now))
    ≡ Some (state (found_seen c.loop-place.found) c.loop-place.stage.now)
at_end c =
    let last : c.loop-place.place ≡ length c.args.words.now = omega arith in
    subst (λ k. walk start (take k (map string_bytes c.args.words.now))
    ≡ Some (state (found_seen c.loop-place.found) c.loop-place.stage.now)) last
    (of-texts string_bytes c.args.words.now c.loop-place.place _ c.loop-place.invariant.0)

pub returns-in-Some-needed_of-clause-first : goal.returns-in-Some-needed_of-clause-first
returns-in-Some-needed_of-clause-first c =
    begins (take (length c.args.words.now) (map string_bytes c.args.words.now)) _ (at_end c)

pub returns-in-Some-needed_of-clause-wanted : goal.returns-in-Some-needed_of-clause-wanted
returns-in-Some-needed_of-clause-wanted c =
    let words : List (List ℕ) = take (length c.args.words.now) (map string_bytes c.args.words.now) in
    λ word.
    subst (λ o. BeginsCommand (words ++ word ∷ []) ↔ IsTrue (may_stand o word)) c.in-Some-needed_of.ensures.wanted
    (begins-wanted words (state (found_seen c.loop-place.found) c.loop-place.stage.now) word (at_end c))
