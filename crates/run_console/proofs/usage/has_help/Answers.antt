-- The test of a word is one of its bytes.
use Rattle.std.proofs.Common.{◌≡◌, ◌∙◌, ◌||◌, Bool, List, [], ◌∷◌, map, string_bytes, refl, rules, tests, ap}
use Rattle.std.specs.List.{list_any}
use Rattle.std.proofs.lemmas.Iterator.{YieldsList-from_slice}
use Rattle.std.proofs.lemmas.Iterator.Search.{any_from_yields_List}
use Rattle.run_console.specs.Asked.{is_help}
use Rattle.run_console.proofs.usage.has_help.Goals as goal

-- a test of what stands for each element
any-map : {A B : Type 0} (f : A → B) (test : B → Bool) (xs : List A) →
    list_any (λ x. test (f x)) xs ≡ list_any test (map f xs)
any-map f test [] = refl
any-map f test (x ∷ xs) = ap (λ b. test (f x) || b) (any-map f test xs)

pub returns : goal.returns
returns c =
    any_from_yields_List (λ w. is_help (string_bytes w)) _ _ c.any.result c.any.ensures.ran
    (YieldsList-from_slice c.args.words.now cc) (λ x b q k. search (rules, tests))
    ∙ any-map string_bytes is_help c.args.words.now
