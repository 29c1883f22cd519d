-- A call on a handle: what it does to the value of one that has a value of the call's kind, and what it answers of
-- another. All of it is this project's own.
-- Words: IsNumberOfSome, OnKept, OnOther, OnFull, OnEmpty.
use Rattle.std.specs.Prelude.{◌≡◌, ◌≢◌, Option, None, Some, ℤ}
use Rattle.frame_loop.specs.Engine.{EngineState}
use Rattle.roam_embed.specs.declared.answer.Answer.{Answer}
use Rattle.roam_embed.specs.declared.answer.Answer.TheVariants.{IsEmpty}
use Rattle.roam_embed.specs.Answer.{number_of}
use Rattle.roam_c.specs.declared.kept.Kept.{Kept}
use Rattle.roam_c.specs.declared.kept.Kept.TheVariants.{Engine}

-- the number is that of some answer of which this holds
abbrev pub IsNumberOfSome : ℤ → (Answer → Type 0) → Type 0
IsNumberOfSome number Holds = (answer : Answer) × (number ≡ number_of answer) × Holds answer

-- A handle that keeps a value of this kind goes on keeping one: the call does this to it and gives an answer, whose
-- number is the result.
abbrev pub OnKept : {X : Type 0} → (X → Kept) → Option Kept → Option Kept → ℤ → (X → X → Answer → Type 0) → Type 0
OnKept {X} Of before after number Does =
    (was : X) → before ≡ Some (Of was) →
    (now : X) × (answer : Answer) × (after ≡ Some (Of now)) × (number ≡ number_of answer) × Does was now answer

-- A handle that is empty, or keeps a value of another kind, stays as it is: the result is the number of the answer that
-- says so, and this holds too.
abbrev pub OnOther : {X : Type 0} → (X → Kept) → Option Kept → Option Kept → ℤ → Type 0 → Type 0
OnOther {X} Of before after number Also =
    ((x : X) → before ≢ Some (Of x)) → (after ≡ before) × (number ≡ number_of IsEmpty) × Also

-- A full handle of an engine stays full.
abbrev pub OnFull : Option Kept → Option Kept → ℤ → (EngineState → EngineState → Answer → Type 0) → Type 0
OnFull = OnKept Engine

-- A handle without an engine stays as it is.
abbrev pub OnEmpty : Option Kept → Option Kept → ℤ → Type 0 → Type 0
OnEmpty = OnOther Engine
