-- A reader of headers: the machine, with places and the limit of length, and then the tests of the values.
--
-- Words: HeaderProgress, unfit, whole_answer, after_step, run, resume_header, header_of, header_taken.
use Rattle.std.specs.Prelude.{ℕ, ◌+◌, ◌==◌, nat_lt, if◌then◌else◌, List, [], ◌∷◌, Result, Ok, Err}
use Rattle.pgm_grid.specs.declared.header_reader.TheConstants.{LAST_PLACE}
use Rattle.pgm_grid.specs.declared.accepted_header.Header.{Header}
use Rattle.pgm_grid.specs.declared.header_fault.HeaderFault.{HeaderFault}
use Rattle.pgm_grid.specs.declared.header_fault.HeaderFault.TheVariants.{BadMagic, BadHeader, HeaderTooLong}
use Rattle.pgm_grid.specs.declared.header_machine.State.{State}
use Rattle.pgm_grid.specs.declared.header_machine.State.TheVariants.{Start}
use Rattle.pgm_grid.specs.declared.header_machine.Step.{Step}
use Rattle.pgm_grid.specs.declared.header_machine.Step.TheVariants.{Goes, Ends, Fails}
use Rattle.pgm_grid.specs.AcceptedHeader.{HeaderAnswer, Part, Whole, Bad, judged}
use Rattle.pgm_grid.specs.HeaderMachine.{step_of}

-- what a reader has come to: the state of the machine, and the place of the next byte
pub record HeaderProgress : Type 0 where
  pub state : State
  pub place : ℕ

-- the refusal of a byte at this place that continues no header
abbrev pub unfit : ℕ → HeaderFault
unfit place = if nat_lt place 2 then BadMagic else BadHeader place

-- the answer where a header has ended, and this follows it
abbrev pub whole_answer : Result Header HeaderFault → List ℕ → HeaderAnswer
whole_answer (Ok header) rest = Whole header rest
whole_answer (Err fault) rest = Bad fault

-- the answer after the step of the byte at this place, where these follow, and a state answers as told
abbrev pub after_step : Step → ℕ → List ℕ → (State → HeaderAnswer) → HeaderAnswer
after_step (Goes state) place more within = if place == LAST_PLACE then Bad HeaderTooLong else within state
after_step (Ends values) place more within = whole_answer (judged values) more
after_step Fails place more within = Bad (unfit place)

-- the answer for these bytes, from a state and a place
abbrev pub run : List ℕ → State → ℕ → HeaderAnswer
run [] state place = Part
run (byte ∷ more) state place = after_step (step_of state byte) place more (λ next. run more next (place + 1))

-- what a reader answers if exactly these bytes still come
unfoldable pub resume_header : HeaderProgress → List ℕ → HeaderAnswer
resume_header reader more = run more reader.state reader.place

-- what the bytes mean from their beginning
unfoldable pub header_of : List ℕ → HeaderAnswer
header_of bytes = run bytes Start 0

-- how many bytes a reader has taken
unfoldable pub header_taken : HeaderProgress → ℕ
header_taken reader = reader.place
