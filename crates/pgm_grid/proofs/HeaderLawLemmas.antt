-- What bytes mean: the laws of `Laws`.
use Rattle.std.proofs.Common.{◌≡◌, ◌≢◌, ℕ, ◌+◌, ◌<◌, ◌≤◌, ◌⊎◌, Bool, true, false, cond, ◌==◌, nat_lt, List, [], ◌∷◌}
use Rattle.std.proofs.Common.{◌++◌, length, take, drop, get_or, Some, None, Result, Ok, Err, refl, sym, ap, ap₂, ◌∙◌}
use Rattle.std.proofs.Common.{inl, inr, subst, arith, length-append, append_assoc, append-nil, take-append-drop}
use Rattle.std.proofs.lemmas.Bool.{cond_both, cases_lt, cases_eq, lt-ltb, le-ltb, ltb-true, ltb-false}
use Rattle.std.proofs.lemmas.List.{length_push, take_at, take-append-le, drop_more, take_more, length-take-le}
use Rattle.text_laws.proofs.ListLemmas.{last-same}
use Rattle.mesh_defs.specs.HeightField.{side_of}
use Rattle.pgm_grid.specs.declared.accepted_header.Header.{Header}
use Rattle.pgm_grid.specs.declared.header_fault.HeaderFault.{HeaderFault}
use Rattle.pgm_grid.specs.declared.header_fault.HeaderFault.TheVariants.{BadMagic, BadHeader, HeaderTooLong, BadMaxval}
use Rattle.pgm_grid.specs.declared.header_fault.HeaderFault.TheVariants.{NotSquare, BadSide}
use Rattle.pgm_grid.specs.declared.header_machine.HeaderValues.{HeaderValues}
use Rattle.pgm_grid.specs.declared.header_machine.State.{State}
use Rattle.pgm_grid.specs.declared.header_machine.State.TheVariants.{Start}
use Rattle.pgm_grid.specs.declared.header_machine.Step.{Step}
use Rattle.pgm_grid.specs.declared.header_machine.Step.TheVariants.{Goes, Ends, Fails}
use Rattle.pgm_grid.specs.HeaderText.{IsHeaderText, IsHeaderPrefix, IsProperPrefix, IsUnfitAt, BeginsWithHeader}
use Rattle.pgm_grid.specs.AcceptedHeader.{IsLevel, IsMaxval, Accepts, judged, HeaderAnswer, Part, Whole, Bad}
use Rattle.pgm_grid.specs.HeaderMachine.{step_of}
use Rattle.pgm_grid.specs.HeaderReading.{unfit, whole_answer, after_step, run, header_of}
use Rattle.pgm_grid.specs.HeaderLaws.{HeaderTextsAreRead, ReadTextsAreHeaders, NoTextGoesOn, PartsArePrefixes}
use Rattle.pgm_grid.specs.HeaderLaws.{HeadersRefuseBadMagics, HeadersRefuseBadBytes, HeadersRefuseTooMuch}
use Rattle.pgm_grid.specs.HeaderLaws.{HeadersRefuseBadMaxvals, HeadersRefuseOblongs, HeadersRefuseBadSides}
use Rattle.pgm_grid.specs.HeaderLaws.{ReadHeadersStand, RefusalsStand}
use Rattle.pgm_grid.proofs.HeaderMachineLemmas.{walk, walk_step, walk-append, walk_split, walked_text, walked_front}
use Rattle.pgm_grid.proofs.HeaderMachineLemmas.{complete, front_walked}
use Rattle.pgm_grid.proofs.HeaderReadingLemmas.{run_goes, run_long, run_ends, run_fails}
use Rattle.pgm_grid.proofs.AcceptedHeaderLemmas.{JudgedAs, judges, accepted_as, maxval_as, oblong_as, side_as}

-- Runs over walks.

-- within the limit
run_on : (x : ℕ) (a : List ℕ) (s t : State) (place : ℕ) (more : List ℕ) (r : Step) → step_of s x ≡ r
    → ((u : State) → walk a u ≡ Some t → run (a ++ more) u (place + 1) ≡ run more t (place + 1 + length a))
    → walk (x ∷ a) s ≡ Some t → place + length (x ∷ a) ≤ 65535 →
    run (x ∷ (a ++ more)) s place ≡ run more t (place + length (x ∷ a))
run_on x a s t place more (Goes u) e again w room =
    let rest : walk a u ≡ Some t = sym (walk_step s u x a e) ∙ w in
    let at : place + 1 + length a ≡ place + length (x ∷ a) = omega arith in
    run_goes s u place x (a ++ more) e (λ last. omega arith) ∙ again u rest ∙ ap (run more t) at
run_on x a s t place more (Ends v) e again w room = let stuck : walk (x ∷ a) s ≡ None = rw e refl in absurd (cc)
run_on x a s t place more Fails e again w room = let stuck : walk (x ∷ a) s ≡ None = rw e refl in absurd (cc)

run_walk : (a : List ℕ) (s t : State) (place : ℕ) (more : List ℕ) → walk a s ≡ Some t → place + length a ≤ 65535 →
    run (a ++ more) s place ≡ run more t (place + length a)
run_walk [] s t place more w room =
    let same : s ≡ t = cc in
    ap₂ (λ (u : State) (k : ℕ). run more u k) same (omega arith)
run_walk (x ∷ a) s t place more w room =
    run_on x a s t place more (step_of s x) refl (λ u e. run_walk a u t (place + 1) more e (omega arith)) w room

-- beyond it
over_on : (x : ℕ) (a : List ℕ) (s t : State) (place : ℕ) (more : List ℕ) (r : Step) → step_of s x ≡ r
    → ((u : State) → walk a u ≡ Some t → place + 1 ≤ 65535 → run (a ++ more) u (place + 1) ≡ Bad HeaderTooLong)
    → walk (x ∷ a) s ≡ Some t → place ≤ 65535 → run (x ∷ (a ++ more)) s place ≡ Bad HeaderTooLong
over_on x a s t place more (Goes u) e again w low =
    let rest : walk a u ≡ Some t = sym (walk_step s u x a e) ∙ w in
    elim (cases_eq place 65535) as (λ _. run (x ∷ (a ++ more)) s place ≡ Bad HeaderTooLong) [
      | inl last ↦ run_long s u place x (a ++ more) e last
      | inr on ↦ run_goes s u place x (a ++ more) e on ∙ again u rest (omega arith)
    ]
over_on x a s t place more (Ends v) e again w low = let stuck : walk (x ∷ a) s ≡ None = rw e refl in absurd (cc)
over_on x a s t place more Fails e again w low = let stuck : walk (x ∷ a) s ≡ None = rw e refl in absurd (cc)

run_over : (a : List ℕ) (s t : State) (place : ℕ) (more : List ℕ) → walk a s ≡ Some t → place ≤ 65535 →
    65535 < place + length a → run (a ++ more) s place ≡ Bad HeaderTooLong
run_over [] s t place more w low high = absurd (omega arith)
run_over (x ∷ a) s t place more w low high =
    over_on x a s t place more (step_of s x) refl
    (λ u e next. run_over a u t (place + 1) more e next (omega arith)) w low

-- From the beginning: the prefix of the bytes is walked over, and then comes a byte.

-- the bytes, and nothing more
of_front : (bytes : List ℕ) (t : State) → walk bytes Start ≡ Some t → length bytes < 65536 → header_of bytes ≡ Part
unfolding header_of
of_front bytes t w short =
    ap (λ (x : List ℕ). run x Start 0) (sym (append-nil bytes)) ∙ run_walk bytes Start t 0 [] w (omega arith)

-- more than 65,535 bytes are walked over
of_long : (bytes front rest : List ℕ) (t : State) → bytes ≡ front ++ rest → walk front Start ≡ Some t →
    65536 ≤ length front → header_of bytes ≡ Bad HeaderTooLong
unfolding header_of
of_long bytes front rest t e w long =
    ap (λ (x : List ℕ). run x Start 0) e ∙ run_over front Start t 0 rest w (omega arith) (omega arith)

-- a byte ends the header
of_whole : (bytes front rest : List ℕ) (b : ℕ) (t : State) (v : HeaderValues) → bytes ≡ front ++ b ∷ rest →
    walk front Start ≡ Some t → length front < 65536 → step_of t b ≡ Ends v
    → header_of bytes ≡ whole_answer (judged v) rest
unfolding header_of
of_whole bytes front rest b t v e w short ends =
    ap (λ (x : List ℕ). run x Start 0) e ∙ run_walk front Start t 0 (b ∷ rest) w (omega arith)
    ∙ run_ends t v (0 + length front) b rest ends

-- a byte continues none
of_unfit : (bytes front rest : List ℕ) (b : ℕ) (t : State) → bytes ≡ front ++ b ∷ rest → walk front Start ≡ Some t →
    length front < 65536 → step_of t b ≡ Fails
    → header_of bytes ≡ Bad (unfit (length front))
unfolding header_of
of_unfit bytes front rest b t e w short fails =
    ap (λ (x : List ℕ). run x Start 0) e ∙ run_walk front Start t 0 (b ∷ rest) w (omega arith)
    ∙ run_fails t (0 + length front) b rest fails
    ∙ ap (λ (k : ℕ). Bad (unfit k)) (omega arith)

-- How bytes are walked over: to their end, or to a byte that stops the walk.

record Stopped (s : State) (bytes : List ℕ) : Type 0 where
  front : List ℕ
  byte : ℕ
  rest : List ℕ
  state : State
  text : bytes ≡ front ++ byte ∷ rest
  walked : walk front s ≡ Some state
  stops : (t : State) → step_of state byte ≡ Goes t → ⊥

abbrev Parse : State → List ℕ → Type 0
Parse s bytes = ((t : State) × (walk bytes s ≡ Some t)) ⊎ Stopped s bytes

parse_on : (b : ℕ) (more : List ℕ) (s : State) (r : Step) → step_of s b ≡ r →
    ((u : State) → Parse u more) → Parse s (b ∷ more)
parse_on b more s (Goes u) e again =
    elim (again u) as (λ _. Parse s (b ∷ more)) [
      | inl w ↦ inl (w.0, walk_step s u b more e ∙ w.1)
      | inr w ↦ inr (record {
        front = b ∷ w.front;
        byte = w.byte;
        rest = w.rest;
        state = w.state;
        text = ap (λ (t : List ℕ). b ∷ t) w.text;
        walked = walk_step s u b w.front e ∙ w.walked;
        stops = w.stops;
      })
    ]
parse_on b more s (Ends v) e again =
    inr (record { front = []; byte = b; rest = more; state = s; text = refl; walked = refl; stops = λ t goes. cc })
parse_on b more s Fails e again =
    inr (record { front = []; byte = b; rest = more; state = s; text = refl; walked = refl; stops = λ t goes. cc })

parse : (bytes : List ℕ) (s : State) → Parse s bytes
parse [] s = inl (s, refl)
parse (b ∷ more) s = parse_on b more s (step_of s b) refl (λ u. parse more u)

-- What an answer means.

abbrev Means : List ℕ → HeaderAnswer → Type 0
Means bytes Part = IsProperPrefix bytes × (length bytes < 65536)
Means bytes (Whole header rest) =
    (text : List ℕ) × (values : HeaderValues) × IsHeaderText text values × (length text ≤ 65536) × Accepts values header
    × (bytes ≡ text ++ rest)
Means bytes (Bad BadMagic) = (place : ℕ) × (place < 2) × IsUnfitAt bytes place
Means bytes (Bad (BadHeader place)) = (2 ≤ place) × (place < 65536) × IsUnfitAt bytes place
Means bytes (Bad HeaderTooLong) = (65536 ≤ length bytes) × IsProperPrefix (take 65536 bytes)
Means bytes (Bad BadMaxval) = (values : HeaderValues) × BeginsWithHeader bytes values × ¬ IsMaxval values.maxval
Means bytes (Bad NotSquare) =
    (values : HeaderValues) × BeginsWithHeader bytes values × IsMaxval values.maxval × (values.width ≢ values.height)
Means bytes (Bad BadSide) =
    (values : HeaderValues) × BeginsWithHeader bytes values × IsMaxval values.maxval × (values.width ≡ values.height)
    × ((n : ℕ) → IsLevel n → values.width ≢ side_of n)

-- a whole header, and the tests of its values
means_whole : (bytes text rest : List ℕ) (v : HeaderValues) → IsHeaderText text v → length text ≤ 65536 →
    bytes ≡ text ++ rest → (r : Result Header HeaderFault) → JudgedAs v r → Means bytes (whole_answer r rest)
means_whole bytes text rest v is short e (Ok h) j = (text, v, is, short, j, e)
means_whole bytes text rest v is short e (Err BadMaxval) j =
    (v, record { header = text; rest = rest; is_text = is; short = short; text = e }, j)
means_whole bytes text rest v is short e (Err NotSquare) j =
    (v, record { header = text; rest = rest; is_text = is; short = short; text = e }, j.0, j.1)
means_whole bytes text rest v is short e (Err BadSide) j =
    (v, record { header = text; rest = rest; is_text = is; short = short; text = e }, j.0, j.1, j.2)
means_whole bytes text rest v is short e (Err BadMagic) j = absurd j
means_whole bytes text rest v is short e (Err (BadHeader at)) j = absurd j
means_whole bytes text rest v is short e (Err HeaderTooLong) j = absurd j

-- a longer prefix of bytes that are walked over to their end, or to a stop
means_long : (bytes front rest : List ℕ) (t : State) → bytes ≡ front ++ rest → walk front Start ≡ Some t →
    65536 ≤ length front → Means bytes (header_of bytes)
means_long bytes front rest t e w long =
    let cut : take 65536 bytes ≡ take 65536 front = ap (take 65536) e ∙ take-append-le 65536 front rest long in
    let parts = walk_split (take 65536 front) (drop 65536 front) Start t
    (ap (λ (x : List ℕ). walk x Start) (take-append-drop 65536 front) ∙ w) in
    let size : length bytes ≡ length front + length rest = ap length e ∙ length-append front rest in
    subst (Means bytes) (sym (of_long bytes front rest t e w long))
    (omega arith, subst IsProperPrefix (sym cut) (walked_front (take 65536 front) parts.0 parts.1))

-- Where a walk stops.

stuck_ends : (s : State) (b : ℕ) (more : List ℕ) (v : HeaderValues) → step_of s b ≡ Ends v → walk (b ∷ more) s ≡ None
stuck_ends s b more v e = rw e refl

stuck_fails : (s : State) (b : ℕ) (more : List ℕ) → step_of s b ≡ Fails → walk (b ∷ more) s ≡ None
stuck_fails s b more e = rw e refl

-- a text is walked over in one way
one_walk : (front : List ℕ) (b : ℕ) (t : State) (v : HeaderValues) → walk front Start ≡ Some t →
    IsHeaderText (front ++ b ∷ []) v → step_of t b ≡ Ends v
one_walk front b t v w is =
    let c = complete (front ++ b ∷ []) v is in
    let same = last-same front c.front b c.last c.text in
    let states : Some t ≡ Some c.state = sym w ∙ ap (λ (x : List ℕ). walk x Start) same.0 ∙ c.walked in
    let state : t ≡ c.state = cc in
    ap₂ (λ (s : State) (x : ℕ). step_of s x) state same.1 ∙ c.ends

-- a walk over a whole text goes on nowhere
no_text : (bytes : List ℕ) (t : State) (v : HeaderValues) → walk bytes Start ≡ Some t → IsHeaderText bytes v → ⊥
no_text bytes t v w is =
    let c = complete bytes v is in
    let stuck : walk (c.front ++ c.last ∷ []) Start ≡ None =
    walk-append c.front (c.last ∷ []) Start c.state c.walked ∙ stuck_ends c.state c.last [] v c.ends in
    let clash : Some t ≡ None = sym w ∙ ap (λ (x : List ℕ). walk x Start) c.text ∙ stuck in cc

-- after a byte that fails the bytes begin no text
no_front : (front : List ℕ) (b : ℕ) (t : State) (rest : List ℕ) (v : HeaderValues) → walk front Start ≡ Some t →
    step_of t b ≡ Fails → IsHeaderText ((front ++ b ∷ []) ++ rest) v → ⊥
no_front front b t [] v w fails is =
    let ends : step_of t b ≡ Ends v =
    one_walk front b t v w (subst (λ (x : List ℕ). IsHeaderText x v) (append-nil (front ++ b ∷ [])) is) in
    let clash : Fails ≡ Ends v = sym fails ∙ ends in cc
no_front front b t (x ∷ rest) v w fails is =
    let again = front_walked (front ++ b ∷ []) (x ∷ rest, v, omega arith, is) in
    let clash : Some again.0 ≡ None = sym again.1 ∙ walk-append front (b ∷ []) Start t w ∙ stuck_fails t b [] fails in
    cc

-- The meaning of each answer.

means_unfit : (bytes : List ℕ) (k : ℕ) → k < 65536 → IsUnfitAt bytes k → Means bytes (Bad (unfit k))
means_unfit bytes k short u =
    cond_both (nat_lt k 2) BadMagic (BadHeader k) (λ f. Means bytes (Bad f)) (λ e. (k, ltb-true k 2 e, u))
    (λ e. (ltb-false k 2 e, short, u))

means_stop : (bytes front rest : List ℕ) (b : ℕ) (t : State) (r : Step) → step_of t b ≡ r → bytes ≡ front ++ b ∷ rest →
    walk front Start ≡ Some t → length front < 65536
    → ((u : State) → step_of t b ≡ Goes u → ⊥) → Means bytes (header_of bytes)
means_stop bytes front rest b t (Goes u) e cut w short stops = absurd (stops u e)
means_stop bytes front rest b t (Ends v) e cut w short stops =
    subst (Means bytes) (sym (of_whole bytes front rest b t v cut w short e))
    (means_whole bytes (front ++ b ∷ []) rest v (walked_text front t b v w e) (omega (arith, length_push front b))
    (cut ∙ sym (append_assoc front (b ∷ []) rest)) (judged v) (judges v))
means_stop bytes front rest b t Fails e cut w short stops =
    let regrouped : bytes ≡ (front ++ b ∷ []) ++ rest = cut ∙ sym (append_assoc front (b ∷ []) rest) in
    let before : take (length front) bytes ≡ front =
    ap (take (length front)) cut ∙ take_at front (b ∷ rest) (length front) refl in
    let upto : take (length front + 1) bytes ≡ front ++ b ∷ [] = ap (take (length front + 1)) regrouped
    ∙ take_at (front ++ b ∷ []) rest (length front + 1) (length_push front b) in
    subst (Means bytes) (sym (of_unfit bytes front rest b t cut w short e))
    (means_unfit bytes (length front) short (record {
      within = omega (arith, ap length cut, length-append front (b ∷ rest));
      good = subst IsProperPrefix (sym before) (walked_front front t w);
      bad = λ is. no_front front b t is.0 is.1 w e (subst (λ (x : List ℕ). IsHeaderText (x ++ is.0) is.1) upto is.2);
    }))

-- what is answered is what the bytes mean
means : (bytes : List ℕ) → Means bytes (header_of bytes)
means bytes =
    elim (parse bytes Start) as (λ _. Means bytes (header_of bytes)) [
      | inl w ↦ elim (cases_lt (length bytes) 65536) as (λ _. Means bytes (header_of bytes)) [
        | inl short ↦ subst (Means bytes) (sym (of_front bytes w.0 w.1 short)) (walked_front bytes w.0 w.1, short)
        | inr long ↦ means_long bytes bytes [] w.0 (sym (append-nil bytes)) w.1 long
      ]
      | inr w ↦ elim (cases_lt (length w.front) 65536) as (λ _. Means bytes (header_of bytes)) [
        | inl short ↦ means_stop bytes w.front w.rest w.byte w.state
            (step_of w.state w.byte) refl w.text w.walked short w.stops
        | inr long ↦ means_long bytes w.front (w.byte ∷ w.rest) w.state w.text w.walked long
      ]
    ]

-- The answer of each meaning.

back_whole : (bytes text rest : List ℕ) (v : HeaderValues) → IsHeaderText text v → length text ≤ 65536 →
    bytes ≡ text ++ rest → header_of bytes ≡ whole_answer (judged v) rest
back_whole bytes text rest v is short e =
    let c = complete text v is in
    let size : length text ≡ length c.front + 1 = ap length c.text ∙ length_push c.front c.last in
    of_whole bytes c.front rest c.last c.state v (e ∙ ap (λ (t : List ℕ). t ++ rest) c.text
    ∙ append_assoc c.front (c.last ∷ []) rest) c.walked (omega arith) c.ends

back_judged : (bytes : List ℕ) (v : HeaderValues) (f : HeaderFault) → BeginsWithHeader bytes v →
    judged v ≡ Err f → header_of bytes ≡ Bad f
back_judged bytes v f w e =
    back_whole bytes w.header w.rest v w.is_text w.short w.text
    ∙ ap (λ (r : Result Header HeaderFault). whole_answer r w.rest) e

back_unfit_on : (bytes : List ℕ) (k b : ℕ) (rest : List ℕ) (t : State) (r : Step) → step_of t b ≡ r →
    bytes ≡ take k bytes ++ b ∷ rest → take (k + 1) bytes ≡ take k bytes ++ b ∷ [] → walk (take k bytes) Start ≡ Some t
    → k < 65536 → IsUnfitAt bytes k → header_of bytes ≡ Bad (unfit k)
back_unfit_on bytes k b rest t (Goes u) e cut upto w short wrong =
    let more : walk (take k bytes ++ b ∷ []) Start ≡ Some u =
    walk-append (take k bytes) (b ∷ []) Start t w ∙ walk_step t u b [] e in
    let proper = walked_front (take k bytes ++ b ∷ []) u more in
    absurd (wrong.bad (subst IsHeaderPrefix (sym upto) (proper.0, proper.1, proper.3)))
back_unfit_on bytes k b rest t (Ends v) e cut upto w short wrong =
    absurd (wrong.bad (subst IsHeaderPrefix (sym upto) (
      [],
      v,
      subst (λ (x : List ℕ). IsHeaderText x v) (sym (append-nil (take k bytes ++ b ∷ [])))
          (walked_text (take k bytes) t b v w e),
    )))
back_unfit_on bytes k b rest t Fails e cut upto w short wrong =
    let size : length (take k bytes) ≡ k = length-take-le k bytes (omega (arith, wrong.within)) in
    of_unfit bytes (take k bytes) rest b t cut w (omega arith) e ∙ ap (λ (i : ℕ). Bad (unfit i)) size

back_unfit : (bytes : List ℕ) (k : ℕ) → k < 65536 → IsUnfitAt bytes k → header_of bytes ≡ Bad (unfit k)
back_unfit bytes k short wrong =
    let w = front_walked (take k bytes) wrong.good in
    let cut : bytes ≡ take k bytes ++ (get_or bytes k 0 ∷ drop (k + 1) bytes) =
    sym (take-append-drop k bytes) ∙ ap (λ (t : List ℕ). take k bytes ++ t) (drop_more bytes k 0 wrong.within) in
    back_unfit_on bytes k (get_or bytes k 0) (drop (k + 1) bytes) w.0 (step_of w.0 (get_or bytes k 0)) refl cut
    (take_more bytes k 0 wrong.within) w.1 short wrong

-- The laws.

-- a header's text that is not too long, with values that are accepted, is read, whatever follows
pub texts : HeaderTextsAreRead
texts = λ text rest v h is short a. back_whole (text ++ rest) text rest v is short refl
    ∙ ap (λ (r : Result Header HeaderFault). whole_answer r rest) (accepted_as v h (judged v) (judges v) a)

-- what is read is such a text, and then what is left
pub read : ReadTextsAreHeaders
read = λ bytes rest h e. subst (Means bytes) e (means bytes)

no_more : (text more : List ℕ) (v o : HeaderValues) → IsHeaderText text v →
    IsHeaderText (text ++ more) o → (more ≡ []) × (o ≡ v)
no_more text [] v o is other =
    let c = complete text v is in
    let ends : step_of c.state c.last ≡ Ends o =
    one_walk c.front c.last c.state o c.walked
    (subst (λ (x : List ℕ). IsHeaderText x o) (append-nil text ∙ c.text) other) in
    let same : Ends o ≡ Ends v = sym ends ∙ c.ends in (refl, cc)
no_more text (x ∷ more) v o is other =
    let w = front_walked text (x ∷ more, o, omega arith, other) in absurd (no_text text w.0 v w.1 is)

-- no header's text goes on as another, and none has two values
pub prefix_free : NoTextGoesOn
prefix_free = no_more

-- bytes are a part of a header exactly where they are a proper prefix of one, and not too long
pub parts : PartsArePrefixes
parts = λ bytes.
    (λ e. subst (Means bytes) e (means bytes), λ w. let t = front_walked bytes w.0 in of_front bytes t.0 t.1 w.1)

-- a bad magic is answered exactly where the first or the second byte continues no header
pub bad_magics : HeadersRefuseBadMagics
bad_magics = λ bytes. (
  λ e. subst (Means bytes) e (means bytes),
  λ w. back_unfit bytes w.0 (omega (arith, w.1)) w.2
      ∙ ap (λ (b : Bool). Bad (cond b BadMagic (BadHeader w.0))) (lt-ltb w.0 2 w.1),
)

-- a bad header is answered exactly at the place of a later byte that continues none
pub bad_headers : HeadersRefuseBadBytes
bad_headers = λ bytes place. (
  λ e. subst (Means bytes) e (means bytes),
  λ w. back_unfit bytes place w.1 w.2 ∙ ap (λ (b : Bool). Bad (cond b BadMagic (BadHeader place))) (le-ltb place 2 w.0),
)

-- a header is too long exactly where as many bytes as it may have are a proper prefix of one
pub long_headers : HeadersRefuseTooMuch
long_headers = λ bytes. (
  λ e. subst (Means bytes) e (means bytes),
  λ w.
      let t = front_walked (take 65536 bytes) w.1 in
      let size : length (take 65536 bytes) ≡ 65536 = length-take-le 65536 bytes w.0 in
      of_long bytes (take 65536 bytes) (drop 65536 bytes) t.0 (sym (take-append-drop 65536 bytes)) t.1 (omega arith),
)

-- a bad maxval is answered exactly where a header begins the bytes whose maxval is not accepted
pub bad_maxvals : HeadersRefuseBadMaxvals
bad_maxvals = λ bytes. (
  λ e. subst (Means bytes) e (means bytes),
  λ w. back_judged bytes w.0 BadMaxval w.1 (maxval_as w.0 (judged w.0) (judges w.0) w.2),
)

-- not square is answered exactly where the maxval is accepted, and the width and the height differ
pub oblongs : HeadersRefuseOblongs
oblongs = λ bytes. (
  λ e. subst (Means bytes) e (means bytes),
  λ w. back_judged bytes w.0 NotSquare w.1 (oblong_as w.0 (judged w.0) (judges w.0) w.2 w.3),
)

-- a bad side is answered exactly where the maxval is accepted, and the width is the height, but no level's side
pub bad_sides : HeadersRefuseBadSides
bad_sides = λ bytes. (
  λ e. subst (Means bytes) e (means bytes),
  λ w. back_judged bytes w.0 BadSide w.1 (side_as w.0 (judged w.0) (judges w.0) w.2 w.3 w.4),
)

-- Bytes that come later.

-- the later answer is the same, with these bytes left too
abbrev Stands : List ℕ → HeaderAnswer → HeaderAnswer → Type 0
Stands more Part later = Unit {0}
Stands more (Whole h rest) later = later ≡ Whole h (rest ++ more)
Stands more (Bad f) later = later ≡ Bad f

whole_stands : (r : Result Header HeaderFault) (rest more : List ℕ) →
    Stands more (whole_answer r rest) (whole_answer r (rest ++ more))
whole_stands (Ok h) rest more = refl
whole_stands (Err f) rest more = refl

limit_stands : (last : Bool) (more : List ℕ) (now later : HeaderAnswer) → Stands more now later →
    Stands more (cond last (Bad HeaderTooLong) now) (cond last (Bad HeaderTooLong) later)
limit_stands true more now later s = refl
limit_stands false more now later s = s

step_stands : (r : Step) (place : ℕ) (bytes more : List ℕ) (now later : State → HeaderAnswer) →
    ((u : State) → Stands more (now u) (later u)) →
    Stands more (after_step r place bytes now) (after_step r place (bytes ++ more) later)
step_stands (Goes u) place bytes more now later s = limit_stands (place == 65535) more (now u) (later u) (s u)
step_stands (Ends v) place bytes more now later s = whole_stands (judged v) bytes more
step_stands Fails place bytes more now later s = refl

run_stands : (bytes more : List ℕ) (s : State) (place : ℕ) →
    Stands more (run bytes s place) (run (bytes ++ more) s place)
run_stands [] more s place = tt
run_stands (b ∷ bytes) more s place =
    step_stands (step_of s b) place bytes more (λ u. run bytes u (place + 1)) (λ u. run (bytes ++ more) u (place + 1))
    (λ u. run_stands bytes more u (place + 1))

-- no later byte changes a header that was read: it is left
pub read_stands : ReadHeadersStand
unfolding header_of
read_stands = λ bytes rest more h e. subst (λ (a : HeaderAnswer). Stands more a (header_of (bytes ++ more))) e
    (run_stands bytes more Start 0)

-- no later byte changes a refusal
pub refusal_stands : RefusalsStand
unfolding header_of
refusal_stands = λ bytes more f e. subst (λ (a : HeaderAnswer). Stands more a (header_of (bytes ++ more))) e
    (run_stands bytes more Start 0)
