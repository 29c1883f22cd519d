-- Facts about the machine: what the bytes that lead to a state are, and how it walks over a header's text.
use Rattle.std.proofs.Common.{◌≡◌, ℕ, ◌+◌, ◌-◌, ◌*◌, ◌^◌, ◌<◌, ◌≤◌, Bool, true, false, not, ◌&&◌, cond, ◌==◌, nat_lt}
use Rattle.std.proofs.Common.{List, [], ◌∷◌, ◌++◌, length, take, drop, Option, Some, None, refl, sym, ap, ap₂, ◌∙◌}
use Rattle.std.proofs.Common.{subst, arith, length-append, append_assoc, append-nil, take-append-drop, eqb-true}
use Rattle.std.specs.Char.{is_ascii_digit}
use Rattle.std.specs.List.{flat_map, list_all}
use Rattle.std.proofs.Math.Nat.{pow-succ'}
use Rattle.std.proofs.lemmas.Bool.{cond_both, and_parts, and_from, not-true, lt-ltb, ltb-true}
use Rattle.std.proofs.lemmas.List.{length_push, take_at, take-append-le}
use Rattle.std.proofs.lemmas.List.Concat.{flat_map-append}
use Rattle.std.proofs.lemmas.List.Folds.{list_all-append}
use Rattle.text_laws.specs.Digits.{value_of}
use Rattle.text_laws.specs.Blanks.{is_white, is_line_end}
use Rattle.text_laws.proofs.DigitLemmas.{value-push, digit-no_hash}
use Rattle.text_laws.proofs.BlankLemmas.{digit-not_white}
use Rattle.pgm_grid.specs.declared.header_machine.HeaderValues.{HeaderValues}
use Rattle.pgm_grid.specs.declared.header_machine.Fields.{Fields}
use Rattle.pgm_grid.specs.declared.header_machine.Fields.TheVariants as fields
use Rattle.pgm_grid.specs.declared.header_machine.State.{State}
use Rattle.pgm_grid.specs.declared.header_machine.State.TheVariants.{Start, Letter, Named, Gap, Comment, Number}
use Rattle.pgm_grid.specs.declared.header_machine.Step.{Step}
use Rattle.pgm_grid.specs.declared.header_machine.Step.TheVariants.{Goes, Ends, Fails}
use Rattle.pgm_grid.specs.HeaderText as text
use Rattle.pgm_grid.specs.HeaderText.{GapItem, item_bytes, is_comment_text, is_item, IsGap, IsNumberText, magic_text}
use Rattle.pgm_grid.specs.HeaderText.{IsHeaderText, IsProperPrefix}
use Rattle.pgm_grid.specs.HeaderMachine.{number_ended, step_of}

-- Gaps.

-- a whitespace byte is a gap
pub gap_first : (byte : ℕ) → is_white byte ≡ true → IsGap (byte ∷ [])
gap_first byte white = record { first = byte; items = []; white = white; valid = refl; text = refl }

-- a gap and one more part
gap_more : (gap : List ℕ) (item : GapItem) → IsGap gap → is_item item ≡ true → IsGap (gap ++ item_bytes item)
gap_more gap item g good =
    record {
      first = g.first;
      items = g.items ++ item ∷ [];
      white = g.white;
      valid = list_all-append is_item g.items (item ∷ []) ∙ and_from (list_all is_item g.items)
          (list_all is_item (item ∷ [])) g.valid (and_from (is_item item) true good refl);
      text = ap (λ (t : List ℕ). t ++ item_bytes item) g.text
          ∙ ap (λ (t : List ℕ). g.first ∷ t)
          (ap (λ (t : List ℕ). flat_map item_bytes g.items ++ t) (sym (append-nil (item_bytes item)))
          ∙ sym (flat_map-append item_bytes g.items (item ∷ [])));
    }

-- Numbers.

-- one digit is a number
number_one : (d : ℕ) → is_ascii_digit d ≡ true → IsNumberText (d ∷ []) (d - 48)
number_one d digit = record {
  some = omega arith;
  short = omega arith;
  digits = and_from (is_ascii_digit d) true digit refl;
  value = omega arith;
}

-- fewer than nine digits and one more
number_push : (digits : List ℕ) (d value : ℕ) → IsNumberText digits value → length digits < 9 →
    is_ascii_digit d ≡ true → IsNumberText (digits ++ d ∷ []) (10 * value + (d - 48))
number_push digits d value n room digit =
    record {
      some = omega (arith, length_push digits d);
      short = omega (arith, length_push digits d);
      digits = list_all-append is_ascii_digit digits (d ∷ []) ∙ and_from (list_all is_ascii_digit digits)
          (list_all is_ascii_digit (d ∷ [])) n.digits (and_from (is_ascii_digit d) true digit refl);
      value = ap (λ (k : ℕ). 10 * k + (d - 48)) n.value ∙ sym (value-push digits d);
    }

-- The bytes that lead to a state.

-- bytes with a number after those before it
abbrev NumberAfter : (List ℕ → Type 0) → ℕ → List ℕ → Type 0
NumberAfter Front n bytes =
    (front : List ℕ) × (gap : List ℕ) × (digits : List ℕ) × Front front × IsGap gap × IsNumberText digits n
    × (bytes ≡ front ++ (gap ++ digits))

-- the bytes are these fields, and nothing after them
abbrev AfterFields : Fields → List ℕ → Type 0
AfterFields (fields.Magic p) bytes = bytes ≡ magic_text p
AfterFields (fields.Width p w) bytes = NumberAfter (λ t. t ≡ magic_text p) w bytes
AfterFields (fields.Height p w h) bytes = NumberAfter (λ t. NumberAfter (λ u. u ≡ magic_text p) w t) h bytes

-- the bytes lead to the state
abbrev Leads : State → List ℕ → Type 0
Leads Start bytes = bytes ≡ []
Leads Letter bytes = bytes ≡ 80 ∷ []
Leads (Named p) bytes = bytes ≡ magic_text p
Leads (Gap f) bytes = (front : List ℕ) × (gap : List ℕ) × AfterFields f front × IsGap gap × (bytes ≡ front ++ gap)
Leads (Comment f) bytes =
    (front : List ℕ) × (gap : List ℕ) × (inside : List ℕ) × AfterFields f front × IsGap gap
    × (is_comment_text inside ≡ true) × (bytes ≡ front ++ (gap ++ 35 ∷ inside))
Leads (Number f k v) bytes =
    (front : List ℕ) × (gap : List ℕ) × (digits : List ℕ) × AfterFields f front × IsGap gap × IsNumberText digits v
    × (length digits ≡ k) × (bytes ≡ front ++ (gap ++ digits))

-- the bytes lead to what a step makes
abbrev Makes : List ℕ → Step → Type 0
Makes bytes (Goes t) = Leads t bytes
Makes bytes (Ends v) = IsHeaderText bytes v
Makes bytes Fails = Unit {0}

push_inner : (front gap inner : List ℕ) (b : ℕ) →
    (front ++ (gap ++ inner)) ++ b ∷ [] ≡ front ++ (gap ++ (inner ++ b ∷ []))
push_inner front gap inner b = simp append_assoc

regroup : (m g w g2 h g3 x last : List ℕ) →
    (((m ++ (g ++ w)) ++ (g2 ++ h)) ++ (g3 ++ x)) ++ last ≡ m ++ (g ++ (w ++ (g2 ++ (h ++ (g3 ++ (x ++ last))))))
regroup m g w g2 h g3 x last = simp append_assoc

-- whitespace after a number
sound_ended : (f : Fields) (k v : ℕ) (bytes : List ℕ) (b : ℕ) → Leads (Number f k v) bytes → is_white b ≡ true →
    Makes (bytes ++ b ∷ []) (number_ended f v)
sound_ended (fields.Magic p) k v bytes b l white =
    (bytes, b ∷ [], (l.0, l.1, l.2, l.3, l.4, l.5, l.7), gap_first b white, refl)
sound_ended (fields.Width p w) k v bytes b l white =
    (bytes, b ∷ [], (l.0, l.1, l.2, l.3, l.4, l.5, l.7), gap_first b white, refl)
sound_ended (fields.Height p w h) k v bytes b l white =
    let second = l.3 in
    let one = second.3 in
    record {
      gap = one.1;
      width_text = one.2;
      second_gap = second.1;
      height_text = second.2;
      third_gap = l.1;
      maxval_text = l.2;
      last = b;
      is_gap = one.4;
      is_width = one.5;
      is_second_gap = second.4;
      is_height = second.5;
      is_third_gap = l.4;
      is_maxval = l.5;
      is_last = white;
      text = ap (λ (t : List ℕ). t ++ b ∷ [])
          (l.7 ∙ ap (λ (t : List ℕ). t ++ (l.1 ++ l.2))
          (second.6 ∙ ap (λ (t : List ℕ). t ++ (second.1 ++ second.2)) (one.6
          ∙ ap (λ (t : List ℕ). t ++ (one.1 ++ one.2)) one.3)))
          ∙ regroup (magic_text p) one.1 one.2 second.1 second.2 l.1 l.2 (b ∷ []);
    }

-- one byte more leads to what the step makes
sound : (s : State) (bytes : List ℕ) (b : ℕ) → Leads s bytes → Makes (bytes ++ b ∷ []) (step_of s b)
sound Start bytes b l =
    cond_both (b == 80) (Goes Letter) Fails (λ r. Makes (bytes ++ b ∷ []) r)
    (λ e. ap₂ (λ (t : List ℕ) (x : ℕ). t ++ x ∷ []) l (eqb-true b 80 e)) (λ _. tt)
sound Letter bytes b l =
    cond_both (b == 50) (Goes (Named true)) (cond (b == 53) (Goes (Named false)) Fails) (λ r. Makes (bytes ++ b ∷ []) r)
    (λ e. ap₂ (λ (t : List ℕ) (x : ℕ). t ++ x ∷ []) l (eqb-true b 50 e))
    (λ _. cond_both (b == 53) (Goes (Named false)) Fails (λ r. Makes (bytes ++ b ∷ []) r)
    (λ e. ap₂ (λ (t : List ℕ) (x : ℕ). t ++ x ∷ []) l (eqb-true b 53 e)) (λ _. tt))
sound (Named p) bytes b l =
    cond_both (is_white b) (Goes (Gap (fields.Magic p))) Fails (λ r. Makes (bytes ++ b ∷ []) r)
    (λ e. (bytes, b ∷ [], l, gap_first b e, refl)) (λ _. tt)
sound (Gap f) bytes b l =
    cond_both (is_white b) (Goes (Gap f)) (cond (b == 35) (Goes (Comment f))
    (cond (is_ascii_digit b) (Goes (Number f 1 (b - 48))) Fails)) (λ r. Makes (bytes ++ b ∷ []) r)
    (λ e. (
      l.0,
      l.1 ++ b ∷ [],
      l.2,
      gap_more l.1 (text.White b) l.3 e,
      ap (λ (t : List ℕ). t ++ b ∷ []) l.4 ∙ append_assoc l.0 l.1 (b ∷ []),
    ))
    (λ _. cond_both (b == 35) (Goes (Comment f)) (cond (is_ascii_digit b) (Goes (Number f 1 (b - 48))) Fails)
    (λ r. Makes (bytes ++ b ∷ []) r)
    (λ e. (
      l.0,
      l.1,
      [],
      l.2,
      l.3,
      refl,
      ap₂ (λ (t : List ℕ) (x : ℕ). t ++ x ∷ []) l.4 (eqb-true b 35 e) ∙ append_assoc l.0 l.1 (35 ∷ []),
    ))
    (λ _. cond_both (is_ascii_digit b) (Goes (Number f 1 (b - 48))) Fails (λ r. Makes (bytes ++ b ∷ []) r)
    (λ e. (
      l.0,
      l.1,
      b ∷ [],
      l.2,
      l.3,
      number_one b e,
      refl,
      ap (λ (t : List ℕ). t ++ b ∷ []) l.4 ∙ append_assoc l.0 l.1 (b ∷ []),
    ))
    (λ _. tt)))
sound (Comment f) bytes b l =
    cond_both (is_line_end b) (Goes (Gap f)) (Goes (Comment f)) (λ r. Makes (bytes ++ b ∷ []) r)
    (λ e. (
      l.0,
      l.1 ++ 35 ∷ (l.2 ++ b ∷ []),
      l.3,
      gap_more l.1 (text.Comment l.2 b) l.4 (and_from (is_comment_text l.2) (is_line_end b) l.5 e),
      ap (λ (t : List ℕ). t ++ b ∷ []) l.6 ∙ push_inner l.0 l.1 (35 ∷ l.2) b,
    ))
    (λ e. (
      l.0,
      l.1,
      l.2 ++ b ∷ [],
      l.3,
      l.4,
      list_all-append (λ byte. not (is_line_end byte)) l.2 (b ∷ []) ∙ and_from (is_comment_text l.2)
          (is_comment_text (b ∷ [])) l.5 (and_from (not (is_line_end b)) true (ap not e) refl),
      ap (λ (t : List ℕ). t ++ b ∷ []) l.6 ∙ push_inner l.0 l.1 (35 ∷ l.2) b,
    ))
sound (Number f k v) bytes b l =
    cond_both (is_white b) (number_ended f v) (cond (is_ascii_digit b && nat_lt k 9)
    (Goes (Number f (k + 1) (10 * v + (b - 48)))) Fails) (λ r. Makes (bytes ++ b ∷ []) r)
    (λ e. sound_ended f k v bytes b l e)
    (λ _. cond_both (is_ascii_digit b && nat_lt k 9) (Goes (Number f (k + 1) (10 * v + (b - 48)))) Fails
    (λ r. Makes (bytes ++ b ∷ []) r)
    (λ e. let both : (is_ascii_digit b ≡ true) × (nat_lt k 9 ≡ true) = and_parts (is_ascii_digit b) (nat_lt k 9) e in
    let room : length l.2 < 9 = omega (arith, ltb-true k 9 both.1, l.6) in (
      l.0,
      l.1,
      l.2 ++ b ∷ [],
      l.3,
      l.4,
      number_push l.2 b v l.5 room both.0,
      length_push l.2 b ∙ ap (λ (n : ℕ). n + 1) l.6,
      ap (λ (t : List ℕ). t ++ b ∷ []) l.7 ∙ push_inner l.0 l.1 l.2 b,
    ))
    (λ _. tt))

-- Walks.

-- the state after all of the bytes, if none of them ends the header or is refused
abbrev walk_on : Step → (State → Option State) → Option State
walk_on (Goes t) next = next t
walk_on (Ends v) next = None
walk_on Fails next = None

-- the state behind all of the bytes, from this one on, if none of them ends the header or is refused
abbrev pub walk : List ℕ → State → Option State
walk [] s = Some s
walk (b ∷ more) s = walk_on (step_of s b) (λ t. walk more t)

-- one step
pub walk_step : (s t : State) (b : ℕ) (more : List ℕ) → step_of s b ≡ Goes t → walk (b ∷ more) s ≡ walk more t
walk_step s t b more e = rw e refl

-- the walk over more bytes begins where the one over the first ends
append_on : (r : Step) (a b : List ℕ) (t : State) → ((u : State) → walk a u ≡ Some t → walk (a ++ b) u ≡ walk b t) →
    walk_on r (λ u. walk a u) ≡ Some t → walk_on r (λ u. walk (a ++ b) u) ≡ walk b t
append_on (Goes u) a b t again e = again u e
append_on (Ends v) a b t again e = absurd (cc)
append_on Fails a b t again e = absurd (cc)

-- a walk over more bytes goes on where the one over the first ends
pub walk-append : (a b : List ℕ) (s t : State) → walk a s ≡ Some t → walk (a ++ b) s ≡ walk b t
walk-append [] b s t e = let same : s ≡ t = cc in ap (walk b) same
walk-append (x ∷ a) b s t e = append_on (step_of s x) a b t (λ u. walk-append a b u t) e

-- a walk over a prefix
split_on : (r : Step) (a b : List ℕ) (u : State) →
    ((s : State) → walk (a ++ b) s ≡ Some u → (t : State) × (walk a s ≡ Some t) × (walk b t ≡ Some u)) →
    walk_on r (λ s. walk (a ++ b) s) ≡ Some u
    → (t : State) × (walk_on r (λ s. walk a s) ≡ Some t) × (walk b t ≡ Some u)
split_on (Goes s) a b u again e = again s e
split_on (Ends v) a b u again e = absurd (cc)
split_on Fails a b u again e = absurd (cc)

-- a walk over two lists of bytes is one over the first, and from its end one over the second
pub walk_split : (a b : List ℕ) (s u : State) → walk (a ++ b) s ≡ Some u →
    (t : State) × (walk a s ≡ Some t) × (walk b t ≡ Some u)
walk_split [] b s u e = (s, refl, e)
walk_split (x ∷ a) b s u e = split_on (step_of s x) a b u (λ t. walk_split a b t u) e

-- the bytes of a walk lead to where it ends
sound_on : (r : Step) (word : List ℕ) (t : State) (bytes : List ℕ) →
    ((s : State) → Leads s bytes → walk word s ≡ Some t → Leads t (bytes ++ word)) → Makes bytes r →
    walk_on r (λ s. walk word s) ≡ Some t → Leads t (bytes ++ word)
sound_on (Goes s) word t bytes again l e = again s l e
sound_on (Ends v) word t bytes again l e = absurd (cc)
sound_on Fails word t bytes again l e = absurd (cc)

sound_walk : (word : List ℕ) (s t : State) (bytes : List ℕ) → Leads s bytes →
    walk word s ≡ Some t → Leads t (bytes ++ word)
sound_walk [] s t bytes l e =
    let same : s ≡ t = cc in
    subst (λ (u : State). Leads u (bytes ++ [])) same (subst (λ (x : List ℕ). Leads s x) (sym (append-nil bytes)) l)
sound_walk (x ∷ word) s t bytes l e =
    subst (λ (y : List ℕ). Leads t y) (append_assoc bytes (x ∷ []) word)
    (sound_on (step_of s x) word t (bytes ++ x ∷ []) (λ u. sound_walk word u t (bytes ++ x ∷ [])) (sound s bytes x l) e)

-- where a walk from the start ends, a byte that ends the header ends its text
pub walked_text : (bytes : List ℕ) (t : State) (b : ℕ) (v : HeaderValues) → walk bytes Start ≡ Some t →
    step_of t b ≡ Ends v → IsHeaderText (bytes ++ b ∷ []) v
walked_text bytes t b v e ends =
    subst (λ (r : Step). Makes (bytes ++ b ∷ []) r) ends (sound t bytes b (sound_walk bytes Start t [] refl e))

-- From each state some bytes and then a blank end the header.

abbrev Finish : State → Type 0
Finish s = (word : List ℕ) × (t : State) × (v : HeaderValues) × (walk word s ≡ Some t) × (step_of t 32 ≡ Ends v)

finish_number : (f : Fields) (k v : ℕ) → Finish (Number f k v)
finish_number (fields.Magic p) k v = (
  32 ∷ 49 ∷ 32 ∷ 49 ∷ [],
  Number (fields.Height p v 1) 1 1,
  record { plain = p; width = v; height = 1; maxval = 1 },
  refl,
  refl,
)
finish_number (fields.Width p w) k v = (
  32 ∷ 49 ∷ [],
  Number (fields.Height p w v) 1 1,
  record { plain = p; width = w; height = v; maxval = 1 },
  refl,
  refl,
)
finish_number (fields.Height p w h) k v =
    ([], Number (fields.Height p w h) k v, record { plain = p; width = w; height = h; maxval = v }, refl, refl)

finish : (s : State) → Finish s
finish Start = let r = finish_number (fields.Magic false) 1 1 in (80 ∷ 53 ∷ 32 ∷ 49 ∷ r.0, r.1, r.2, r.3, r.4)
finish Letter = let r = finish_number (fields.Magic false) 1 1 in (53 ∷ 32 ∷ 49 ∷ r.0, r.1, r.2, r.3, r.4)
finish (Named p) = let r = finish_number (fields.Magic p) 1 1 in (32 ∷ 49 ∷ r.0, r.1, r.2, r.3, r.4)
finish (Gap f) = let r = finish_number f 1 1 in (49 ∷ r.0, r.1, r.2, r.3, r.4)
finish (Comment f) = let r = finish_number f 1 1 in (10 ∷ 49 ∷ r.0, r.1, r.2, r.3, r.4)
finish (Number f k v) = finish_number f k v

-- the bytes of a walk from the start are a proper prefix of a header's text
pub walked_front : (bytes : List ℕ) (t : State) → walk bytes Start ≡ Some t → IsProperPrefix bytes
walked_front bytes t e =
    let r = finish t in
    let whole : walk (bytes ++ r.0) Start ≡ Some r.1 = walk-append bytes r.0 Start t e ∙ r.3 in (
      r.0 ++ 32 ∷ [],
      r.2,
      omega (arith, length_push r.0 32),
      subst (λ (x : List ℕ). IsHeaderText x r.2) (append_assoc bytes r.0 (32 ∷ []))
          (walked_text (bytes ++ r.0) r.1 32 r.2 whole r.4),
    )

-- Over a header's text.

walk_comment : (inside : List ℕ) (f : Fields) → is_comment_text inside ≡ true →
    walk inside (Comment f) ≡ Some (Comment f)
walk_comment [] f clean = refl
walk_comment (x ∷ inside) f clean =
    let both : (not (is_line_end x) ≡ true) × (is_comment_text inside ≡ true) =
    and_parts (not (is_line_end x)) (is_comment_text inside) clean in
    let inner : is_line_end x ≡ false = not-true (is_line_end x) both.0 in
    let step : step_of (Comment f) x ≡ Goes (Comment f) = rw inner refl in
    walk_step (Comment f) (Comment f) x inside step ∙ walk_comment inside f both.1

walk_item : (item : GapItem) (f : Fields) → is_item item ≡ true → walk (item_bytes item) (Gap f) ≡ Some (Gap f)
walk_item (text.White b) f good =
    let step : step_of (Gap f) b ≡ Goes (Gap f) = rw good refl in
    walk_step (Gap f) (Gap f) b [] step
walk_item (text.Comment inside last) f good =
    let both : (is_comment_text inside ≡ true) × (is_line_end last ≡ true) =
    and_parts (is_comment_text inside) (is_line_end last) good in
    let step : step_of (Comment f) last ≡ Goes (Gap f) = rw both.1 refl in
    walk-append inside (last ∷ []) (Comment f) (Comment f) (walk_comment inside f both.0)
    ∙ walk_step (Comment f) (Gap f) last [] step

walk_items : (items : List GapItem) (f : Fields) → list_all is_item items ≡ true →
    walk (flat_map item_bytes items) (Gap f) ≡ Some (Gap f)
walk_items [] f good = refl
walk_items (item ∷ items) f good =
    let both : (is_item item ≡ true) × (list_all is_item items ≡ true) =
    and_parts (is_item item) (list_all is_item items) good in
    walk-append (item_bytes item) (flat_map item_bytes items) (Gap f) (Gap f) (walk_item item f both.0)
    ∙ walk_items items f both.1

-- over a gap, from a state in which whitespace begins one
walk_gap : (gap : List ℕ) (s : State) (f : Fields) → ((b : ℕ) → is_white b ≡ true → step_of s b ≡ Goes (Gap f)) →
    IsGap gap → walk gap s ≡ Some (Gap f)
walk_gap gap s f begins g =
    ap (λ (t : List ℕ). walk t s) g.text
    ∙ walk_step s (Gap f) g.first (flat_map item_bytes g.items) (begins g.first g.white)
    ∙ walk_items g.items f g.valid

walk_digits : (digits : List ℕ) (f : Fields) (k v : ℕ) → list_all is_ascii_digit digits ≡ true → k + length digits ≤ 9
    → walk digits (Number f k v) ≡ Some (Number f (k + length digits) (v * 10 ^ length digits + value_of digits))
walk_digits [] f k v good room =
    let at : k ≡ k + length {A = ℕ} [] = omega arith in
    let same : v ≡ v * 10 ^ length {A = ℕ} [] + value_of [] = omega arith in
    ap₂ (λ (i j : ℕ). Some (Number f i j)) at same
walk_digits (d ∷ digits) f k v good room =
    let both : (is_ascii_digit d ≡ true) × (list_all is_ascii_digit digits ≡ true) =
    and_parts (is_ascii_digit d) (list_all is_ascii_digit digits) good in
    let few : nat_lt k 9 ≡ true = lt-ltb k 9 (omega arith) in
    let step : step_of (Number f k v) d ≡ Goes (Number f (k + 1) (10 * v + (d - 48))) =
    rw (digit-not_white d both.0, both.0, few) refl in
    let again : walk digits (Number f (k + 1) (10 * v + (d - 48)))
    ≡ Some (Number f (k + 1 + length digits) ((10 * v + (d - 48)) * 10 ^ length digits + value_of digits)) =
    walk_digits digits f (k + 1) (10 * v + (d - 48)) both.1 (omega arith) in
    let at : k + 1 + length digits ≡ k + length (d ∷ digits) = omega arith in
    let power : 10 ^ length (d ∷ digits) ≡ 10 * 10 ^ length digits = pow-succ' 10 (length digits) in
    let same : (10 * v + (d - 48)) * 10 ^ length digits + value_of digits
    ≡ v * 10 ^ length (d ∷ digits) + value_of (d ∷ digits) =
    omega arith ∙ ap (λ (p : ℕ). v * p + ((d - 48) * 10 ^ length digits + value_of digits)) (sym power) in
    walk_step (Number f k v) (Number f (k + 1) (10 * v + (d - 48))) d digits step ∙ again
    ∙ ap₂ (λ (i j : ℕ). Some (Number f i j)) at same

walk_number : (digits : List ℕ) (f : Fields) (v : ℕ) → IsNumberText digits v →
    walk digits (Gap f) ≡ Some (Number f (length digits) v)
walk_number [] f v n = absurd (omega (arith, n.some))
walk_number (d ∷ digits) f v n =
    let both : (is_ascii_digit d ≡ true) × (list_all is_ascii_digit digits ≡ true) =
    and_parts (is_ascii_digit d) (list_all is_ascii_digit digits) n.digits in
    let step : step_of (Gap f) d ≡ Goes (Number f 1 (d - 48)) =
    rw (digit-not_white d both.0, digit-no_hash d both.0, both.0) refl in
    let short : 1 + length digits ≤ 9 = omega (arith, n.short) in
    let at : 1 + length digits ≡ length (d ∷ digits) = omega arith in
    walk_step (Gap f) (Number f 1 (d - 48)) d digits step ∙ walk_digits digits f 1 (d - 48) both.1 short
    ∙ ap₂ (λ (i j : ℕ). Some (Number f i j)) at (sym n.value)

-- whitespace ends a number
white_after : (f : Fields) (k v b : ℕ) → is_white b ≡ true → step_of (Number f k v) b ≡ number_ended f v
white_after f k v b white = rw white refl

white_named : (p : Bool) (b : ℕ) → is_white b ≡ true → step_of (Named p) b ≡ Goes (Gap (fields.Magic p))
white_named p b white = rw white refl

walk_magic : (p : Bool) → walk (magic_text p) Start ≡ Some (Named p)
walk_magic true = refl
walk_magic false = refl

regroup_last : (m g w g2 h g3 x last : List ℕ) →
    (m ++ (g ++ (w ++ (g2 ++ (h ++ (g3 ++ x)))))) ++ last ≡ m ++ (g ++ (w ++ (g2 ++ (h ++ (g3 ++ (x ++ last))))))
regroup_last m g w g2 h g3 x last = simp append_assoc

-- a header's text is a walk, and then a byte that ends it
pub record IsWalked (bytes : List ℕ) (values : HeaderValues) : Type 0 where
  pub front : List ℕ
  pub last : ℕ
  pub state : State
  pub text : bytes ≡ front ++ last ∷ []
  pub walked : walk front Start ≡ Some state
  pub ends : step_of state last ≡ Ends values

-- a header's text is a walk, and then a byte that ends it
pub complete : (bytes : List ℕ) (v : HeaderValues) → IsHeaderText bytes v → IsWalked bytes v
complete bytes v t =
    let magic : Fields = fields.Magic v.plain in
    let width : Fields = fields.Width v.plain v.width in
    let height : Fields = fields.Height v.plain v.width v.height in
    let maxval_walk : walk t.maxval_text (Gap height) ≡ Some (Number height (length t.maxval_text) v.maxval) =
    walk_number t.maxval_text height v.maxval t.is_maxval in
    let gap3_walk : walk (t.third_gap ++ t.maxval_text) (Number width (length t.height_text) v.height)
    ≡ Some (Number height (length t.maxval_text) v.maxval) =
    walk-append t.third_gap t.maxval_text (Number width (length t.height_text) v.height) (Gap height)
    (walk_gap t.third_gap (Number width (length t.height_text) v.height) height
    (λ b. white_after width (length t.height_text) v.height b) t.is_third_gap) ∙ maxval_walk in
    let height_walk : walk (t.height_text ++ (t.third_gap ++ t.maxval_text)) (Gap width)
    ≡ Some (Number height (length t.maxval_text) v.maxval) =
    walk-append t.height_text (t.third_gap ++ t.maxval_text) (Gap width) (Number width (length t.height_text) v.height)
    (walk_number t.height_text width v.height t.is_height) ∙ gap3_walk in
    let gap2_walk : walk (t.second_gap ++ (t.height_text ++ (t.third_gap ++ t.maxval_text)))
    (Number magic (length t.width_text) v.width) ≡ Some (Number height (length t.maxval_text) v.maxval) =
    walk-append t.second_gap (t.height_text ++ (t.third_gap ++ t.maxval_text))
    (Number magic (length t.width_text) v.width) (Gap width)
    (walk_gap t.second_gap (Number magic (length t.width_text) v.width) width
    (λ b. white_after magic (length t.width_text) v.width b) t.is_second_gap) ∙ height_walk in
    let width_walk : walk (t.width_text ++ (t.second_gap ++ (t.height_text ++ (t.third_gap ++ t.maxval_text))))
    (Gap magic) ≡ Some (Number height (length t.maxval_text) v.maxval) =
    walk-append t.width_text (t.second_gap ++ (t.height_text ++ (t.third_gap ++ t.maxval_text))) (Gap magic)
    (Number magic (length t.width_text) v.width)
    (walk_number t.width_text magic v.width t.is_width) ∙ gap2_walk in
    let gap_walk : walk (t.gap ++ (t.width_text ++ (t.second_gap ++ (t.height_text ++ (t.third_gap ++ t.maxval_text)))))
    (Named v.plain) ≡ Some (Number height (length t.maxval_text) v.maxval) =
    walk-append t.gap (t.width_text ++ (t.second_gap ++ (t.height_text ++ (t.third_gap ++ t.maxval_text))))
    (Named v.plain) (Gap magic)
    (walk_gap t.gap (Named v.plain) magic (λ b. white_named v.plain b) t.is_gap) ∙ width_walk in
    record {
      front =
          magic_text v.plain
          ++ (t.gap ++ (t.width_text ++ (t.second_gap ++ (t.height_text ++ (t.third_gap ++ t.maxval_text)))));
      last = t.last;
      state = Number height (length t.maxval_text) v.maxval;
      text = t.text ∙ sym (regroup_last (magic_text v.plain) t.gap t.width_text t.second_gap t.height_text t.third_gap
          t.maxval_text (t.last ∷ []));
      walked = walk-append (magic_text v.plain)
          (t.gap ++ (t.width_text ++ (t.second_gap ++ (t.height_text ++ (t.third_gap ++ t.maxval_text))))) Start
          (Named v.plain) (walk_magic v.plain) ∙ gap_walk;
      ends = white_after height (length t.maxval_text) v.maxval t.last t.is_last;
    }

-- a proper prefix of a header's text is walked over
pub front_walked : (bytes : List ℕ) → IsProperPrefix bytes → (t : State) × (walk bytes Start ≡ Some t)
front_walked bytes w =
    let c = complete (bytes ++ w.0) w.1 w.3 in
    let size : length bytes + length w.0 ≡ length c.front + 1 =
    sym (length-append bytes w.0) ∙ ap length c.text ∙ length_push c.front c.last in
    let within : length bytes ≤ length c.front = omega (arith, w.2) in
    let begins : take (length bytes) c.front ≡ bytes =
    sym (take-append-le (length bytes) c.front (c.last ∷ []) within) ∙ ap (take (length bytes)) (sym c.text)
    ∙ take_at bytes w.0 (length bytes) refl in
    let cut : c.front ≡ bytes ++ drop (length bytes) c.front =
    sym (take-append-drop (length bytes) c.front) ∙ ap (λ (t : List ℕ). t ++ drop (length bytes) c.front) begins in
    let parts = walk_split bytes (drop (length bytes) c.front) Start c.state
    (ap (λ (t : List ℕ). walk t Start) (sym cut) ∙ c.walked) in
    (parts.0, parts.1)
