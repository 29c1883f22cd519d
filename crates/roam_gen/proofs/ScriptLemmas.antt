-- The lines of the generated script by their numbers.
use Rattle.std.proofs.Common.{◌≡◌, ℕ, suc, List, [], ◌∷◌, ◌++◌, get_or, take, drop, drop-cons, ◌+◌, ◌-◌, ◌≤◌, Some}
use Rattle.std.proofs.Common.{refl, sym, ap, ◌∙◌, arith, map}
use Rattle.std.proofs.lemmas.List.FromFn.{length-map-range_with_len, get_or-map-range_with_len}
use Rattle.std.proofs.lemmas.Option.{slice_get_read, slice_get_within, get_or_from_slice_get}
use Rattle.std.proofs.lemmas.List.{append-nil, take-append-drop}
use Rattle.std.proofs.lemmas.Grind.{flat_map-append, take_at_read}
use Rattle.roam_gen.specs.Written.{line_text}
use Rattle.roam_script.specs.declared.line.Line.{Line}
use Rattle.std.specs.Prelude.{slice_get}
use Rattle.std.specs.List.{range_with_len, flat_map}
use Rattle.roam_gen.specs.Generated.{made_lines}
use Rattle.roam_gen.specs.LineAt.{line_at}

-- the script is its lines by number
pub lines-at : (n seed : ℕ) → made_lines n seed ≡ map (line_at n seed) (range_with_len 1 105)
unfolding made_lines
lines-at n seed = refl

-- each line by its number
pub made-at : (n seed i : ℕ) → 1 ≤ i → i ≤ 105 → slice_get (made_lines n seed) (i - 1) ≡ Some (line_at n seed i)
made-at n seed i first last =
    let f : ℕ → Line = line_at n seed in
    ap (λ l. slice_get l (i - 1)) (lines-at n seed)
    ∙ slice_get_read (map f (range_with_len 1 105)) 105 (i - 1) (f i)
    (sym (length-map-range_with_len f 1 105)) (omega arith)
    (sym (get_or-map-range_with_len f 1 105 (i - 1) i (f i) (omega arith) (omega arith)))

-- the text of one line more
pub texts-more : (lines : List Line) (k : ℕ) (line : Line) (piece : List ℕ) →
    slice_get lines k ≡ Some line → piece ≡ line_text line
    → flat_map line_text (take (k + 1) lines) ≡ flat_map line_text (take k lines) ++ piece
texts-more lines k line piece is text =
    let at : get_or lines k line ≡ line = get_or_from_slice_get lines k line line is in
    ap (flat_map line_text) ((take_at_read lines k line (slice_get_within lines k line is)).1
    ∙ ap (λ (v : Line). take k lines ++ v ∷ []) at)
    ∙ flat_map-append line_text (take k lines) (line ∷ [])
    ∙ ap (λ l. flat_map line_text (take k lines) ++ l) (append-nil (line_text line) ∙ sym text)

-- the whole text: that of the lines before, of a line, and of those behind it
pub texts-split : (lines : List Line) (k : ℕ) (line : Line) (piece : List ℕ) →
    slice_get lines k ≡ Some line → piece ≡ line_text line
    → flat_map line_text lines ≡ flat_map line_text (take k lines) ++ (piece ++ flat_map line_text (drop (suc k) lines))
texts-split lines k line piece is text =
    let at : get_or lines k line ≡ line = get_or_from_slice_get lines k line line is in
    let cut : drop k lines ≡ line ∷ drop (suc k) lines =
    drop-cons lines k line (slice_get_within lines k line is) ∙ ap (λ (v : Line). v ∷ drop (suc k) lines) at in
    ap (flat_map line_text) (sym (take-append-drop k lines) ∙ ap (λ l. take k lines ++ l) cut)
    ∙ flat_map-append line_text (take k lines) (line ∷ drop (suc k) lines)
    ∙ ap (λ l. flat_map line_text (take k lines) ++ (l ++ flat_map line_text (drop (suc k) lines))) (sym text)
