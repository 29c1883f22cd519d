-- Where a file differs from a text that it went together with so far.
use Rattle.std.proofs.Common.{◌≡◌, ◌≢◌, ℕ, suc, ◌+◌, ◌<◌, List, [], ◌∷◌, ◌++◌, length, take, drop, get_or, Option, Some}
use Rattle.std.proofs.Common.{None, refl, sym, ap, ap₂, ◌∙◌, arith, append_assoc, take-append-drop, length-append}
use Rattle.std.proofs.Common.{eq-eqb}
use Rattle.std.specs.Prelude.{option_map, ◌==◌}
use Rattle.std.proofs.Math.Seq.{drop-cons}
use Rattle.std.proofs.lemmas.Bool.{cond-true, cond-false, ne_eqb}
use Rattle.std.proofs.lemmas.List.{length-take-le, take_more}
use Rattle.mesh_compare.specs.Differs.{first_difference, FindsDifference, HasFront, Gives, Matches, Agrees}
use Rattle.mesh_compare.specs.Differs.{IsReadInPart}
use Rattle.mesh_compare.proofs.FileLemmas.{front-then}

-- a place moved on by so many, and by one more
moved-more : (count : ℕ) (found : Option ℕ) →
    option_map (λ k. suc k) (option_map (λ k. count + k) found) ≡ option_map (λ k. suc count + k) found
moved-more count None = refl
moved-more count (Some k) = ap Some (omega arith)

moved-none : (found : Option ℕ) → found ≡ option_map (λ k. 0 + k) found
moved-none None = refl
moved-none (Some k) = ap Some (omega arith)

-- two texts behind the same front
same-front : (front text bytes : List ℕ) →
    first_difference (front ++ text) (front ++ bytes) ≡ option_map (λ k. length front + k) (first_difference text bytes)
same-front [] text bytes = moved-none (first_difference text bytes)
same-front (a ∷ front) text bytes =
    cond-true (a == a) (option_map (λ k. suc k) (first_difference (front ++ text) (front ++ bytes)))
    (Some 0) (eq-eqb a a refl)
    ∙ ap (option_map (λ k. suc k)) (same-front front text bytes)
    ∙ moved-more (length front) (first_difference text bytes)

-- a byte differs from another, and from the end
other-byte : (byte next : ℕ) (text bytes : List ℕ) → byte ≢ next →
    first_difference (byte ∷ text) (next ∷ bytes) ≡ Some 0
other-byte byte next text bytes differs =
    cond-false (byte == next) (option_map (λ k. suc k) (first_difference text bytes)) (Some 0)
    (ne_eqb byte next differs)

-- the file differs at the byte of a piece at this place
stops-at : (piece : List ℕ) (file left : Option (List ℕ)) (i d : ℕ) → i < length piece →
    HasFront (take i piece) file left →
    ((more behind : List ℕ) → left ≡ Some behind → first_difference (get_or piece i d ∷ more) behind ≡ Some 0) →
    (left' : Option (List ℕ)) → Matches piece file left' (Some i)
stops-at piece file left i d below has differs left' = (
  below,
  λ more bytes is.
      let here = has bytes is in
      let byte : ℕ = get_or piece i d in
      let whole : piece ≡ take i piece ++ (byte ∷ drop (suc i) piece) =
      sym (take-append-drop i piece) ∙ ap (λ t. take i piece ++ t) (drop-cons piece i d below) in
      sym (ap₂ (λ xs ys. first_difference xs ys)
      (ap (λ p. p ++ more) whole ∙ append_assoc (take i piece) (byte ∷ drop (suc i) piece) more) here.2
      ∙ same-front (take i piece) (byte ∷ (drop (suc i) piece ++ more)) here.0
      ∙ ap (option_map (λ k. length (take i piece) + k)) (differs (drop (suc i) piece ++ more) here.0 here.1)
      ∙ ap Some (let long = length-take-le i piece (omega arith) in omega arith)),
)

module _ (piece : List ℕ) (file left left' : Option (List ℕ)) (i d : ℕ) (below : i < length piece)
    (has : HasFront (take i piece) file left) where
  -- it ends there
  pub stops-end : Gives None left left' → Matches piece file left' (Some i)
  stops-end gives = stops-at piece file left i d below has
      (λ more behind is. ap (λ bytes. first_difference (get_or piece i d ∷ more) bytes) (gives behind is).0) left'

  -- it has another byte there
  pub stops-other : (next : ℕ) → Gives (Some next) left left' → next ≢ get_or piece i d →
      Matches piece file left' (Some i)
  stops-other next gives differs = stops-at piece file left i d below has
      (λ more behind is. ap (λ bytes. first_difference (get_or piece i d ∷ more) bytes) (gives behind is).2
      ∙ other-byte (get_or piece i d) next more (gives behind is).0 (λ same. differs (sym same))) left'

  -- it has the same byte there
  pub goes-on : (next : ℕ) → Gives (Some next) left left' → next ≡ get_or piece i d →
      HasFront (take (i + 1) piece) file left'
  goes-on next gives same =
      rw (take_more piece i d below ∙ ap (λ b. take i piece ++ b ∷ []) (sym same))
      (front-then (take i piece) (next ∷ []) file left left' has gives)

-- a piece that was cut short
pub piece-cut : (piece : List ℕ) (file left unread : Option (List ℕ)) (i : ℕ) →
    HasFront (take i piece) file left → left ≡ unread →
    IsReadInPart piece file unread
piece-cut piece file left unread i has same = record {
  read = take i piece;
  of_text = record { back = drop i piece; joined = sym (take-append-drop i piece) };
  of_file = rw (← same) has;
}

-- the next piece of what is to come, where it came into an empty page
pub piece-first : (slice page empty to_come more : List ℕ) → slice ≡ page →
    page ++ more ≡ empty ++ to_come → empty ≡ [] →
    to_come ≡ slice ++ more
piece-first slice page empty to_come more same text none =
    ap (λ p. p ++ to_come) (sym none) ∙ sym text ∙ ap (λ p. p ++ more) (sym same)

module _ (text : List ℕ) (file : Option (List ℕ)) (to_come : List ℕ) (left : Option (List ℕ)) (at : ℕ)
    (agrees : Agrees text file to_come left at) where
  -- a piece more
  pub agrees-more : (piece more : List ℕ) (left' : Option (List ℕ)) (at' : ℕ) → to_come ≡ piece ++ more →
      HasFront piece left left' →
      at' ≡ at + length piece → Agrees text file more left' at'
  agrees-more piece more left' at' is has later = record {
    front = agrees.front ++ piece;
    of_text = agrees.of_text ∙ ap (λ t. agrees.front ++ t) is ∙ sym (append_assoc agrees.front piece more);
    of_file = front-then agrees.front piece file left left' agrees.of_file has;
    place = length-append agrees.front piece ∙ ap (λ k. k + length piece) agrees.place ∙ sym later;
  }

  -- the place of a difference further on
  pub differs-later : (found : Option ℕ) → FindsDifference to_come left found →
      FindsDifference text file (option_map (λ k. at + k) found)
  differs-later found differs bytes is =
      let here = agrees.of_file bytes is in
      sym (ap₂ (λ xs ys. first_difference xs ys) agrees.of_text here.2
      ∙ same-front agrees.front to_come here.0
      ∙ ap (λ k. option_map (λ j. k + j) (first_difference to_come here.0)) agrees.place
      ∙ ap (option_map (λ j. at + j)) (sym (differs here.0 here.1)))

  -- a difference in the next piece
  pub differs-in : (piece more : List ℕ) (left' : Option (List ℕ)) (k : ℕ) → to_come ≡ piece ++ more →
      Matches piece left left' (Some k) →
      FindsDifference text file (Some (at + k))
  differs-in piece more left' k is matches = differs-later (Some k) (rw is (matches.1 more))

  -- the file goes on behind the text
  pub differs-end : (byte : ℕ) (left' : Option (List ℕ)) → to_come ≡ [] → Gives (Some byte) left left' →
      FindsDifference text file (Some at)
  differs-end byte left' none gives =
      let later = differs-later (Some 0) (λ bytes is. rw (none, (gives bytes is).2) refl) in
      let same : at + 0 ≡ at = omega arith in
      rw (← same) later

  -- both end
  pub differs-nowhere : (left' : Option (List ℕ)) → to_come ≡ [] → Gives None left left' →
      FindsDifference text file None
  differs-nowhere left' none gives = differs-later None (λ bytes is. rw (none, (gives bytes is).0) refl)

  -- a read failed in the next piece
  pub cut-in : (piece more : List ℕ) (unread : Option (List ℕ)) → to_come ≡ piece ++ more →
      IsReadInPart piece left unread →
      IsReadInPart text file unread
  cut-in piece more unread is cut = record {
    read = agrees.front ++ cut.read;
    of_text = record {
      back = cut.of_text.back ++ more;
      joined = agrees.of_text ∙ ap (λ t. agrees.front ++ t) (is ∙ ap (λ p. p ++ more) cut.of_text.joined
          ∙ append_assoc cut.read cut.of_text.back more)
          ∙ sym (append_assoc agrees.front cut.read (cut.of_text.back ++ more));
    };
    of_file = front-then agrees.front cut.read file left unread agrees.of_file cut.of_file;
  }
