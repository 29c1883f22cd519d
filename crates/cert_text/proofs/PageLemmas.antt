-- Text that goes to a sink through a page.
use Rattle.std.proofs.Common.{◌≡◌, ℕ, List, [], ◌∷◌, ◌++◌, Option, Some, Result, Ok, Err, sym, ap, ◌∙◌, subst}
use Rattle.std.proofs.Common.{append_assoc, ◌+◌, ◌<◌, length, take, drop, get_or}
use Rattle.std.specs.List.{flat_map}
use Rattle.std.proofs.lemmas.List.{append-nil, take_more, take-append-drop}
use Rattle.std.proofs.lemmas.Grind.{flat_map-append}
use Rattle.roam_edge.specs.Sink.{Appends}
use Rattle.cert_text.specs.Page.{IsPut, IsWrittenInPart, Puts, Cuts}

-- nothing was put yet, and the page is empty
pub put-nothing : (before : Option (List ℕ)) (page : List ℕ) → page ≡ [] → IsPut before before page []
put-nothing before page empty = record {
  holds = λ all is. ([], is ∙ ap (λ l. Some l) (sym (append-nil all)), sym empty);
}

-- a page that grew
pub put-more : (before now : Option (List ℕ)) (page page' text more : List ℕ) → page' ≡ page ++ more →
    IsPut before now page text → IsPut before now page' (text ++ more)
put-more before now page page' text more grown put = record {
  holds = λ all is.
      let p = put.holds all is in
      (p.0, p.1, ap (λ l. l ++ more) p.2 ∙ append_assoc p.0 page more ∙ ap (λ l. p.0 ++ l) (sym grown));
}

-- a page that the sink got
pub put-written : {T E : Type 0} (before mid now : Option (List ℕ)) (page page' piece text : List ℕ) (x : T) →
    piece ≡ page → page' ≡ [] →
    IsPut before mid page text → Appends {T = T} {E = E} mid now piece (Ok x) → IsPut before now page' text
put-written before mid now page page' piece text x same empty put appends = record {
  holds = λ all is.
      let p = put.holds all is in (
        p.0 ++ page,
        appends.ok (all ++ p.0) p.1 ∙ ap (λ l. Some ((all ++ p.0) ++ l)) same
            ∙ ap (λ l. Some l) (append_assoc all p.0 page),
        p.2 ∙ sym (append-nil (p.0 ++ page)) ∙ ap (λ l. (p.0 ++ page) ++ l) (sym empty),
      );
}

-- a prefix of the text is one of a longer text
pub cut-longer : (before now : Option (List ℕ)) (text more whole : List ℕ) → whole ≡ text ++ more →
    IsWrittenInPart before now text → IsWrittenInPart before now whole
cut-longer before now text more whole is_whole cut = record {
  holds = λ all is.
      let c = cut.holds all is in (
        c.0,
        record {
          back = c.1.back ++ more;
          joined = is_whole ∙ ap (λ l. l ++ more) c.1.joined ∙ append_assoc c.0 c.1.back more;
        },
        c.2,
      );
}

-- one text behind another

pub puts-none : (now : Option (List ℕ)) (page : List ℕ) → Puts now now page page []
puts-none now page before text put = put-more before now page page text [] (sym (append-nil page)) put

pub puts-then : (old mid new : Option (List ℕ)) (page next last more text : List ℕ) → Puts old mid page next more →
    Puts mid new next last text → Puts old new page last (more ++ text)
puts-then old mid new page next last more text one two before first put =
    subst (IsPut before new last) (append_assoc first more text) (two before (first ++ more) (one before first put))

pub cuts-then : (old mid new : Option (List ℕ)) (page next more text : List ℕ) → Puts old mid page next more →
    Cuts mid new next text → Cuts old new page (more ++ text)
cuts-then old mid new page next more text one two before first put =
    subst (IsWrittenInPart before new) (append_assoc first more text) (two before (first ++ more) (one before first put))

-- what is cut short is a longer text cut short
pub cuts-longer : (old new : Option (List ℕ)) (page text more whole : List ℕ) → whole ≡ text ++ more →
    Cuts old new page text → Cuts old new page whole
cuts-longer old new page text more whole is cut before first put =
    cut-longer before new (first ++ text) more (first ++ whole)
    (ap (λ l. first ++ l) is ∙ sym (append_assoc first text more)) (cut before first put)

-- where a line behind it failed, of which nothing was put
pub cuts-next : (old mid new : Option (List ℕ)) (page next more rest whole : List ℕ) → whole ≡ more ++ rest →
    Puts old mid page next more →
    ((before : Option (List ℕ)) (text : List ℕ) → IsPut before mid next text → IsWrittenInPart before new text) →
    Cuts old new page whole
cuts-next old mid new page next more rest whole is one cut before first put =
    cut-longer before new (first ++ more) rest (first ++ whole)
    (ap (λ l. first ++ l) is ∙ sym (append_assoc first more rest)) (cut before (first ++ more) (one before first put))

-- a whole text, from an empty page on

pub cuts-appends : {T E : Type 0} (old new : Option (List ℕ)) (page text : List ℕ) (e : E) → page ≡ [] →
    Cuts old new page text → Appends {T = T} {E = E} old new text (Err e)
cuts-appends old new page text e empty cut =
    record { ok = tt; failed = (cut old [] (put-nothing old page empty)).holds }

pub puts-appends : {T E : Type 0} (old mid new : Option (List ℕ)) (page last text : List ℕ) (answer : Result T E) →
    page ≡ [] → Puts old mid page last text →
    ((before : Option (List ℕ)) (whole : List ℕ) → IsPut before mid last whole → Appends before new whole answer) →
    Appends old new text answer
puts-appends old mid new page last text answer empty puts rest =
    rest old text (puts old [] (put-nothing old page empty))

-- texts of the entries of a list, one after the other

-- those of the first ones, and then the others
pub texts-cut : {A : Type 0} (f : A → List ℕ) (xs : List A) (k : ℕ) →
    flat_map f xs ≡ flat_map f (take k xs) ++ flat_map f (drop k xs)
texts-cut f xs k = ap (flat_map f) (sym (take-append-drop k xs)) ∙ flat_map-append f (take k xs) (drop k xs)

-- one more
pub texts-next : {A : Type 0} (f : A → List ℕ) (xs : List A) (k : ℕ) (x : A) → k < length xs →
    x ≡ get_or xs k x → flat_map f (take (k + 1) xs) ≡ flat_map f (take k xs) ++ f x
texts-next f xs k x within is =
    ap (flat_map f) (take_more xs k x within ∙ ap (λ y. take k xs ++ y ∷ []) (sym is))
    ∙ flat_map-append f (take k xs) (x ∷ []) ∙ ap (λ l. flat_map f (take k xs) ++ l) (append-nil (f x))
