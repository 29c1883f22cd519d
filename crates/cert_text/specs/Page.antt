-- What a sink has got of a text that is put through a page. This project's own words.
-- Words: IsPut, IsWrittenInPart, Puts, Cuts.
use Rattle.std.specs.Prelude.{◌≡◌, ℕ, List, ◌++◌, Option, Some}
use Rattle.roam_edge.specs.Told.{IsPrefix}

-- the text was put since the sink told `before`: it has got all of it but for what the page holds
pub record IsPut (before now : Option (List ℕ)) (page text : List ℕ) : Type 0 where
  pub holds : (all : List ℕ) → before ≡ Some all →
      (front : List ℕ) × (now ≡ Some (all ++ front)) × (text ≡ front ++ page)

-- since the sink told `before`, it has got a prefix of this text
pub record IsWrittenInPart (before now : Option (List ℕ)) (text : List ℕ) : Type 0 where
  pub holds : (all : List ℕ) → before ≡ Some all → (front : List ℕ) × IsPrefix front text × (now ≡ Some (all ++ front))

-- between two moments of a sink and its page, this was put behind whatever text had been put
abbrev pub Puts : Option (List ℕ) → Option (List ℕ) → List ℕ → List ℕ → List ℕ → Type 0
Puts old new page next more =
    (before : Option (List ℕ)) (text : List ℕ) → IsPut before old page text → IsPut before new next (text ++ more)

-- and putting it was cut short
abbrev pub Cuts : Option (List ℕ) → Option (List ℕ) → List ℕ → List ℕ → Type 0
Cuts old new page more =
    (before : Option (List ℕ)) (text : List ℕ) → IsPut before old page text → IsWrittenInPart before new (text ++ more)
