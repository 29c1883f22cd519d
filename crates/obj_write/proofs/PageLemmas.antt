-- Text that goes through a page: one after another, cut short, and the whole mesh.
use Rattle.std.proofs.Common.{◌≡◌, ℕ, true, false, List, [], ◌∷◌, ◌++◌, Option, Some, refl, sym, ◌∙◌, ap, inr}
use Rattle.std.proofs.Common.{append_assoc, append-nil}
use Rattle.roam_edge.specs.MeshSink.{WrittenMesh, begun, longer, closed}
use Rattle.roam_edge.specs.Told.{IsPrefix}
use Rattle.obj_write.specs.Page.{Passed, Broken}
use Rattle.obj_write.specs.Written.{mesh_with, Grows, GrowsByPart, IsPartOfMesh}

-- one text and then another
passed-then : (before middle now : Option (List WrittenMesh)) (page page' page'' text more : List ℕ)
    → Passed before middle page page' text → Passed middle now page' page'' more →
    Passed before now page page'' (text ++ more)
passed-then before middle now page page' page'' text more one two = record {
  meshes = λ all mesh is.
      let first = one.meshes all mesh is in
      let second = two.meshes all (longer mesh first.0) first.2 in (
        first.0 ++ second.0,
        sym (append_assoc page text more) ∙ ap (λ t. t ++ more) first.1 ∙ append_assoc first.0 page' more
            ∙ ap (λ t. first.0 ++ t) second.1 ∙ sym (append_assoc first.0 second.0 page''),
        second.2 ∙ ap (λ bytes. Some (all ++ record mesh { bytes = bytes } ∷ []))
            (append_assoc mesh.bytes first.0 second.0),
      );
}

-- the page was handed on, and this is to come behind it
passed-with : (before now : Option (List WrittenMesh)) (page page' more : List ℕ) → Passed before now page page' [] →
    Passed before now (page ++ more) (page' ++ more) []
passed-with before now page page' more one = record {
  meshes = λ all mesh is.
      let first = one.meshes all mesh is in (
        first.0,
        append-nil (page ++ more) ∙ ap (λ t. t ++ more) (sym (append-nil page) ∙ first.1)
            ∙ append_assoc first.0 page' more,
        first.2,
      );
}

-- all of a text is to come behind the page
pub passed-start : (before : Option (List WrittenMesh)) (page text : List ℕ) →
    Passed before before page (page ++ text) text
passed-start before page text = record {
  meshes = λ all mesh is. (
    [],
    refl,
    is ∙ ap (λ bytes. Some (all ++ record mesh { bytes = bytes } ∷ [])) (sym (append-nil mesh.bytes)),
  );
}

-- a text of which a part is to come behind the page, and the page was handed on
pub passed-on : (before middle now : Option (List WrittenMesh)) (page here here' left text : List ℕ)
    → Passed before middle page (here ++ left) text → Passed middle now here here' [] →
    Passed before now page (here' ++ left) text
passed-on before middle now page here here' left text one two =
    rw (← append-nil text) (passed-then before middle now page (here ++ left) (here' ++ left) text [] one
    (passed-with middle now here here' left two))

-- the page was cut short, and more was to come behind it
pub broken-longer : (before now : Option (List WrittenMesh)) (text more : List ℕ) → Broken before now text →
    Broken before now (text ++ more)
broken-longer before now text more cut = record {
  meshes = λ all mesh is.
      let front = cut.meshes all mesh is in (
        front.0,
        record {
          back = front.1.back ++ more;
          joined = ap (λ t. t ++ more) front.1.joined ∙ append_assoc front.0 front.1.back more;
        },
        front.2,
      );
}

-- a text was written, and then what followed was cut short
broken-then : (before middle now : Option (List WrittenMesh)) (page page' text more : List ℕ)
    → Passed before middle page page' text → Broken middle now (page' ++ more) →
    Broken before now (page ++ (text ++ more))
broken-then before middle now page page' text more one cut = record {
  meshes = λ all mesh is.
      let first = one.meshes all mesh is in
      let front = cut.meshes all (longer mesh first.0) first.2 in (
        first.0 ++ front.0,
        record {
          back = front.1.back;
          joined =
              sym (append_assoc page text more) ∙ ap (λ t. t ++ more) first.1 ∙ append_assoc first.0 page' more
              ∙ ap (λ t. first.0 ++ t) front.1.joined ∙ sym (append_assoc first.0 front.0 front.1.back);
        },
        front.2 ∙ ap (λ bytes. Some (all ++ record mesh { bytes = bytes } ∷ []))
            (append_assoc mesh.bytes first.0 front.0),
      );
}

-- a text of which a part is to come behind the page, and the page was cut short
pub broken-on : (before middle now : Option (List WrittenMesh)) (page here left text : List ℕ)
    → Passed before middle page (here ++ left) text → Broken middle now here → Broken before now (page ++ text)
broken-on before middle now page here left text one cut =
    rw (← append-nil text) (broken-then before middle now page (here ++ left) text [] one
    (broken-longer middle now (here ++ left) [] (broken-longer middle now here left cut)))

-- a part of the whole text was written, and then the page was cut short
broken-page : (before middle now : Option (List WrittenMesh)) (page page' text rest whole : List ℕ)
    → Passed before middle page page' text → Broken middle now page' → whole ≡ text ++ rest →
    Broken before now (page ++ whole)
broken-page before middle now page page' text rest whole one cut is =
    rw is (broken-then before middle now page page' text rest one (broken-longer middle now page' rest cut))

module _ (before started later : Option (List WrittenMesh)) (prefix : List ℕ) (number : ℕ) (text : List ℕ)
    (begin : (all : List WrittenMesh) → before ≡ Some all → started ≡ Some (all ++ begun prefix number ∷ [])) where
  -- a mesh was begun, and its text was cut short
  pub begun-cut : Broken started later ([] ++ text) → GrowsByPart before later prefix number text
  begun-cut cut all is =
      let front = cut.meshes all (begun prefix number) (begin all is) in
      (front.0, front.1, front.2)

  pub part-cut : Broken started later ([] ++ text) → (all : List WrittenMesh) → before ≡ Some all
      → (part : List WrittenMesh) × IsPartOfMesh prefix number text part × (later ≡ Some (all ++ part))
  part-cut cut all is =
      let front = cut.meshes all (begun prefix number) (begin all is) in
      (mesh_with prefix number front.0 false ∷ [], inr (front.0, front.1, refl), front.2)

  module _ (written : Option (List WrittenMesh)) (page : List ℕ) (lines : Passed started written [] page text) where
    -- a mesh was begun and its text passed to the page, and the rest was cut short
    pub begun-rest : ((all : List WrittenMesh) (mesh : WrittenMesh) → written ≡ Some (all ++ mesh ∷ [])
        → (front : List ℕ) × IsPrefix front page × (later ≡ Some (all ++ longer mesh front ∷ [])))
        → GrowsByPart before later prefix number text
    begun-rest rest = begun-cut (broken-page started written later [] page text [] text lines
        (record { meshes = rest }) (sym (append-nil text)))

    pub part-rest : ((all : List WrittenMesh) (mesh : WrittenMesh) → written ≡ Some (all ++ mesh ∷ [])
        → (front : List ℕ) × IsPrefix front page × (later ≡ Some (all ++ longer mesh front ∷ [])))
        → (all : List WrittenMesh) → before ≡ Some all
        → (part : List WrittenMesh) × IsPartOfMesh prefix number text part × (later ≡ Some (all ++ part))
    part-rest rest = part-cut (broken-page started written later [] page text [] text lines
        (record { meshes = rest }) (sym (append-nil text)))

    module _ (now : Option (List WrittenMesh))
        (rest : (all : List WrittenMesh) (mesh : WrittenMesh) → written ≡ Some (all ++ mesh ∷ [])
        → later ≡ Some (all ++ longer mesh page ∷ [])) where
      -- the whole text was written
      written-whole : (all : List WrittenMesh) → before ≡ Some all →
          later ≡ Some (all ++ mesh_with prefix number text false ∷ [])
      written-whole all is =
          let piece = lines.meshes all (begun prefix number) (begin all is) in
          rest all (longer (begun prefix number) piece.0) piece.2
          ∙ ap (λ bytes. Some (all ++ mesh_with prefix number bytes false ∷ [])) (sym piece.1)

      -- and finished
      pub whole-mesh : ((all : List WrittenMesh) (mesh : WrittenMesh) → later ≡ Some (all ++ mesh ∷ [])
          → now ≡ Some (all ++ closed mesh ∷ []))
          → Grows before now (mesh_with prefix number text true ∷ [])
      whole-mesh finish all is = finish all (mesh_with prefix number text false) (written-whole all is)

      -- but not finished
      pub begun-finish : now ≡ later → GrowsByPart before now prefix number text
      begun-finish same all is =
          (text, record { back = []; joined = sym (append-nil text) }, same ∙ written-whole all is)

      pub part-finish : now ≡ later → (all : List WrittenMesh) → before ≡ Some all
          → (part : List WrittenMesh) × IsPartOfMesh prefix number text part × (now ≡ Some (all ++ part))
      part-finish same all is = (
        mesh_with prefix number text false ∷ [],
        inr (text, record { back = []; joined = sym (append-nil text) }, refl),
        same ∙ written-whole all is,
      )
