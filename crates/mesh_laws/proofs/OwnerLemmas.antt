-- Which leaf has an edge, and which has it reversed.
use Rattle.std.proofs.Common.{◌≡◌, ◌≢◌, ◌-◌, ap, sym, ◌∙◌, ◌⊎◌, Bool, true, false, ℕ, ◌/◌, ◌≤◌, refl, arith, inl, inr}
use Rattle.std.proofs.Common.{⊎_elim}
use Rattle.std.proofs.lemmas.Bool.{cases_lt, cases_Bool, true≢false}
use Rattle.mesh_laws.specs.Edge.{mate_of, owner}
use Rattle.mesh_laws.proofs.MateLemmas.{mate_of-root, mate_of-first, mate_of-back, mate_of-low, IsStep-mate_of}
use Rattle.mesh_laws.proofs.MateLemmas.{four_cases}

-- where the edge's triangle is there, it has the edge
pub owner-split : (split : ℕ → Bool) (e : ℕ) → split (e / 2) ≡ true → owner split e ≡ e
owner-split split e h = rw (h, owner) refl

-- where it is not, its parent has the edge as a leg
pub owner-whole : (split : ℕ → Bool) (e : ℕ) → split (e / 2) ≡ false → owner split e ≡ e / 2
owner-whole split e h = rw (h, owner) refl

-- so there are two cases
pub owner_cases : (split : ℕ → Bool) (e : ℕ) →
    ((split (e / 2) ≡ true) × (owner split e ≡ e)) ⊎ ((split (e / 2) ≡ false) × (owner split e ≡ e / 2))
owner_cases split e =
    ⊎_elim (λ h. inl (h, owner-split split e h)) (λ h. inr (h, owner-whole split e h)) (cases_Bool (split (e / 2)))

-- only the parent of the edge's triangle counts
pub owner-same : (split other : ℕ → Bool) (e : ℕ) → split (e / 2) ≡ other (e / 2) → owner split e ≡ owner other e
owner-same split other e h = rw (h, owner) refl

-- where the square is split, each edge has an owner that is a triangle
pub owner-low : (split : ℕ → Bool) (e : ℕ) → split 1 ≡ true → 2 ≤ e → 2 ≤ owner split e
owner-low split e root low = ⊎_elim
    (λ top. let half : e / 2 ≡ 1 = omega arith in let o = owner-split split e (ap split half ∙ root) in omega arith)
    (λ deep. elim (owner_cases split e) [ inl v ↦ let o = v.1 in omega arith | inr v ↦ let o = v.1 in omega arith ])
    (cases_lt e 4)

-- no triangle is split and whole
pub never : (split : ℕ → Bool) (p : ℕ) → split p ≡ true → split p ≡ false → ⊥
never split p h k = true≢false (sym h ∙ k)

-- what is split holds the square and, with each triangle, its parent and its mate
pub record IsSplitSet (split : ℕ → Bool) : Type 0 where
  pub root : split 1 ≡ true
  pub parent : (p : ℕ) → 2 ≤ p → split p ≡ true → split (p / 2) ≡ true
  pub mate : (p : ℕ) → 2 ≤ p → split p ≡ true → 1 ≤ mate_of p → split (mate_of p) ≡ true

-- the owner of the reversed edge is a triangle of the set: its parent is split
pub owner-live : (split : ℕ → Bool) (e : ℕ) → IsSplitSet split → 2 ≤ e →
    split (owner split e / 2) ≡ true → 1 ≤ mate_of e →
    split (owner split (mate_of e) / 2) ≡ true
owner-live split e whole two live some =
    elim (owner_cases split (mate_of e)) [
      | inl v ↦ ap (λ t. split (t / 2)) v.1 ∙ v.0
      | inr v ↦
          let across_low : 2 ≤ mate_of e = mate_of-low e two some in
          ⊎_elim (λ root. absurd (let half : mate_of e / 2 ≡ 1 = omega arith in
          never split (mate_of e / 2) (ap split half ∙ whole.root) v.0))
          (λ past. ⊎_elim (λ first. absurd (let back : mate_of (mate_of e) ≡ e = mate_of-back e two some in
          let z = mate_of-first (mate_of e) past first in omega arith))
          (λ deep.
          let e_deep : 8 ≤ e = ⊎_elim (λ small. absurd (⊎_elim
          (λ root. let z = mate_of-root e two root in omega arith)
          (λ first. let z = mate_of-first e first small in omega arith) (cases_lt e 4))) (λ big. big) (cases_lt e 8) in
          let quarter : e / 2 / 2 ≡ e / 4 = omega arith in
          let up : split (e / 4) ≡ true = elim (owner_cases split e) [
            | inl u ↦ ap split (sym quarter) ∙ whole.parent (e / 2) (omega arith) u.0
            | inr u ↦ ap split (sym quarter) ∙ ap (λ t. split (t / 2)) (sym u.1) ∙ live
          ] in
          let step = IsStep-mate_of e e_deep in
          let same : split (mate_of e / 4) ≡ true = elim (four_cases e) [
            | inl h ↦ let f = step.first h in let z : mate_of e / 4 ≡ e / 4 = omega arith in ap split z ∙ up
            | inr (inl h) ↦ ⊎_elim (λ none. absurd (let f = step.second_none h (omega arith) in omega arith))
                (λ mate. let f = step.second h mate in let z : mate_of e / 4 ≡ mate_of (e / 4) = omega arith in
                ap split z ∙ whole.mate (e / 4) (omega arith) up mate) (cases_lt (mate_of (e / 4)) 1)
            | inr (inr (inl h)) ↦ ⊎_elim (λ none. absurd (let f = step.third_none h (omega arith) in omega arith))
                (λ mate. let f = step.third h mate in let z : mate_of e / 4 ≡ mate_of (e / 4) = omega arith in
                ap split z ∙ whole.mate (e / 4) (omega arith) up mate) (cases_lt (mate_of (e / 4)) 1)
            | inr (inr (inr h)) ↦ let f = step.last h in let z : mate_of e / 4 ≡ e / 4 = omega arith in ap split z ∙ up
          ] in
          let z : owner split (mate_of e) / 2 ≡ mate_of e / 4 = let o = v.1 in omega arith in
          ap split z ∙ same)
          (cases_lt (mate_of e) 8)) (cases_lt (mate_of e) 4)
    ]
