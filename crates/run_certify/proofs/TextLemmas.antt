-- Texts that are appended one after the other.
use Rattle.std.proofs.Common.{◌≡◌, ℕ, List, [], ◌++◌, refl, ◌∙◌, ap, append_assoc}

-- a line of three words with a number, a word with a text, and an end
pub line-parts : (t0 t1 t2 t3 t4 t5 t6 w1 d1 w2 d2 w3 d3 w4 x z : List ℕ) → t0 ≡ [] →
    t1 ≡ t0 ++ (w1 ++ d1) → t2 ≡ t1 ++ (w2 ++ d2)
    → t3 ≡ t2 ++ (w3 ++ d3) → t4 ≡ t3 ++ w4 → t5 ≡ t4 ++ x → t6 ≡ t5 ++ z →
    t6 ≡ w1 ++ d1 ++ w2 ++ d2 ++ w3 ++ d3 ++ w4 ++ x ++ z
line-parts t0 t1 t2 t3 t4 t5 t6 w1 d1 w2 d2 w3 d3 w4 x z e0 e1 e2 e3 e4 e5 e6 =
    let all : t6 ≡ (w1 ++ d1) ++ (w2 ++ d2) ++ (w3 ++ d3) ++ w4 ++ x ++ z =
    e6 ∙ ap (λ (l : List ℕ). l ++ z) (e5
    ∙ ap (λ (l : List ℕ). l ++ x) (e4 ∙ ap (λ (l : List ℕ). l ++ w4) (e3 ∙ ap (λ (l : List ℕ). l ++ (w3 ++ d3))
    (e2 ∙ ap (λ (l : List ℕ). l ++ (w2 ++ d2)) (e1 ∙ ap (λ (l : List ℕ). l ++ (w1 ++ d1)) e0))))) in
    all ∙ simp append_assoc refl
