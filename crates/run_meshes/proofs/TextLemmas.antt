-- Texts that are appended one after the other.
use Rattle.std.proofs.Common.{◌≡◌, ℕ, List, [], ◌++◌, refl, ◌∙◌, ap, append_assoc}

-- words and numbers behind a text
pub words-numbers : (t0 t1 t2 t3 t4 w1 d1 w2 d2 w3 x : List ℕ) → t1 ≡ t0 ++ (w1 ++ d1) → t2 ≡ t1 ++ (w2 ++ d2) →
    t3 ≡ t2 ++ w3 → t4 ≡ t3 ++ x
    → t4 ≡ t0 ++ (w1 ++ d1 ++ w2 ++ d2 ++ w3 ++ x)
words-numbers t0 t1 t2 t3 t4 w1 d1 w2 d2 w3 x e1 e2 e3 e4 =
    let all : t4 ≡ t0 ++ (w1 ++ d1) ++ (w2 ++ d2) ++ w3 ++ x =
    e4 ∙ ap (λ (l : List ℕ). l ++ x) (e3
    ∙ ap (λ (l : List ℕ). l ++ w3) (e2 ∙ ap (λ (l : List ℕ). l ++ (w2 ++ d2)) e1)) in
    all ∙ simp append_assoc refl

-- a whole line
pub line-numbers : (t0 t1 t2 t3 t4 w1 d1 w2 d2 w3 d3 w4 d4 w5 x z : List ℕ) → t0 ≡ [] →
    t1 ≡ t0 ++ (w1 ++ d1) → t2 ≡ t1 ++ (w2 ++ d2)
    → t3 ≡ t2 ++ (w3 ++ d3 ++ w4 ++ d4 ++ w5 ++ x) → t4 ≡ t3 ++ z →
    t4 ≡ w1 ++ d1 ++ w2 ++ d2 ++ w3 ++ d3 ++ w4 ++ d4 ++ w5 ++ x ++ z
line-numbers t0 t1 t2 t3 t4 w1 d1 w2 d2 w3 d3 w4 d4 w5 x z e0 e1 e2 e3 e4 =
    let all : t4 ≡ (w1 ++ d1) ++ (w2 ++ d2) ++ (w3 ++ d3 ++ w4 ++ d4 ++ w5 ++ x) ++ z =
    e4 ∙ ap (λ (l : List ℕ). l ++ z) (e3 ∙ ap (λ (l : List ℕ). l ++ (w3 ++ d3 ++ w4 ++ d4 ++ w5 ++ x))
    (e2 ∙ ap (λ (l : List ℕ). l ++ (w2 ++ d2)) (e1 ∙ ap (λ (l : List ℕ). l ++ (w1 ++ d1)) e0))) in
    all ∙ simp append_assoc refl
