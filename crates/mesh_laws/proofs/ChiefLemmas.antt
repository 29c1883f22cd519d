-- The chief of a diamond: by cases, and that it is also the chief of the mate.
use Rattle.std.proofs.Common.{◌≡◌, ◌⊎◌, ℕ, ◌≤◌, min, inl, inr, refl, ap, arith, ⊎_elim}
use Rattle.std.proofs.lemmas.Bool.{cases_lt, lt-ltb}
use Rattle.mesh_laws.specs.Edge.{mate_of}
use Rattle.mesh_laws.specs.Chief.{chief_of}
use Rattle.mesh_laws.proofs.MateLemmas.{mate_of-low, mate_of-back}

-- without a mate a triangle is its own chief
pub chief_of-alone : (a : ℕ) → mate_of a ≡ 0 → chief_of a ≡ a
chief_of-alone a none = rw (none, chief_of) refl

-- with one the chief is the lesser of the two
pub chief_of-mates : (a : ℕ) → 1 ≤ mate_of a → chief_of a ≡ min a (mate_of a)
chief_of-mates a some = rw (lt-ltb 0 (mate_of a) some, chief_of) refl

-- the chief is the triangle or its mate
pub chief_of-cases : (a : ℕ) → (chief_of a ≡ a) ⊎ ((1 ≤ mate_of a) × (chief_of a ≡ mate_of a))
chief_of-cases a = ⊎_elim
    (λ none. inl (chief_of-alone a (let z : mate_of a ≡ 0 = omega arith in z)))
    (λ some. let lesser = chief_of-mates a some in ⊎_elim
    (λ less. inl (let z : chief_of a ≡ a = omega arith in z))
    (λ more. inr (some, (let z : chief_of a ≡ mate_of a = omega arith in z)))
    (cases_lt a (mate_of a)))
    (cases_lt (mate_of a) 1)

-- the chief of an address is an address
pub chief_of-low : (a : ℕ) → 2 ≤ a → 2 ≤ chief_of a
chief_of-low a low = ⊎_elim
    (λ few. let alone = chief_of-alone a (omega arith) in omega arith)
    (λ some. let lesser = chief_of-mates a some in let high = mate_of-low a low some in omega arith)
    (cases_lt (mate_of a) 1)

-- it is also the chief of the mate
pub chief_of-mate : (a : ℕ) → 2 ≤ a → 1 ≤ mate_of a → chief_of (mate_of a) ≡ chief_of a
chief_of-mate a low some =
    let high = mate_of-low a low some in
    let back = mate_of-back a low some in
    let own = chief_of-mates a some in
    let other = chief_of-mates (mate_of a) (let more : 1 ≤ mate_of (mate_of a) = omega arith in more) in
    let same : min (mate_of a) (mate_of (mate_of a)) ≡ min (mate_of a) a = ap (min (mate_of a)) back in omega arith
