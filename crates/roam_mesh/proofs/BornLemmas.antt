-- The slots that a chain of splits gives out.
use Rattle.std.proofs.Common.{◌≡◌, ℕ, ◌+◌, ◌*◌, ◌/◌, ◌≤◌, ◌⊎◌, inl, inr, true, List, [], ◌∷◌, ◌++◌, Option, None, Some}
use Rattle.std.proofs.Common.{IfSome, IsSomeAnd, refl, sym, ◌∙◌, ap, subst, arith, ⊎_elim}
use Rattle.std.proofs.lemmas.Bool.{false≢true}
use Rattle.mesh_defs.specs.ClosedSet.{among}
use Rattle.mesh_laws.specs.Edge.{mate_of}
use Rattle.mesh_laws.specs.Slots.{address_at}
use Rattle.bintree_addr.specs.declared.slot.Slot.{Slot}
use Rattle.triangle_pool.specs.declared.pool.Born.{Born}
use Rattle.triangle_pool.specs.Answer.{AreChildren, IsOfPair, IsBorn}
use Rattle.force_split.specs.Chain.{IsBornOf, AreAnswers}
use Rattle.roam_mesh.specs.Splitting.{pair_slots, second_slots, born_slots}
use Rattle.roam_mesh.proofs.SlotListLemmas.{in_left, in_right, in_either, in_first, in_later, in_cases}

-- the slots that were given out are those that are listed

pair_in : (pair : Slot × Slot) (r : ℕ) → IsOfPair pair r → among (pair_slots pair) r ≡ true
pair_in pair r (inl left) = in_first r pair.0.0 (pair.1.0 ∷ []) (sym left)
pair_in pair r (inr right) = in_later r pair.0.0 (pair.1.0 ∷ []) (in_first r pair.1.0 [] (sym right))

in_pair : (pair : Slot × Slot) (r : ℕ) → among (pair_slots pair) r ≡ true → IsOfPair pair r
in_pair pair r h = ⊎_elim
    (λ left. inl left)
    (λ rest. inr (⊎_elim (λ right. right) (λ none. absurd (false≢true none)) (in_cases r pair.1.0 [] rest)))
    (in_cases r pair.0.0 (pair.1.0 ∷ []) h)

second_in : (second : Option (Slot × Slot)) (r : ℕ) → IsSomeAnd second (λ pair. IsOfPair pair r) →
    among (second_slots second) r ≡ true
second_in None r h = absurd h
second_in (Some pair) r h = pair_in pair r h

in_second : (second : Option (Slot × Slot)) (r : ℕ) → among (second_slots second) r ≡ true →
    IsSomeAnd second (λ pair. IsOfPair pair r)
in_second None r h = absurd (false≢true h)
in_second (Some pair) r h = in_pair pair r h

-- a slot that splits gave out is listed
pub born_in : (answers : List Born) (r : ℕ) → IsBornOf answers r → among (born_slots answers) r ≡ true
born_in [] r h = absurd h
born_in (born ∷ others) r (inl (inl first)) =
    in_left r (pair_slots born.first ++ second_slots born.second) (born_slots others)
    (in_left r (pair_slots born.first) (second_slots born.second) (pair_in born.first r first))
born_in (born ∷ others) r (inl (inr second)) =
    in_left r (pair_slots born.first ++ second_slots born.second) (born_slots others)
    (in_right r (pair_slots born.first) (second_slots born.second) (second_in born.second r second))
born_in (born ∷ others) r (inr rest) =
    in_right r (pair_slots born.first ++ second_slots born.second) (born_slots others) (born_in others r rest)

-- and what is listed was given out
pub in_born : (answers : List Born) (r : ℕ) → among (born_slots answers) r ≡ true → IsBornOf answers r
in_born [] r h = absurd (false≢true h)
in_born (born ∷ others) r h = ⊎_elim
    (λ own. inl (⊎_elim
    (λ first. inl (in_pair born.first r first))
    (λ second. inr (in_second born.second r second))
    (in_either r (pair_slots born.first) (second_slots born.second) own)))
    (λ rest. inr (in_born others r rest))
    (in_either r (pair_slots born.first ++ second_slots born.second) (born_slots others) h)

-- slot r has a child of the triangle a or of its mate
abbrev pub IsChildOf : List ℕ → ℕ → ℕ → Type 0
IsChildOf pairs a r = (address_at pairs r / 2 ≡ a) ⊎ ((1 ≤ mate_of a) × (address_at pairs r / 2 ≡ mate_of a))

pair_parent : (pairs : List ℕ) (a : ℕ) (pair : Slot × Slot) (r : ℕ) → AreChildren pairs a pair → IsOfPair pair r →
    address_at pairs r / 2 ≡ a
pair_parent pairs a pair r are (inl left) =
    let at : address_at pairs r ≡ 2 * a = ap (address_at pairs) left ∙ are.0 in
    omega arith
pair_parent pairs a pair r are (inr right) =
    let at : address_at pairs r ≡ 2 * a + 1 = ap (address_at pairs) right ∙ are.1 in
    omega arith

second_parent : (pairs : List ℕ) (m : ℕ) (second : Option (Slot × Slot)) (r : ℕ) →
    IfSome second (λ pair. (1 ≤ m) × AreChildren pairs m pair) →
    IsSomeAnd second (λ pair. IsOfPair pair r) → (1 ≤ m) × (address_at pairs r / 2 ≡ m)
second_parent pairs m None r are h = absurd h
second_parent pairs m (Some pair) r are h = (are.0, pair_parent pairs m pair r are.1 h)

-- the answers to two rows of splits
pub born_either : (answers : List Born) (born : Born) (r : ℕ) → IsBornOf (answers ++ (born ∷ [])) r →
    IsBornOf answers r ⊎ IsBorn born r
born_either [] born r (inl own) = inr own
born_either [] born r (inr none) = absurd none
born_either (other ∷ answers) born r (inl own) = inl (inl own)
born_either (other ∷ answers) born r (inr rest) =
    ⊎_elim (λ old. inl (inr old)) (λ own. inr own) (born_either answers born r rest)

-- each has a child of a triangle of the chain or of its mate
pub born_parent : (old new chain : List ℕ) (answers : List Born) (r : ℕ) →
    AreAnswers old new chain answers → IsBornOf answers r →
    (c : ℕ) × (among chain c ≡ true) × IsChildOf new (address_at old c) r
born_parent old new [] answers r are h = absurd (subst (λ z. IsBornOf z r) are h)
born_parent old new (c ∷ rest) answers r (before, born, same, are, answer) h = ⊎_elim
    (λ old_one.
    let found : (c : ℕ) × (among rest c ≡ true) × IsChildOf new (address_at old c) r =
    born_parent old new rest before r are old_one in
    (found.0, in_later found.0 c rest found.1, found.2))
    (λ own. (
      c,
      in_first c c rest refl,
      ⊎_elim
          (λ first. inl (pair_parent new (address_at old c) born.first r answer.first first))
          (λ second. inr (second_parent new (mate_of (address_at old c)) born.second r answer.second second))
          own,
    ))
    (born_either before born r (subst (λ z. IsBornOf z r) same h))

-- and each triangle of the chain has a left child
pub chain_child : (old new chain : List ℕ) (answers : List Born) (c : ℕ) →
    AreAnswers old new chain answers → among chain c ≡ true →
    (r : ℕ) × (address_at new r ≡ 2 * address_at old c)
chain_child old new [] answers c are h = absurd (false≢true h)
chain_child old new (x ∷ rest) answers c (before, born, same, are, answer) h = ⊎_elim
    (λ own. (born.first.0.0, answer.first.0 ∙ ap (λ z. 2 * address_at old z) (sym own)))
    (λ others. chain_child old new rest before c are others)
    (in_cases c x rest h)
