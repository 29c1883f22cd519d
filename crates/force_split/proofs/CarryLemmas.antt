-- What each split of a chain asks for, and what it adds.
use Rattle.std.proofs.Common.{◌≡◌, ap, sym, ◌∙◌, true, ℕ, ◌+◌, ◌*◌, ◌/◌, ◌^◌, ◌<◌, ◌≤◌, refl, arith, inl, inr}
use Rattle.std.proofs.Common.{⊎_elim, subst, List, [], ◌∷◌, ◌++◌, length, get_or}
use Rattle.std.proofs.lemmas.Bool.{cases_lt, cases_Bool, true≢false}
use Rattle.std.proofs.lemmas.Option.{IfSome_then}
use Rattle.mesh_defs.specs.Triangle.{level_of}
use Rattle.bintree_addr.specs.declared.slot.Slot.{Slot}
use Rattle.mesh_laws.specs.Edge.{mate_of}
use Rattle.mesh_laws.proofs.MateLemmas.{mate_of-low}
use Rattle.triangle_pool.specs.declared.pool.Born.{Born}
use Rattle.mesh_laws.specs.Slots.{address_at, has_children, IsLive, split_set, IsPool, IsSplit, diamond_size, HasLeaf}
use Rattle.triangle_pool.specs.Answer.{numbers, AreChildren, IsBorn, IsBirth}
use Rattle.mesh_laws.proofs.SlotLemmas.{has_children-set, set-has_children, size_one, size_two}
use Rattle.force_split.specs.Chain.{IsChain, IsChained, IsBornOf, IsAnswer, AreAnswers, chain_size}
use Rattle.force_split.proofs.ChainLemmas.{low_less, chained_shut, chained_up, chained_step, next_coarse}

-- what is known of the slots that are to be split
pub record IsTask (n : ℕ) (pairs : List ℕ) (room splits : ℕ) (slots : List Slot) : Type 0 where
  pub chain : IsChain pairs (numbers slots)
  pub coarse : 1 ≤ length slots → level_of (address_at pairs (get_or (numbers slots) 0 0)) < 2 * n
  pub fits : chain_size pairs (numbers slots) ≤ room
  pub count : splits + chain_size pairs (numbers slots) < 2 ^ 62

rest_coarse : (n : ℕ) (pairs : List ℕ) (first : Slot) (rest : List Slot) → IsChain pairs (numbers (first ∷ rest)) →
    level_of (address_at pairs first.0) < 2 * n → 1 ≤ length rest →
    level_of (address_at pairs (get_or (numbers rest) 0 0)) < 2 * n
rest_coarse n pairs first [] chain coarse some = absurd (omega (arith, some))
rest_coarse n pairs first (second ∷ rest) chain coarse some =
    next_coarse n pairs first.0 second.0 (numbers rest) chain coarse

-- what is known of the slots is so of all but the first
pub rest_task : (n : ℕ) (pairs : List ℕ) (room splits : ℕ) (slots : List Slot) (first : Slot) (rest : List Slot) →
    slots ≡ first ∷ rest → IsTask n pairs room splits slots → IsTask n pairs room splits rest
rest_task n pairs room splits slots first rest is task =
    let all : IsTask n pairs room splits (first ∷ rest) = subst (IsTask n pairs room splits) is task in
    let fits = all.fits in let count = all.count in
    record {
      chain = all.chain.1.1;
      coarse = rest_coarse n pairs first rest all.chain (all.coarse (omega arith));
      fits = omega arith;
      count = omega arith;
    }

-- the first slot's triangle when its turn comes
pub record IsTurn (n : ℕ) (old mid : List ℕ) (s : ℕ) : Type 0 where
  pub same : address_at mid s ≡ address_at old s
  pub leaf : HasLeaf mid s
  pub level : 1 ≤ mate_of (address_at mid s) → has_children mid (mate_of (address_at mid s) / 2) ≡ true

-- once the rest of the chain is split, the first slot's triangle is still a leaf there, and any mate of it is live
pub turn : (n : ℕ) (old mid : List ℕ) (s : ℕ) (rest : List ℕ) → IsPool n old → has_children mid 1 ≡ true →
    IsChain old (s ∷ rest) → IsChained n old rest (split_set mid) →
    ((r : ℕ) → IsLive old r → address_at mid r ≡ address_at old r) → IsTurn n old mid s
turn n old mid s rest pool root chain h kept =
    let a : ℕ = address_at old s in
    let low = chain.0.live in
    let same : address_at mid s ≡ a = kept s low in
    record {
      same = same;
      leaf = record {
        live = omega arith;
        leaf = ap (has_children mid) same ∙ ⊎_elim (λ is_split. absurd (true≢false
            (sym (has_children-set mid a low is_split) ∙ (chained_shut n old s rest (split_set mid) pool chain h).0)))
            (λ shut. shut) (cases_Bool (has_children mid a));
      };
      level = λ some.
          let b = mate_of-low (address_at mid s) (omega arith) some in
          ⊎_elim
          (λ top. ap (has_children mid) (let half : mate_of (address_at mid s) / 2 ≡ 1 = omega arith in half) ∙ root)
          (λ deep. ap (λ t. has_children mid (mate_of t / 2)) same
          ∙ set-has_children mid (mate_of a / 2) (chained_up n old s rest (split_set mid) chain.1.0 h
          (let z : mate_of (address_at mid s) ≡ mate_of a = ap mate_of same in omega arith)))
          (cases_lt (mate_of (address_at mid s)) 4);
    }

-- a split of the first slot's triangle, after the rest of the chain, makes the set that of the whole chain
pub task_step : (n : ℕ) (old mid new : List ℕ) (slots : List Slot) (first : Slot) (rest : List Slot) (room splits : ℕ) →
    slots ≡ first ∷ rest → IsPool n old → IsTask n old room splits slots →
    IsChained n old (numbers rest) (split_set mid) → address_at mid first.0 ≡ address_at old first.0 →
    IsSplit mid new (address_at mid first.0) → IsChained n old (numbers slots) (split_set new)
task_step n old mid new slots first rest room splits is pool task h same split =
    let all : IsTask n old room splits (first ∷ rest) = subst (IsTask n old room splits) is task in
    subst (λ t. IsChained n old (numbers t) (split_set new)) (sym is)
    (chained_step n old first.0 (numbers rest) (split_set mid) (split_set new) pool all.chain
    (all.coarse (omega arith)) h
    (subst (IsSplit mid new) same split).grown)

-- ---- the answers

-- a slot that was given out is one of those given out after more splits
pub born_old : (answers more : List Born) (r : ℕ) → IsBornOf answers r → IsBornOf (answers ++ more) r
born_old [] more r h = absurd h
born_old (born ∷ answers) more r (inl here) = inl here
born_old (born ∷ answers) more r (inr there) = inr (born_old answers more r there)

-- and so is a slot that the last split gave out
pub born_new : (answers : List Born) (born : Born) (r : ℕ) → IsBorn born r → IsBornOf (answers ++ (born ∷ [])) r
born_new [] born r h = inl h
born_new (other ∷ answers) born r h = inr (born_new answers born r h)

-- ---- the size of a chain

diamond_small : (a : ℕ) → diamond_size a ≤ 2
diamond_small a =
    ⊎_elim (λ few. let one = size_one a (let none : mate_of a ≡ 0 = omega arith in none) in omega arith)
    (λ some. let two = size_two a some in omega arith) (cases_lt (mate_of a) 1)

-- at most two triangles are split on each level of a chain
size_levels : (pairs : List ℕ) (s : ℕ) (rest : List ℕ) → IsChain pairs (s ∷ rest) →
    chain_size pairs (s ∷ rest) ≤ 2 * level_of (address_at pairs s) + 2
size_levels pairs s [] chain = let one = diamond_small (address_at pairs s) in omega arith
size_levels pairs s (t ∷ rest) chain =
    let one = diamond_small (address_at pairs s) in
    let more = size_levels pairs t rest chain.1.1 in
    let same : level_of (address_at pairs t) ≤ level_of (address_at pairs t) = omega arith in
    let less = low_less pairs s (t ∷ rest) (address_at pairs t) chain.0 chain.1.0 chain.1.1 same in
    omega arith

-- so a chain of splittable leaves has at most 4 n
pub size_small : (n : ℕ) (pairs slots : List ℕ) → IsChain pairs slots →
    level_of (address_at pairs (get_or slots 0 0)) < 2 * n → chain_size pairs slots ≤ 4 * n
size_small n pairs [] chain coarse = omega arith
size_small n pairs (s ∷ rest) chain coarse = let less = size_levels pairs s rest chain in omega arith

-- ---- which slots the answers hold

children_kept : (mid new : List ℕ) (a : ℕ) (pair : Slot × Slot) → 1 ≤ a →
    ((r : ℕ) → IsLive mid r → address_at new r ≡ address_at mid r) → AreChildren mid a pair → AreChildren new a pair
children_kept mid new a pair low kept h =
    let x = h.0 in
    let y = h.1 in
    (kept pair.0.0 (omega arith) ∙ h.0, kept pair.1.0 (omega arith) ∙ h.1)

answer_kept : (old mid new : List ℕ) (s : ℕ) (born : Born) → IsLive old s →
    ((r : ℕ) → IsLive mid r → address_at new r ≡ address_at mid r) → IsAnswer old mid s born → IsAnswer old new s born
answer_kept old mid new s born live kept h = record {
  first = children_kept mid new (address_at old s) born.first (omega arith) kept h.first;
  second = IfSome_then born.second h.second
      (λ pair v. (v.0, children_kept mid new (mate_of (address_at old s)) pair v.0 kept v.1));
  alone = h.alone;
}

-- later splits leave the answers as they are
answers_kept : (old mid new slots : List ℕ) (answers : List Born) → IsChain old slots →
    ((r : ℕ) → IsLive mid r → address_at new r ≡ address_at mid r) → AreAnswers old mid slots answers →
    AreAnswers old new slots answers
answers_kept old mid new [] answers chain kept h = h
answers_kept old mid new (s ∷ rest) answers chain kept h = (
  h.0,
  h.1,
  h.2,
  answers_kept old mid new rest h.0 chain.1.1 kept h.3,
  answer_kept old mid new s h.1 chain.0.live kept h.4,
)

-- the answer of the first slot comes behind those of the rest
pub answers_step : (old mid new : List ℕ) (slots : List Slot) (first : Slot) (rest : List Slot) (more : List Born)
    (born : Born) → slots ≡ first ∷ rest → IsChain old (numbers slots) →
    AreAnswers old mid (numbers rest) more → ((r : ℕ) → IsLive mid r → address_at new r ≡ address_at mid r) →
    address_at mid first.0 ≡ address_at old first.0 →
    IsBirth mid new (address_at mid first.0) born → AreAnswers old new (numbers slots) (more ++ (born ∷ []))
answers_step old mid new slots first rest more born is chain before kept same birth =
    let all : IsChain old (numbers (first ∷ rest)) = subst (λ x. IsChain old (numbers x)) is chain in
    let own : IsBirth mid new (address_at old first.0) born = subst (λ a. IsBirth mid new a born) same birth in
    subst (λ x. AreAnswers old new (numbers x) (more ++ (born ∷ []))) (sym is) (
      more,
      born,
      refl,
      answers_kept old mid new (numbers rest) more all.1.1 kept before,
      record { first = own.first; second = own.second; alone = own.alone },
    )
