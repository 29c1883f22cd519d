-- What draws are: runs of triangles of one page each, one behind the other.
use Rattle.std.proofs.Common.{◌≡◌, ℕ, suc, ◌+◌, ◌*◌, ◌/◌, ◌≤◌, true, false, IsTrue, ◌||◌, nat_eq, cond, inl, inr, refl, sym, ◌&&◌, ◌<◌}
use Rattle.std.proofs.Common.{◌∙◌, ap, subst, arith, ⊎_elim, List, [], ◌∷◌, ◌++◌, length, map, replicate, append_assoc}
use Rattle.std.proofs.lemmas.Bool.{cases_Bool, and_parts, eqb-true}
use Rattle.std.proofs.lemmas.List.{replicate-append-replicate}
use Rattle.mesh_defs.specs.declared.point.Point.{Point}
use Rattle.mesh_defs.specs.ClosedSet.{IsSubset}
use Rattle.mesh_laws.specs.Edge.{mate_of}
use Rattle.mesh_laws.proofs.DescentLemmas.{All-leaves_of}
use Rattle.page_store.specs.declared.locate.PageTriangle.{PageTriangle}
use Rattle.page_store.specs.Store.{Store, known_in}
use Rattle.page_store.specs.Locate.{IsInReach}
use Rattle.page_priority.specs.Loaded.{is_open}
use Rattle.world_loop.specs.declared.draws.Draw.{Draw}
use Rattle.world_loop.specs.World.{WorldState, loaded_of, is_split, mesh_seen}
use Rattle.world_loop.specs.Draws.{AreInReach, draw_at, are_of_one_page, joined, draws_from, page_of, pages_drawn, AreInTurn}
use Rattle.world_loop.specs.Draws.{AreApart}
use Rattle.world_loop.proofs.DrawLemmas.{same-page}

-- one behind the other

joined-turn : (d : Draw) (draws : List Draw) (end : ℕ) → 1 ≤ d.triangles → AreInTurn (d.first + d.triangles) draws end →
    AreInTurn d.first (joined d draws) end
joined-turn d [] end some rest = (refl, some, rest)
joined-turn d (e ∷ draws) end some rest = ⊎_elim
    (λ (is : are_of_one_page d e ≡ true).
    let more = rest.1 in
    let sum : d.first + d.triangles + e.triangles ≡ d.first + (d.triangles + e.triangles) = omega arith in
    subst (λ b. AreInTurn d.first (cond b (record d { triangles = d.triangles + e.triangles } ∷ draws) (d ∷ (e ∷ draws))) end)
    (sym is) (refl, omega arith, subst (λ k. AreInTurn k draws end) sum rest.2))
    (λ (not : are_of_one_page d e ≡ false).
    subst (λ b. AreInTurn d.first (cond b (record d { triangles = d.triangles + e.triangles } ∷ draws) (d ∷ (e ∷ draws))) end)
    (sym not) (refl, some, rest))
    (cases_Bool (are_of_one_page d e))

pub in-turn : (number : ℕ) (triangles : List PageTriangle) →
    AreInTurn number (draws_from number triangles) (number + length triangles)
in-turn number [] = omega arith
in-turn number (r ∷ more) =
    let one : suc number ≡ number + 1 = omega arith in
    let all : suc number + length more ≡ number + length (r ∷ more) = omega arith in
    joined-turn (draw_at r number) (draws_from (suc number) more) (number + length (r ∷ more)) (omega arith)
    (subst (λ k. AreInTurn k (draws_from (suc number) more) (number + length (r ∷ more))) one
    (subst (λ k. AreInTurn (suc number) (draws_from (suc number) more) k) all (in-turn (suc number) more)))

-- of other pages than their neighbours

head-apart : (d e : Draw) (draws : List Draw) → are_of_one_page d e ≡ true → AreApart (e ∷ draws) → AreApart (d ∷ draws)
head-apart d e [] is apart = tt
head-apart d e (f ∷ draws) is apart = (sym (same-page d e f is) ∙ apart.0, apart.1)

joined-neighbours : (d : Draw) (draws : List Draw) → AreApart draws → AreApart (joined d draws)
joined-neighbours d [] apart = tt
joined-neighbours d (e ∷ draws) apart = ⊎_elim
    (λ (is : are_of_one_page d e ≡ true).
    subst (λ b. AreApart (cond b (record d { triangles = d.triangles + e.triangles } ∷ draws) (d ∷ (e ∷ draws)))) (sym is)
    (head-apart (record d { triangles = d.triangles + e.triangles }) e draws is apart))
    (λ (not : are_of_one_page d e ≡ false).
    subst (λ b. AreApart (cond b (record d { triangles = d.triangles + e.triangles } ∷ draws) (d ∷ (e ∷ draws)))) (sym not)
    (not, apart))
    (cases_Bool (are_of_one_page d e))

pub apart-from : (number : ℕ) (triangles : List PageTriangle) → AreApart (draws_from number triangles)
apart-from number [] = tt
apart-from number (r ∷ more) =
    joined-neighbours (draw_at r number) (draws_from (suc number) more) (apart-from (suc number) more)

-- of the pages of their triangles

joined-pages : (d : Draw) (draws : List Draw) → pages_drawn (joined d draws)
    ≡ replicate d.triangles (d.q, record { x = d.column; y = d.row }) ++ pages_drawn draws
joined-pages d [] = refl
joined-pages d (e ∷ draws) = ⊎_elim
    (λ (is : are_of_one_page d e ≡ true).
    let a = and_parts (nat_eq d.q e.q) (nat_eq d.column e.column && nat_eq d.row e.row) is in
    let b = and_parts (nat_eq d.column e.column) (nat_eq d.row e.row) a.1 in
    let q = eqb-true d.q e.q a.0 in
    let column = eqb-true d.column e.column b.0 in
    let row = eqb-true d.row e.row b.1 in
    let here : ℕ × Point = (d.q, record { x = d.column; y = d.row }) in
    let same : here ≡ (e.q, record { x = e.column; y = e.row }) = rw (q, column, row) refl in
    ap (λ b. pages_drawn (cond b (record d { triangles = d.triangles + e.triangles } ∷ draws) (d ∷ (e ∷ draws)))) is
    ∙ ap (λ xs. xs ++ pages_drawn draws) (sym (replicate-append-replicate d.triangles e.triangles here))
    ∙ append_assoc (replicate d.triangles here) (replicate e.triangles here) (pages_drawn draws)
    ∙ ap (λ (p : ℕ × Point). replicate d.triangles here ++ (replicate e.triangles p ++ pages_drawn draws)) same)
    (λ (not : are_of_one_page d e ≡ false).
    ap (λ b. pages_drawn (cond b (record d { triangles = d.triangles + e.triangles } ∷ draws) (d ∷ (e ∷ draws)))) not)
    (cases_Bool (are_of_one_page d e))

pub pages-from : (number : ℕ) (triangles : List PageTriangle) →
    pages_drawn (draws_from number triangles) ≡ map page_of triangles
pages-from number [] = refl
pages-from number (r ∷ more) =
    joined-pages (draw_at r number) (draws_from (suc number) more)
    ∙ ap (λ xs. page_of r ∷ xs) (pages-from (suc number) more)

-- after a frame

child-reach : (s : Store) (a b : ℕ) → b / 2 ≡ a → IsTrue (known_in s a) → IsInReach s b
child-reach s a b is known = inr (subst (λ x. IsTrue (known_in s x)) (sym is) known)

pub reach-open : (w : WorldState) → IsSubset (is_split w) (is_open (loaded_of w)) → AreInReach w.store (mesh_seen w)
reach-open w inside =
    All-leaves_of w.store.large (is_split w) (IsInReach w.store) (IsInReach w.store)
    (λ levels a d member q.
    let known : IsTrue (known_in w.store a) = (and_parts (known_in w.store a)
    (nat_eq (mate_of a) 0 || known_in w.store (mate_of a)) (inside a member)).0 in (
      child-reach w.store a (2 * a) (let e : 2 * a / 2 ≡ a = omega arith in e) known,
      child-reach w.store a (2 * a + 1) (let e : (2 * a + 1) / 2 ≡ a = omega arith in e) known,
    ))
    (λ levels a d ends q. q)
    (inl (let h : 2 < 4 = omega arith in h)) (inl (let h : 3 < 4 = omega arith in h))
