-- The draws of triangles, made one triangle after another.
use Rattle.std.proofs.Common.{◌≡◌, ℕ, suc, ◌+◌, ◌-◌, ◌*◌, ◌^◌, ◌<◌, ◌≤◌, true, false, ◌&&◌, nat_eq, cond, refl, sym}
use Rattle.std.proofs.Common.{◌∙◌, ap, ap₂, subst, arith, ⊎_elim, List, [], ◌∷◌, ◌++◌, length, take, drop, get_or, set, map}
use Rattle.std.proofs.Common.{Option, None, Some, append_assoc, All, drop-cons, length-append}
use Rattle.std.specs.Option.{IfSome}
use Rattle.std.specs.List.{flat_map}
use Rattle.std.proofs.Math.Seq.{take-append_seam}
use Rattle.std.proofs.lemmas.List.{append-nil, take_more, length-take-le, at_drop_all, drop-map}
use Rattle.std.proofs.lemmas.Slice.{drop-append-drop}
use Rattle.std.proofs.lemmas.Grind.{flat_map-append}
use Rattle.std.proofs.lemmas.Bool.{cases_Bool, and_parts, eqb-true}
use Rattle.std.proofs.lemmas.List.Elements.{All-weaker}
use Rattle.mesh_defs.specs.Triangle.{level_of, IsAddress}
use Rattle.bintree_laws.proofs.LevelLemmas.{level-le}
use Rattle.mesh_laws.proofs.DescentLemmas.{IsAddress-leaves_of}
use Rattle.mesh_laws.proofs.LeafLemmas.{leaves-most}
use Rattle.std.proofs.Math.Nat.{pow-le-pow_right}
use Rattle.page_store.specs.declared.locate.PageTriangle.{PageTriangle}
use Rattle.world_loop.specs.declared.draws.Draw.{Draw}
use Rattle.page_store.specs.Store.{Store}
use Rattle.page_store.specs.Locate.{page_triangle}
use Rattle.world_loop.specs.World.{WorldState, is_split, mesh_seen}
use Rattle.world_loop.specs.Draws.{located, draw_at, are_of_one_page, joined, draws_from, goes_on, with_next}

-- pages

-- two draws of one page are of one page with the same draws
pub same-page : (d e f : Draw) → are_of_one_page d e ≡ true → are_of_one_page e f ≡ are_of_one_page d f
same-page d e f is =
    let a = and_parts (nat_eq d.q e.q) (nat_eq d.column e.column && nat_eq d.row e.row) is in
    let b = and_parts (nat_eq d.column e.column) (nat_eq d.row e.row) a.1 in
    let q = eqb-true d.q e.q a.0 in
    let column = eqb-true d.column e.column b.0 in
    let row = eqb-true d.row e.row b.1 in
    rw (q, column, row) refl

-- joining

-- a draw takes in the first of others, which had taken in what is behind it
joined-twice : (d e : Draw) (draws : List Draw) → are_of_one_page d e ≡ true →
    joined d (joined e draws) ≡ joined (record d { triangles = d.triangles + e.triangles }) draws
joined-twice d e [] is = ap (λ b. cond b (record d { triangles = d.triangles + e.triangles } ∷ []) (d ∷ (e ∷ []))) is
joined-twice d e (f ∷ draws) is = ⊎_elim
    (λ (next : are_of_one_page e f ≡ true).
    let here : are_of_one_page d f ≡ true = sym (same-page d e f is) ∙ next in
    ap (λ b. joined d (cond b (record e { triangles = e.triangles + f.triangles } ∷ draws) (e ∷ (f ∷ draws)))) next
    ∙ ap (λ b. cond b (record d { triangles = d.triangles + (e.triangles + f.triangles) } ∷ draws)
    (d ∷ (record e { triangles = e.triangles + f.triangles } ∷ draws))) is
    ∙ ap (λ k. record d { triangles = k } ∷ draws)
    (let sum : d.triangles + (e.triangles + f.triangles) ≡ d.triangles + e.triangles + f.triangles = omega arith in sum)
    ∙ ap (λ b. cond b (record d { triangles = d.triangles + e.triangles + f.triangles } ∷ draws)
    (record d { triangles = d.triangles + e.triangles } ∷ (f ∷ draws))) (sym here))
    (λ (other : are_of_one_page e f ≡ false).
    let here : are_of_one_page d f ≡ false = sym (same-page d e f is) ∙ other in
    ap (λ b. joined d (cond b (record e { triangles = e.triangles + f.triangles } ∷ draws) (e ∷ (f ∷ draws)))) other
    ∙ ap (λ b. cond b (record d { triangles = d.triangles + e.triangles } ∷ (f ∷ draws)) (d ∷ (e ∷ (f ∷ draws)))) is
    ∙ ap (λ b. cond b (record d { triangles = d.triangles + e.triangles + f.triangles } ∷ draws)
    (record d { triangles = d.triangles + e.triangles } ∷ (f ∷ draws))) (sym here))
    (cases_Bool (are_of_one_page e f))

-- or stands before it
joined-apart : (d e : Draw) (draws : List Draw) → are_of_one_page d e ≡ false →
    joined d (joined e draws) ≡ d ∷ joined e draws
joined-apart d e [] not = ap (λ b. cond b (record d { triangles = d.triangles + e.triangles } ∷ []) (d ∷ (e ∷ []))) not
joined-apart d e (f ∷ draws) not = ⊎_elim
    (λ (next : are_of_one_page e f ≡ true).
    ap (λ b. joined d (cond b (record e { triangles = e.triangles + f.triangles } ∷ draws) (e ∷ (f ∷ draws)))) next
    ∙ ap (λ b. cond b (record d { triangles = d.triangles + (e.triangles + f.triangles) } ∷ draws)
    (d ∷ (record e { triangles = e.triangles + f.triangles } ∷ draws))) not
    ∙ ap (λ b. d ∷ cond b (record e { triangles = e.triangles + f.triangles } ∷ draws) (e ∷ (f ∷ draws))) (sym next))
    (λ (other : are_of_one_page e f ≡ false).
    ap (λ b. joined d (cond b (record e { triangles = e.triangles + f.triangles } ∷ draws) (e ∷ (f ∷ draws)))) other
    ∙ ap (λ b. cond b (record d { triangles = d.triangles + e.triangles } ∷ (f ∷ draws)) (d ∷ (e ∷ (f ∷ draws)))) not
    ∙ ap (λ b. d ∷ cond b (record e { triangles = e.triangles + f.triangles } ∷ draws) (e ∷ (f ∷ draws))) (sym other))
    (cases_Bool (are_of_one_page e f))

-- some draw is left
joined-some : (d : Draw) (draws : List Draw) → 1 ≤ length (joined d draws)
joined-some d [] = omega arith
joined-some d (e ∷ draws) = ⊎_elim
    (λ (is : are_of_one_page d e ≡ true). subst (λ b. 1 ≤ length (cond b (record d {
      triangles = d.triangles + e.triangles;
    } ∷ draws) (d ∷ (e ∷ draws)))) (sym is) (omega arith))
    (λ (not : are_of_one_page d e ≡ false). subst (λ b. 1 ≤ length (cond b (record d {
      triangles = d.triangles + e.triangles;
    } ∷ draws) (d ∷ (e ∷ draws)))) (sym not) (omega arith))
    (cases_Bool (are_of_one_page d e))

-- so far

-- the last draw so far, in a list
abbrev pub listed : Option Draw → List Draw
listed None = []
listed (Some d) = d ∷ []

-- draws behind the last one so far
abbrev pub behind : Option Draw → List Draw → List Draw
behind None draws = draws
behind (Some d) draws = joined d draws

-- Of all draws these are ended, this is the last so far, and the rest is of the triangles from number k on.
pub record AreSoFar (all : List Draw) (rest : List PageTriangle) (k count : ℕ) (last : Option Draw)
    (ended : List Draw) : Type 0 where
  pub split : all ≡ ended ++ behind last (draws_from k rest)
  pub counted : count ≡ length ended + length (listed last)
  pub few : count ≤ k
  pub short : IfSome last (λ d. d.triangles ≤ k)

-- what is ended with the next triangle
abbrev pub with_ended : List Draw → Option Draw → PageTriangle → List Draw
with_ended ended last r = cond (goes_on last r) ended (ended ++ listed last)

pub so_far-next : (all ended : List Draw) (rest : List PageTriangle) (r : PageTriangle) (k count : ℕ)
    (last : Option Draw) → AreSoFar all (r ∷ rest) k count last ended →
    AreSoFar all rest (suc k) (cond (goes_on last r) count (count + 1)) (Some (with_next last r k))
    (with_ended ended last r)
so_far-next all ended rest r k count None h =
    let few = h.few in let counted = h.counted in record {
      split = h.split ∙ ap (λ xs. xs ++ joined (draw_at r k) (draws_from (suc k) rest)) (sym (append-nil ended));
      counted = rw (append-nil ended) (omega arith);
      few = omega arith;
      short = omega arith;
    }
so_far-next all ended rest r k count (Some d) h = ⊎_elim
    (λ (is : are_of_one_page d (draw_at r 0) ≡ true).
    let few = h.few in let counted = h.counted in let short = h.short in
    subst (λ b. AreSoFar all rest (suc k) (cond b count (count + 1))
    (Some (cond b (record d { triangles = d.triangles + 1 }) (draw_at r k))) (cond b ended (ended ++ (d ∷ []))))
    (sym is) record {
      split = h.split ∙ ap (λ xs. ended ++ xs) (joined-twice d (draw_at r k) (draws_from (suc k) rest) is);
      counted = counted;
      few = omega arith;
      short = omega arith;
    })
    (λ (not : are_of_one_page d (draw_at r 0) ≡ false).
    let few = h.few in let counted = h.counted in
    subst (λ b. AreSoFar all rest (suc k) (cond b count (count + 1))
    (Some (cond b (record d { triangles = d.triangles + 1 }) (draw_at r k))) (cond b ended (ended ++ (d ∷ []))))
    (sym not) record {
      split = h.split
          ∙ ap (λ xs. ended ++ xs) (joined-apart d (draw_at r k) (draws_from (suc k) rest) not)
          ∙ sym (append_assoc ended (d ∷ []) (joined (draw_at r k) (draws_from (suc k) rest)));
      counted = omega (arith, length-append ended (d ∷ []));
      few = omega arith;
      short = omega arith;
    })
    (cases_Bool (are_of_one_page d (draw_at r 0)))

-- at the end
pub so_far-all : {all ended : List Draw} {k count : ℕ} {last : Option Draw} → AreSoFar all [] k count last ended →
    all ≡ ended ++ listed last
so_far-all {last = None} h = h.split
so_far-all {last = Some d} h = h.split

pub so_far-count : {all ended : List Draw} {k count : ℕ} {last : Option Draw} → AreSoFar all [] k count last ended →
    count ≡ length all
so_far-count {ended = ended} {last = last} h =
    h.counted ∙ sym (length-append ended (listed last)) ∙ ap length (sym (so_far-all h))

-- in the middle there is room for the last
pub so_far-room : {all ended : List Draw} {rest : List PageTriangle} {k count : ℕ} {d : Draw} →
    AreSoFar all rest k count (Some d) ended → (count ≡ length ended + 1) × (count ≤ length all)
so_far-room {all} {ended} {rest} {k} {count} {d} h =
    let some = joined-some d (draws_from k rest) in
    let counted = h.counted in
    let whole : length all ≡ length ended + length (joined d (draws_from k rest)) =
    ap length h.split ∙ length-append ended (joined d (draws_from k rest)) in
    (omega arith, omega arith)

-- arrays

put-at : (xs ys : List Draw) (y z : Draw) → set (xs ++ (y ∷ ys)) (length xs) z ≡ xs ++ (z ∷ ys)
put-at [] ys y z = refl
put-at (x ∷ xs) ys y z = ap (λ r. x ∷ r) (put-at xs ys y z)

put-last : (ended rest : List Draw) (d z : Draw) (i : ℕ) → i ≡ length ended →
    set ((ended ++ (d ∷ [])) ++ rest) i z ≡ (ended ++ (z ∷ [])) ++ rest
put-last ended rest d z i is =
    ap (λ xs. set xs i z) (append_assoc ended (d ∷ []) rest)
    ∙ ap (λ k. set (ended ++ (d ∷ rest)) k z) is
    ∙ put-at ended rest d z
    ∙ sym (append_assoc ended (z ∷ []) rest)

put-new : (done start : List Draw) (count : ℕ) (z : Draw) → length done ≡ count → count < length start →
    set (done ++ drop count start) count z ≡ (done ++ (z ∷ [])) ++ drop (count + 1) start
put-new done start count z long less =
    let one : count + 1 ≡ suc count = omega arith in
    ap (λ xs. set (done ++ xs) count z) (drop-cons start count z less)
    ∙ ap (λ k. set (done ++ (get_or start count z ∷ drop (suc count) start)) k z) (sym long)
    ∙ put-at done (drop (suc count) start) (get_or start count z) z
    ∙ sym (append_assoc done (z ∷ []) (drop (suc count) start))
    ∙ ap (λ k. (done ++ (z ∷ [])) ++ drop k start) (sym one)

-- the last draw is written behind the ended ones
pub written-next : (all ended start array : List Draw) (rest : List PageTriangle) (r : PageTriangle) (k count : ℕ)
    (last : Option Draw) → AreSoFar all (r ∷ rest) k count last ended → length all ≤ length start →
    array ≡ (ended ++ listed last) ++ drop count start →
    set array (cond (goes_on last r) count (count + 1) - 1) (with_next last r k)
    ≡ (with_ended ended last r ++ (with_next last r k ∷ [])) ++ drop (cond (goes_on last r) count (count + 1)) start
written-next all ended start array rest r k count None h room was =
    let next = so_far-next all ended rest r k count None h in
    let fits = so_far-room next in
    let fits' = fits.1 in
    let long : length (ended ++ []) ≡ count = omega (arith, h.counted, length-append ended []) in
    let back : count + 1 - 1 ≡ count = omega arith in
    ap (λ xs. set xs (count + 1 - 1) (draw_at r k)) was
    ∙ ap (λ i. set ((ended ++ []) ++ drop count start) i (draw_at r k)) back
    ∙ put-new (ended ++ []) start count (draw_at r k) long (omega arith)
written-next all ended start array rest r k count (Some d) h room was = ⊎_elim
    (λ (is : are_of_one_page d (draw_at r 0) ≡ true).
    subst (λ b. set array (cond b count (count + 1) - 1) (cond b (record d { triangles = d.triangles + 1 }) (draw_at r k))
    ≡ (cond b ended (ended ++ (d ∷ [])) ++ (cond b (record d { triangles = d.triangles + 1 }) (draw_at r k) ∷ []))
    ++ drop (cond b count (count + 1)) start) (sym is)
    (let counted = h.counted in
    ap (λ xs. set xs (count - 1) (record d { triangles = d.triangles + 1 })) was
    ∙ put-last ended (drop count start) d (record d { triangles = d.triangles + 1 }) (count - 1) (omega arith)))
    (λ (not : are_of_one_page d (draw_at r 0) ≡ false).
    subst (λ b. set array (cond b count (count + 1) - 1) (cond b (record d { triangles = d.triangles + 1 }) (draw_at r k))
    ≡ (cond b ended (ended ++ (d ∷ [])) ++ (cond b (record d { triangles = d.triangles + 1 }) (draw_at r k) ∷ []))
    ++ drop (cond b count (count + 1)) start) (sym not)
    (let next : AreSoFar all rest (suc k) (count + 1) (Some (draw_at r k)) (ended ++ (d ∷ [])) =
    subst (λ b. AreSoFar all rest (suc k) (cond b count (count + 1))
    (Some (cond b (record d { triangles = d.triangles + 1 }) (draw_at r k))) (cond b ended (ended ++ (d ∷ [])))) not
    (so_far-next all ended rest r k count (Some d) h) in
    let fits = so_far-room next in
    let fits' = fits.1 in
    let long : length (ended ++ (d ∷ [])) ≡ count = omega (arith, h.counted, length-append ended (d ∷ [])) in
    let back : count + 1 - 1 ≡ count = omega arith in
    ap (λ xs. set xs (count + 1 - 1) (draw_at r k)) was
    ∙ ap (λ i. set ((ended ++ (d ∷ [])) ++ drop count start) i (draw_at r k)) back
    ∙ put-new (ended ++ (d ∷ [])) start count (draw_at r k) long (omega arith)))
    (cases_Bool (are_of_one_page d (draw_at r 0)))

-- triangles by their addresses

-- the next one
pub located-next : (s : Store) (triangles : List ℕ) (k a : ℕ) → k < length triangles → a ≡ get_or triangles k a →
    drop k (located s triangles) ≡ page_triangle s a ∷ drop (suc k) (located s triangles)
located-next s triangles k a less is =
    drop-map (page_triangle s) k triangles
    ∙ ap (map (page_triangle s)) (drop-cons triangles k a less)
    ∙ ap (λ b. page_triangle s b ∷ map (page_triangle s) (drop (suc k) triangles)) (sym is)
    ∙ ap (λ xs. page_triangle s a ∷ xs) (sym (drop-map (page_triangle s) (suc k) triangles))

-- none is left
pub located-end : (s : Store) (triangles : List ℕ) (k : ℕ) → length triangles ≤ k → drop k (located s triangles) ≡ []
located-end s triangles k more =
    drop-map (page_triangle s) k triangles ∙ ap (map (page_triangle s)) (at_drop_all (λ (xs : List ℕ). xs) triangles k more)

module _ (s : Store) (triangles : List ℕ) {all : List Draw} {k a count : ℕ} {last : Option Draw} {ended : List Draw}
    (less : k < length triangles) (is : a ≡ get_or triangles k a)
    (h : AreSoFar all (drop k (located s triangles)) k count last ended) {count' : ℕ} {next : Draw}
    (count-is : count' ≡ cond (goes_on last (page_triangle s a)) count (count + 1))
    (next-is : next ≡ with_next last (page_triangle s a) k) where
  here : AreSoFar all (page_triangle s a ∷ drop (suc k) (located s triangles)) k count last ended
  here = subst (λ rest. AreSoFar all rest k count last ended) (located-next s triangles k a less is) h

  pub told-next : AreSoFar all (drop (k + 1) (located s triangles)) (k + 1) count' (Some next)
      (with_ended ended last (page_triangle s a))
  told-next =
      let one : suc k ≡ k + 1 = omega arith in
      subst (λ j. AreSoFar all (drop j (located s triangles)) j count' (Some next)
      (with_ended ended last (page_triangle s a))) one
      (subst (λ j. AreSoFar all (drop (suc k) (located s triangles)) (suc k) j (Some next)
      (with_ended ended last (page_triangle s a))) (sym count-is)
      (subst (λ d. AreSoFar all (drop (suc k) (located s triangles)) (suc k)
      (cond (goes_on last (page_triangle s a)) count (count + 1)) (Some d)
      (with_ended ended last (page_triangle s a))) (sym next-is)
      (so_far-next all ended (drop (suc k) (located s triangles)) (page_triangle s a) k count last here)))

  pub told-written : (start array : List Draw) → length all ≤ length start →
      array ≡ (ended ++ listed last) ++ drop count start →
      set array (count' - 1) next ≡ (with_ended ended last (page_triangle s a) ++ (next ∷ [])) ++ drop count' start
  told-written start array room was =
      subst (λ j. set array (j - 1) next
      ≡ (with_ended ended last (page_triangle s a) ++ (next ∷ [])) ++ drop j start) (sym count-is)
      (subst (λ d. set array (cond (goes_on last (page_triangle s a)) count (count + 1) - 1) d
      ≡ (with_ended ended last (page_triangle s a) ++ (d ∷ []))
      ++ drop (cond (goes_on last (page_triangle s a)) count (count + 1)) start) (sym next-is)
      (written-next all ended start array (drop (suc k) (located s triangles)) (page_triangle s a) k count last here
      room was))

-- the indices of one more triangle, written behind those before it
pub indices-next : (f : ℕ → List ℕ) (triangles : List ℕ) (k a at : ℕ) (start was now : List ℕ) →
    ((b : ℕ) → length (f b) ≡ 3) → k < length triangles → a ≡ get_or triangles k a → at ≡ 3 * k →
    was ≡ flat_map f (take k triangles) ++ drop at start →
    now ≡ take at was ++ f a ++ drop (at + 3) was →
    now ≡ flat_map f (take (k + 1) triangles) ++ drop (3 * (k + 1)) start
indices-next f triangles k a at start was now three less is place so_far written =
    let done : List ℕ = flat_map f (take k triangles) in
    let count : length (take k triangles) ≡ k = length-take-le k triangles (omega arith) in
    let long : length done ≡ at = threes (take k triangles) ∙ ap (λ j. 3 * j) count ∙ sym place in
    let front : take at was ≡ done =
    ap (take at) so_far ∙ ap (λ j. take j (done ++ drop at start)) (sym long) ∙ take-append_seam done (drop at start) in
    let back : drop (at + 3) was ≡ drop (at + 3) start =
    ap (drop (at + 3)) so_far ∙ drop-append-drop at start done (at + 3) (omega arith) long in
    let one : take (k + 1) triangles ≡ take k triangles ++ (a ∷ []) =
    take_more triangles k a less ∙ ap (λ b. take k triangles ++ (b ∷ [])) (sym is) in
    let more : flat_map f (take (k + 1) triangles) ≡ done ++ f a =
    ap (flat_map f) one ∙ flat_map-append f (take k triangles) (a ∷ []) ∙ ap (λ xs. done ++ xs) (append-nil (f a)) in
    let end : at + 3 ≡ 3 * (k + 1) = omega arith in
    written
    ∙ ap₂ (λ (xs ys : List ℕ). xs ++ f a ++ ys) front back
    ∙ ap₂ (λ (xs : List ℕ) (j : ℕ). xs ++ drop j start) (sym more) end
  where
    threes : (xs : List ℕ) → length (flat_map f xs) ≡ 3 * length xs
    threes [] = omega arith
    threes (x ∷ xs) = omega (arith, threes xs, three x, length-append (f x) (flat_map f xs))

-- the triangles of a world's mesh

-- they are of its grid
pub seen-levels : {v w : WorldState} {seen : List ℕ} → v ≡ w → seen ≡ mesh_seen w →
    All (λ a. level_of a ≤ 2 * v.store.large) seen
seen-levels {v} same is =
    let n : ℕ = v.store.large in
    subst (λ xs. All (λ a. level_of a ≤ 2 * v.store.large) xs) (ap mesh_seen same ∙ sym is)
    (All-weaker (IsAddress n) (λ a. level_of a ≤ 2 * n) (λ a h. level-le n a h) (mesh_seen v)
    (IsAddress-leaves_of n (is_split v)))

-- and fewer than numbers of 32 bits
pub seen-few : {v w : WorldState} {seen : List ℕ} → v ≡ w → seen ≡ mesh_seen w → v.store.large ≤ 14 →
    length seen < 4294967296
seen-few {v} same is small =
    let n : ℕ = v.store.large in
    let most = leaves-most n (is_split v) in
    let high : 4 ^ n ≤ 4 ^ 14 = pow-le-pow_right {n = 4} (let h : 0 < 4 = omega arith in h) small in
    subst (λ (xs : List ℕ). length xs < 4294967296) (ap mesh_seen same ∙ sym is) (omega arith)
