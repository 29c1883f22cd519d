-- What each change of a buffer in the middle of a patch keeps.
use Rattle.std.proofs.Common.{◌≡◌, ◌≢◌, ℕ, ◌+◌, ◌-◌, ◌*◌, ◌^◌, ◌<◌, ◌≤◌, List, [], ◌∷◌, ◌++◌, length, map, get_or, set}
use Rattle.std.proofs.Common.{take, sum, refl, sym, ap, ap₂, ◌∙◌, subst, arith, ⊎_elim}
use Rattle.std.specs.List.{swap_remove}
use Rattle.std.proofs.Math.Pow.{pow_mono}
use Rattle.std.proofs.lemmas.Bool.{cases_eq, cases_lt}
use Rattle.std.proofs.lemmas.List.{length-set, length-map, length_push, map_push, map-set, take-map, get_or-map}
use Rattle.std.proofs.lemmas.List.{get_or_append_left, get_or_push}
use Rattle.mesh_defs.specs.Triangle.{level_of}
use Rattle.bintree_laws.proofs.LevelLemmas.{lt-pow-level}
use Rattle.draw_buffer.specs.declared.indices.Indices.{Indices}
use Rattle.draw_buffer.specs.declared.exchange.Waiting.{Waiting}
use Rattle.draw_buffer.specs.Times.{times, same}
use Rattle.draw_buffer.specs.Places.{PlaceState}
use Rattle.draw_buffer.specs.Vertices.{VertexState, AreTaken}
use Rattle.draw_buffer.specs.Corners.{grid_indices, shown, corner_uses, uses_in}
use Rattle.draw_buffer.specs.Exchange.{addresses_of, waiting_uses, IsReadyToWrite, IsWholeBuffer}
use Rattle.draw_buffer.proofs.TimesLemmas.{same-one, same-other, times-none, times-push, times-set, times-swap_remove}
use Rattle.draw_buffer.proofs.TimesLemmas.{length-swap_remove}
use Rattle.draw_buffer.proofs.UseLemmas.{shown-stay, map-shown, uses_in-push, uses_in-set, uses_in-swap_remove}
use Rattle.draw_buffer.proofs.UseLemmas.{uses_in-at, waiting_uses-none, waiting_uses-push, waiting_uses-at}

-- the table of a grid
pub end-small : (n : ℕ) → n ≤ 14 → 4 * 2 ^ (2 * n) ≤ 2 ^ 30
end-small n small = let wide : 2 * n ≤ 28 = omega arith in let h : 2 ^ (2 * n) ≤ 2 ^ 28 = pow_mono wide in omega arith

-- an address of the grid is in the table
pub address-low : (n a : ℕ) → level_of a ≤ 2 * n → a < 4 * 2 ^ (2 * n)
address-low n a fine = ⊎_elim
    (λ (h : a < 2).
    let least : 0 ≤ 2 * n = omega arith in
    let some : 2 ^ 0 ≤ 2 ^ (2 * n) = pow_mono least in
    omega arith)
    (λ (h : 2 ≤ a).
    let below = lt-pow-level a h in
    let wide : 2 ^ level_of a ≤ 2 ^ (2 * n) = pow_mono fine in
    omega arith)
    (cases_lt a 2)

-- ---- what waits

-- the addresses of what waits, with one triangle more
pub addresses-push : (waiting : List Waiting) (w : Waiting) →
    addresses_of (waiting ++ w ∷ []) ≡ addresses_of waiting ++ w.tri ∷ []
addresses-push waiting w = map_push (λ w. w.tri) waiting w

-- how often an address waits, with one triangle more
pub waiting-push : (waiting : List Waiting) (w : Waiting) (a : ℕ)
    → times (addresses_of (waiting ++ w ∷ [])) a ≡ times (addresses_of waiting) a + same w.tri a
waiting-push waiting w a = ap (λ ts. times ts a) (addresses-push waiting w) ∙ times-push (addresses_of waiting) w.tri a

-- ---- lists that are made of another

map-swap_remove : {X Y : Type 0} (f : X → Y) (xs : List X) (k : ℕ) (d : X) (e : Y) → k < length xs
    → swap_remove (map f xs) k e ≡ map f (swap_remove xs k d)
map-swap_remove f xs k d e inside =
    let long = length-map xs f in
    let last : get_or (map f xs) (length (map f xs) - 1) e ≡ f (get_or xs (length xs - 1) d) =
    ap (λ n. get_or (map f xs) (n - 1) e) long ∙ get_or-map f xs (length xs - 1) d e (omega arith) in
    ap₂ (λ n y. take (n - 1) (set (map f xs) k y)) long last
    ∙ ap (λ ys. take (length xs - 1) ys) (sym (map-set f xs k (get_or xs (length xs - 1) d)))
    ∙ take-map f (length xs - 1) (set xs k (get_or xs (length xs - 1) d))

-- ---- the changes

module _ (n : ℕ) (places : PlaceState) (vertices : VertexState) (corners : List Indices) (waiting : List Waiting)
    (r s w : ℕ) (whole : IsWholeBuffer n places vertices corners waiting r s w) where
  -- there are as many corners as triangles
  pub whole-long : length corners ≡ length places.triangles
  whole-long = sym (length-map corners (shown vertices.points)) ∙ ap length whole.drawn
      ∙ length-map places.triangles (grid_indices n)

  -- the numbers at a place are in use
  pub whole-used : (k : ℕ) (x : Indices) → k < length places.triangles → x ≡ get_or corners k x → (v : ℕ)
      → corner_uses x v ≤ get_or vertices.uses v 0
  whole-used k x inside is_x v =
      let long = whole-long in
      let at = uses_in-at corners k x v (omega arith) in
      let here = ap (λ y. corner_uses y v) is_x in
      omega (arith, whole.used v)

  -- a triangle comes, and waits
  pub whole-admit : (after : VertexState) (x : Waiting) (s' : ℕ) → s' ≡ s → x.tri < places.end
      → AreTaken vertices after (grid_indices n x.tri) x.corners
      → times places.triangles x.tri + times (addresses_of waiting) x.tri ≡ 0 →
      IsWholeBuffer n places after corners (waiting ++ x ∷ []) r s' w
  whole-admit after x s' ls low taken away =
      let all : (v : ℕ) → uses_in corners v ≤ get_or vertices.uses v 0 = λ v. omega (arith, whole.used v) in
      record {
        n_low = whole.n_low;
        n_high = whole.n_high;
        end = whole.end;
        point_end = taken.end ∙ whole.point_end;
        point_most = taken.most ∙ whole.point_most;
        drawn = map-shown vertices.points after.points vertices.uses corners all taken.stay ∙ whole.drawn;
        ready = λ k d inside. ⊎_elim
            (λ (h : k < length waiting).
            let before = whole.ready k d h in
            let same_here = shown-stay vertices.points after.points vertices.uses (get_or waiting k d).corners
            (λ v. omega (arith, whole.used v, waiting_uses-at waiting k d v h)) taken.stay in
            let still : IsReadyToWrite n places.end after.points (get_or waiting k d) =
            record { drawn = same_here ∙ before.drawn; low = before.low } in
            subst (λ y. IsReadyToWrite n places.end after.points y)
            (sym (get_or_append_left waiting (x ∷ []) d k h)) still)
            (λ (h : length waiting ≤ k).
            let last : length waiting ≡ k = omega (arith, length_push waiting x) in
            let new : IsReadyToWrite n places.end after.points x = record { drawn = taken.here; low = low } in
            subst (λ y. IsReadyToWrite n places.end after.points y) (sym (get_or_push waiting x d k last)) new)
            (cases_lt k (length waiting));
        used = λ v. omega (arith, whole.used v, taken.uses v, waiting_uses-push waiting x v);
        total = (let h = whole.total in let more = taken.total in omega (arith, length_push waiting x));
        once = λ a.
            let more = waiting-push waiting x a in
            ⊎_elim
            (λ (e : x.tri ≡ a).
            let one = same-one x.tri a e in
            let none : times places.triangles a + times (addresses_of waiting) a ≡ 0 =
            subst (λ b. times places.triangles b + times (addresses_of waiting) b ≡ 0) e away in
            omega arith)
            (λ (u : x.tri ≢ a). let none = same-other x.tri a u in omega (arith, whole.once a))
            (cases_eq x.tri a);
        few = whole.few;
        corner_space = whole.corner_space;
        waiting_space = (let h = whole.waiting_space in omega arith);
        written_space = whole.written_space;
      }

  -- what waits has no place
  module _ (rest : List Waiting) (next : Waiting) (split : waiting ≡ rest ++ next ∷ []) where
    -- how often an address waits, by the last that waits and the others
    pub next-times : (a : ℕ) → times (addresses_of waiting) a ≡ times (addresses_of rest) a + same next.tri a
    next-times a = ap (λ ws. times (addresses_of ws) a) split ∙ waiting-push rest next a

    next-uses : (v : ℕ) → waiting_uses waiting v ≡ waiting_uses rest v + corner_uses next.corners v
    next-uses v = ap (λ ws. waiting_uses ws v) split ∙ waiting_uses-push rest next v

    next-long : length waiting ≡ length rest + 1
    next-long = ap length split ∙ length_push rest next

    -- the last that waits has no place yet
    pub next-new : times places.triangles next.tri ≡ 0
    next-new =
        let one = same-one next.tri next.tri refl in
        omega (arith, whole.once next.tri, next-times next.tri)

    -- the last that waits has its corners, and an address within the table
    pub next-ready : IsReadyToWrite n places.end vertices.points next
    next-ready =
        subst (λ y. IsReadyToWrite n places.end vertices.points y) (ap (λ ws. get_or ws (length rest) next) split
        ∙ get_or_push rest next next (length rest) refl)
        (whole.ready (length rest) next (let long = next-long in omega arith))

    rest-ready : (k : ℕ) (d : Waiting) → k < length rest → IsReadyToWrite n places.end vertices.points (get_or rest k d)
    rest-ready k d inside =
        subst (λ y. IsReadyToWrite n places.end vertices.points y) (ap (λ ws. get_or ws k d) split
        ∙ get_or_append_left rest (next ∷ []) d k inside)
        (whole.ready k d (let long = next-long in omega arith))

    -- it takes the place of another, whose numbers have a use less
    pub whole-put : (after : PlaceState) (less : VertexState) (at s' w' : ℕ) (x : Indices) → s' ≡ s →
        w' ≡ w → at < length places.triangles
        → after ≡ record places { triangles = set places.triangles at next.tri } → x ≡ get_or corners at x
        → less ≡ record vertices { uses = less.uses }
        → ((v : ℕ) → get_or less.uses v 0 + corner_uses x v ≡ get_or vertices.uses v 0) →
        sum less.uses + 3 ≡ sum vertices.uses
        → IsWholeBuffer n after less (set corners at next.corners) rest r s' w'
    whole-put after less at s' w' x ls lw inside is_after is_x is_less uses total =
        let points : less.points ≡ vertices.points = ap (λ (t : VertexState). t.points) is_less in
        let long = whole-long in
        let f = shown vertices.points in
        rw is_after (record {
          n_low = whole.n_low;
          n_high = whole.n_high;
          end = whole.end;
          point_end = ap (λ (t : VertexState). t.end) is_less ∙ whole.point_end;
          point_most = ap (λ (t : VertexState). t.most) is_less ∙ whole.point_most;
          drawn =
              ap (λ ps. map (shown ps) (set corners at next.corners)) points ∙ map-set f corners at next.corners
              ∙ ap₂ (λ xs y. set xs at y) whole.drawn next-ready.drawn
              ∙ sym (map-set (grid_indices n) places.triangles at next.tri);
          ready =
              λ k d h. subst (λ ps. IsReadyToWrite n places.end ps (get_or rest k d)) (sym points) (rest-ready k d h);
          used = λ v.
              let change = uses_in-set corners at next.corners x v (omega arith) in
              let here = ap (λ y. corner_uses y v) is_x in
              omega (arith, whole.used v, next-uses v, uses v);
          total = (let h = whole.total in let count = next-long in omega (arith, length-set corners at next.corners));
          once = λ a. omega (arith, whole.once a, next-times a, times-set places.triangles at next.tri a inside);
          few = (let h = whole.few in omega (arith, length-set places.triangles at next.tri));
          corner_space = whole.corner_space;
          waiting_space = (let h = whole.waiting_space in omega arith);
          written_space = (let h = whole.written_space in omega arith);
        })

    -- it comes behind the last
    pub whole-push : (after : PlaceState) (xs : List Indices) (r' s' w' : ℕ) → r' ≡ r → s' ≡ s → w' ≡ w
        → length places.triangles < places.most
        → after ≡ record places { triangles = places.triangles ++ next.tri ∷ [] } → xs ≡ corners ++ next.corners ∷ []
        → IsWholeBuffer n after vertices xs rest r' s' w'
    whole-push after xs r' s' w' lr ls lw room is_after is_xs = rw (is_after, is_xs) (record {
      n_low = whole.n_low;
      n_high = whole.n_high;
      end = whole.end;
      point_end = whole.point_end;
      point_most = whole.point_most;
      drawn =
          map_push (shown vertices.points) corners next.corners
          ∙ ap₂ (λ ys y. ys ++ y ∷ []) whole.drawn next-ready.drawn
          ∙ sym (map_push (grid_indices n) places.triangles next.tri);
      ready = rest-ready;
      used = λ v. omega (arith, whole.used v, next-uses v, uses_in-push corners next.corners v);
      total = (let h = whole.total in let count = next-long in omega (arith, length_push corners next.corners));
      once = λ a. omega (arith, whole.once a, next-times a, times-push places.triangles next.tri a);
      few = omega (arith, length_push places.triangles next.tri);
      corner_space = (let h = whole.corner_space in omega arith);
      waiting_space = (let h = whole.waiting_space in omega arith);
      written_space = (let h = whole.written_space in omega arith);
    })

  -- a triangle goes, and the last closes the gap
  pub whole-close : (after : PlaceState) (less : VertexState) (xs : List Indices) (x : Indices) (at r' s' w' : ℕ)
      (none : List Waiting) → none ≡ [] → waiting ≡ []
      → r' ≡ r → s' ≡ s → w' ≡ w → at < length places.triangles →
      after ≡ record places { triangles = swap_remove places.triangles at 0 }
      → xs ≡ swap_remove corners at x → x ≡ get_or corners at x → less ≡ record vertices { uses = less.uses }
      → ((v : ℕ) → get_or less.uses v 0 + corner_uses x v ≡ get_or vertices.uses v 0) →
      sum less.uses + 3 ≡ sum vertices.uses
      → IsWholeBuffer n after less xs none r' s' w'
  whole-close after less xs x at r' s' w' none is_none was_none lr ls lw inside is_after is_xs is_x is_less uses total =
      let points : less.points ≡ vertices.points = ap (λ (t : VertexState). t.points) is_less in
      let long = whole-long in
      let low : at < length corners = omega arith in
      let f = shown vertices.points in
      rw (is_after, is_none, is_xs) (record {
        n_low = whole.n_low;
        n_high = whole.n_high;
        end = whole.end;
        point_end = ap (λ (t : VertexState). t.end) is_less ∙ whole.point_end;
        point_most = ap (λ (t : VertexState). t.most) is_less ∙ whole.point_most;
        drawn =
            ap (λ ps. map (shown ps) (swap_remove corners at x)) points ∙ sym (map-swap_remove f corners at x (f x) low)
            ∙ ap (λ ys. swap_remove ys at (f x)) whole.drawn
            ∙ map-swap_remove (grid_indices n) places.triangles at 0 (f x) inside;
        ready = λ k d h. absurd (omega arith);
        used = λ v.
            let change = uses_in-swap_remove corners at x v low in
            let here = ap (λ y. corner_uses y v) is_x in
            let before = ap (λ ws. waiting_uses ws v) was_none in
            let empty = waiting_uses-none v in
            omega (arith, whole.used v, uses v);
        total = (let h = whole.total in let before = ap length was_none in
            omega (arith, length-swap_remove corners at x low));
        once = λ a.
            let empty = times-none a in
            omega (arith, whole.once a, times-swap_remove places.triangles at 0 a inside);
        few = (let h = whole.few in omega (arith, length-swap_remove places.triangles at 0 inside));
        corner_space = (let h = whole.corner_space in omega arith);
        waiting_space = (let h = whole.waiting_space in omega arith);
        written_space = (let h = whole.written_space in omega arith);
      })
