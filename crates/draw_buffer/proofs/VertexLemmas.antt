-- What each change of a table of vertices keeps.
use Rattle.std.proofs.Common.{◌≡◌, ◌≢◌, ℕ, ◌+◌, ◌<◌, ◌≤◌, cond, ltb, List, [], ◌∷◌, ◌++◌, length, get_or, set, sum}
use Rattle.std.proofs.Common.{refl, sym, ap, ◌∙◌, subst, arith, ⊎_elim}
use Rattle.std.proofs.lemmas.Bool.{cases_eq, cases_lt, lt-ltb, le-ltb}
use Rattle.std.proofs.lemmas.List.{length-set, length_push, get_or-set_same, get_or-set_other, get_or_append_left}
use Rattle.std.proofs.lemmas.List.{get_or_push, get_or_past}
use Rattle.std.proofs.lemmas.List.Sums.{sum_by-set, sum_by_push, sum_by-le-sum_by}
use Rattle.draw_buffer.specs.Times.{times, same}
use Rattle.draw_buffer.specs.Vertices.{busy, IsNumbered, AreFree}
use Rattle.draw_buffer.proofs.TimesLemmas.{same-one, same-other, times-none, times-push, times-at, times-place}

-- ---- numbers in use

-- 1 for a number that is in use, else 0
unfoldable is_busy : ℕ → ℕ
is_busy u = cond (ltb 0 u) 1 0

is_busy-some : (u : ℕ) → 0 < u → is_busy u ≡ 1
unfolding is_busy
is_busy-some u some = ap (λ b. cond b 1 0) (lt-ltb 0 u some)

is_busy-none : (u : ℕ) → u ≡ 0 → is_busy u ≡ 0
unfolding is_busy
is_busy-none u none = ap (λ b. cond b 1 0) (le-ltb 0 u (omega arith))

is_busy-le : (u : ℕ) → is_busy u ≤ u
is_busy-le u = ⊎_elim
    (λ (h : 0 < u). let one = is_busy-some u h in omega arith)
    (λ (h : u ≤ 0). let none = is_busy-none u (omega arith) in omega arith)
    (cases_lt 0 u)

-- without numbers, none is in use and none is free
pub busy-none : busy [] + length {A = ℕ} [] ≡ length {A = ℕ} []
unfolding busy
busy-none = refl

busy-set : (us : List ℕ) (v u : ℕ) → v < length us → busy (set us v u) + is_busy (get_or us v 0) ≡ busy us + is_busy u
unfolding busy is_busy
busy-set us v u within = sum_by-set (λ u. is_busy u) us v u 0 within

busy-push : (us : List ℕ) (u : ℕ) → busy (us ++ u ∷ []) ≡ busy us + is_busy u
unfolding busy is_busy
busy-push us u = sum_by_push (λ u. is_busy u) us u

-- there are no more numbers in use than uses
pub busy-le-sum : (us : List ℕ) → busy us ≤ sum us
unfolding busy is_busy
busy-le-sum us = sum_by-le-sum_by (λ u. is_busy u) (λ u. u) us is_busy-le

-- a number in use is one of the numbers
pub used-within : (us : List ℕ) (v : ℕ) → 0 < get_or us v 0 → v < length us
used-within us v some = ⊎_elim
    (λ (h : v < length us). h)
    (λ (h : length us ≤ v). let none = get_or_past us v 0 h in absurd (omega arith))
    (cases_lt v (length us))

busy-some : (us : List ℕ) (v : ℕ) → 0 < get_or us v 0 → 1 ≤ busy us
busy-some us v some =
    let within = used-within us v some in
    let change = busy-set us v 0 within in
    let one = is_busy-some (get_or us v 0) some in
    let zero = is_busy-none 0 refl in
    omega arith

-- ---- sums

-- the sum with the entry at v replaced by u
pub sum-set : (us : List ℕ) (v u : ℕ) → v < length us → sum (set us v u) + get_or us v 0 ≡ sum us + u
sum-set us v u within = sum_by-set (λ u. u) us v u 0 within

-- the sum with one entry more at the end
pub sum-push : (us : List ℕ) (u : ℕ) → sum (us ++ u ∷ []) ≡ sum us + u
sum-push us u = sum_by_push (λ u. u) us u

-- ---- reads after a change

-- at the place that was set stands what was set there
pub set-here : (us : List ℕ) (v u w : ℕ) → v < length us → w ≡ v → get_or (set us v u) w 0 ≡ u
set-here us v u w within e = ap (λ k. get_or (set us v u) k 0) e ∙ get_or-set_same us v u 0 within

-- behind the old end stands what was put there
pub push-here : (us : List ℕ) (u w : ℕ) → w ≡ length us → get_or (us ++ u ∷ []) w 0 ≡ u
push-here us u w e = get_or_push us u 0 w (sym e)

-- and at each other place what stood there
pub push-other : (us : List ℕ) (u w : ℕ) → w ≢ length us → get_or (us ++ u ∷ []) w 0 ≡ get_or us w 0
push-other us u w apart = ⊎_elim
    (λ (h : w < length us). get_or_append_left us (u ∷ []) 0 w h)
    (λ (h : length us ≤ w). get_or_past (us ++ u ∷ []) w 0 (omega (arith, length_push us u))
    ∙ sym (get_or_past us w 0 h))
    (cases_lt w (length us))

-- ---- the free numbers

-- a free number is not in use
pub free-apart : (us free : List ℕ) (v i : ℕ) → AreFree us free → 0 < get_or us v 0 →
    i < length free → get_or free i 0 ≢ v
free-apart us free v i vacant some within e =
    let none = vacant.unused i within in let same_use = ap (λ k. get_or us k 0) e in absurd (omega arith)

-- another number of uses of a number that stays in use
pub AreFree-stay : (us free : List ℕ) (v u : ℕ) → AreFree us free → 0 < get_or us v 0 → 0 < u →
    AreFree (set us v u) free
AreFree-stay us free v u vacant some more =
    let within = used-within us v some in
    record {
      low = λ i h. omega (arith, vacant.low i h, length-set us v u);
      unused =
          λ i h. get_or-set_other us v (get_or free i 0) u 0 (free-apart us free v i vacant some h) ∙ vacant.unused i h;
      distinct = vacant.distinct;
      count =
          let change = busy-set us v u within in
          let before = is_busy-some (get_or us v 0) some in
          let after = is_busy-some u more in
          let count = vacant.count in
          omega (arith, length-set us v u);
    }

-- a number goes out of use
pub AreFree-leave : (us free : List ℕ) (v : ℕ) → AreFree us free → 0 < get_or us v 0 →
    AreFree (set us v 0) (free ++ v ∷ [])
AreFree-leave us free v vacant some =
    let within = used-within us v some in
    let long = length_push free v in
    let away : times free v ≡ 0 = ⊎_elim
    (λ (h : 0 < times free v).
    let there = times-place free v h in
    absurd (free-apart us free v there.0 vacant some there.1 there.2))
    (λ (h : times free v ≤ 0). omega arith)
    (cases_lt 0 (times free v)) in
    record {
      low = λ i h. ⊎_elim
          (λ (e : i ≡ length free). let here = push-here free v i e in omega (arith, length-set us v 0))
          (λ (u : i ≢ length free).
          let other = push-other free v i u in
          omega (arith, vacant.low i (omega arith), length-set us v 0))
          (cases_eq i (length free));
      unused = λ i h. ⊎_elim
          (λ (e : i ≡ length free). set-here us v 0 (get_or (free ++ v ∷ []) i 0) within (push-here free v i e))
          (λ (u : i ≢ length free).
          let early : i < length free = omega arith in
          let other = push-other free v i u in
          ap (λ k. get_or (set us v 0) k 0) other
          ∙ get_or-set_other us v (get_or free i 0) 0 0 (free-apart us free v i vacant some early)
          ∙ vacant.unused i early)
          (cases_eq i (length free));
      distinct = λ w.
          let more = times-push free v w in
          ⊎_elim
          (λ (e : v ≡ w).
          let none : times free w ≡ 0 = subst (λ k. times free k ≡ 0) e away in
          let one = same-one v w e in
          omega arith)
          (λ (u : v ≢ w). let none = same-other v w u in omega (arith, vacant.distinct w))
          (cases_eq v w);
      count =
          let change = busy-set us v 0 within in
          let before = is_busy-some (get_or us v 0) some in
          let after = is_busy-none 0 refl in
          let count = vacant.count in
          omega (arith, length-set us v 0);
    }

-- there is room for it among the free ones
pub free-room : (us free : List ℕ) (v : ℕ) → AreFree us free → 0 < get_or us v 0 → length free < length us
free-room us free v vacant some = let busy_one = busy-some us v some in let count = vacant.count in omega arith

-- the last of the free numbers
module _ (us free rest : List ℕ) (v : ℕ) (vacant : AreFree us free) (split : free ≡ rest ++ v ∷ []) where
  last-read : get_or free (length rest) 0 ≡ v
  last-read = ap (λ xs. get_or xs (length rest) 0) split ∙ push-here rest v (length rest) refl

  last-long : length free ≡ length rest + 1
  last-long = ap length split ∙ length_push rest v

  -- it is one of the numbers
  pub last-low : v < length us
  last-low = let long = last-long in let read = last-read in omega (arith, vacant.low (length rest) (omega arith))

  -- it is not in use
  pub last-unused : get_or us v 0 ≡ 0
  last-unused =
      let long = last-long in
      ap (λ k. get_or us k 0) (sym last-read) ∙ vacant.unused (length rest) (omega arith)

  -- once it is in use, the others are the free ones
  pub AreFree-give : AreFree (set us v 1) rest
  AreFree-give =
      let long = last-long in
      let split_times : (w : ℕ) → times free w ≡ times rest w + same v w =
      λ w. ap (λ xs. times xs w) split ∙ times-push rest v w in
      let read : (i : ℕ) → i < length rest → get_or rest i 0 ≡ get_or free i 0 = λ i h.
      sym (ap (λ xs. get_or xs i 0) split ∙ push-other rest v i (omega arith)) in
      record {
        low = λ i h. let same_read = read i h in omega (arith, vacant.low i (omega arith), length-set us v 1);
        unused = λ i h.
            let apart : get_or rest i 0 ≢ v = λ e.
            let some = times-at rest i v h e in
            let one = same-one v v refl in
            absurd (omega (arith, vacant.distinct v, split_times v)) in
            get_or-set_other us v (get_or rest i 0) 1 0 apart ∙ ap (λ k. get_or us k 0) (read i h)
            ∙ vacant.unused i (omega arith);
        distinct = λ w. omega (arith, vacant.distinct w, split_times w);
        count =
            let change = busy-set us v 1 last-low in
            let before = is_busy-none (get_or us v 0) last-unused in
            let after = is_busy-some 1 (omega arith) in
            let count = vacant.count in
            omega (arith, length-set us v 1);
      }

-- where none is free, all are in use, and the next number is new
pub all-busy : (us free : List ℕ) → AreFree us free → free ≡ [] → length us ≤ sum us
all-busy us free vacant none =
    let empty : length free ≡ 0 = ap length none in let count = vacant.count in omega (arith, busy-le-sum us)

-- with the next number in use, still none is free
pub AreFree-new : (us free none : List ℕ) → AreFree us free → free ≡ [] → none ≡ [] → AreFree (us ++ 1 ∷ []) none
AreFree-new us free none vacant is_free is_none =
    let empty : length none ≡ 0 = ap length is_none in
    let before : length free ≡ 0 = ap length is_free in
    record {
      low = λ i h. absurd (omega arith);
      unused = λ i h. absurd (omega arith);
      distinct = λ w. let zero_times = ap (λ xs. times xs w) is_none in let nothing = times-none w in omega arith;
      count =
          let change = busy-push us 1 in
          let after = is_busy-some 1 (omega arith) in
          let count = vacant.count in
          omega (arith, length_push us 1);
    }

-- ---- the numbers of the points

-- fewer are in use, or the same
pub IsNumbered-fewer : (ps us vs ns : List ℕ) → IsNumbered ps us ns
    → ((w : ℕ) → 0 < get_or vs w 0 → 0 < get_or us w 0) → IsNumbered ps vs ns
IsNumbered-fewer ps us vs ns numbered less w some = numbered w (less w some)

-- a number v is given to a point that has none
pub IsNumbered-give : (ps us qs vs ns : List ℕ) (p v : ℕ) → IsNumbered ps us ns → p < length ns
    → ((w : ℕ) → 0 < get_or us w 0 → get_or ps w 0 ≢ p) → get_or qs v 0 ≡ p
    → ((w : ℕ) → w ≢ v → get_or qs w 0 ≡ get_or ps w 0) → ((w : ℕ) → w ≢ v → get_or vs w 0 ≡ get_or us w 0) →
    IsNumbered qs vs (set ns p v)
IsNumbered-give ps us qs vs ns p v numbered within away here others uses w some = ⊎_elim
    (λ (e : w ≡ v).
    let point : get_or qs w 0 ≡ p = ap (λ k. get_or qs k 0) e ∙ here in
    (omega (arith, length-set ns p v), set-here ns p v (get_or qs w 0) within point ∙ sym e))
    (λ (u : w ≢ v).
    let used : 0 < get_or us w 0 = let same_uses = uses w u in omega arith in
    let point : get_or qs w 0 ≡ get_or ps w 0 = others w u in
    let old = numbered w used in (
      omega (arith, length-set ns p v, old.0),
      get_or-set_other ns p (get_or qs w 0) v 0 (λ e. away w used (sym point ∙ e))
          ∙ ap (λ k. get_or ns k 0) point ∙ old.1,
    ))
    (cases_eq w v)
