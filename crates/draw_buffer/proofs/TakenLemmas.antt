-- What a use more and a use less of a vertex number leave, of the fields and of what is seen.
use Rattle.std.proofs.Common.{◌≡◌, ◌≢◌, ℕ, ◌+◌, ◌^◌, ◌<◌, List, [], ◌∷◌, ◌++◌, length, get_or, set, sum, refl, sym}
use Rattle.std.proofs.Common.{ap, ◌∙◌, subst, arith, ⊎_elim}
use Rattle.std.proofs.lemmas.Bool.{cases_eq}
use Rattle.std.proofs.lemmas.List.{length-set, length_push, get_or-set_other}
use Rattle.draw_buffer.specs.Times.{times, same}
use Rattle.draw_buffer.specs.Vertices.{VertexState, AreSound, IsTaken}
use Rattle.draw_buffer.proofs.TimesLemmas.{same-one, same-other, times-none, times-push}
use Rattle.draw_buffer.proofs.VertexLemmas.{busy-none, used-within, sum-set, set-here, push-here, push-other}
use Rattle.draw_buffer.proofs.VertexLemmas.{AreFree-stay, AreFree-leave, last-low, AreFree-give, all-busy, AreFree-new}
use Rattle.draw_buffer.proofs.VertexLemmas.{IsNumbered-fewer, IsNumbered-give}

-- ---- the fields

module _ (ps us ns free : List ℕ) (most r1 r2 r3 r4 : ℕ) (sound : AreSound ps us ns free most r1 r2 r3 r4) where
  -- what is in use after a change of one number was in use before
  still-used : (v u : ℕ) → 0 < get_or us v 0 → (w : ℕ) → 0 < get_or (set us v u) w 0 → 0 < get_or us w 0
  still-used v u used w some = ⊎_elim
      (λ (e : w ≡ v). subst (λ k. 0 < get_or us k 0) (sym e) used)
      (λ (apart : w ≢ v). let other = get_or-set_other us v w u 0 apart in omega arith)
      (cases_eq w v)

  -- another number of uses
  pub sound-stay : (v u : ℕ) → 0 < get_or us v 0 → 0 < u → AreSound ps (set us v u) ns free most r1 r2 r3 r4
  sound-stay v u used some = record {
    numbered = IsNumbered-fewer ps us (set us v u) ns sound.numbered (still-used v u used);
    vacant = AreFree-stay us free v u sound.vacant used some;
    long = sound.long ∙ sym (length-set us v u);
    few = sound.few;
    small = sound.small;
    point_space = sound.point_space;
    use_space = sound.use_space;
    free_space = sound.free_space;
    given_space = sound.given_space;
  }

  -- the last use ends
  pub sound-leave : (v : ℕ) (more : List ℕ) (s3 : ℕ) → 0 < get_or us v 0 → more ≡ free ++ v ∷ [] → s3 ≡ r3
      → AreSound ps (set us v 0) ns more most r1 r2 s3 r4
  sound-leave v more s3 used is_more l3 = rw is_more (record {
    numbered = IsNumbered-fewer ps us (set us v 0) ns sound.numbered (still-used v 0 used);
    vacant = AreFree-leave us free v sound.vacant used;
    long = sound.long ∙ sym (length-set us v 0);
    few = sound.few;
    small = sound.small;
    point_space = sound.point_space;
    use_space = sound.use_space;
    free_space = (let h = sound.free_space in omega arith);
    given_space = sound.given_space;
  })

  -- a free number is given to a point that has none
  pub sound-give : (rest : List ℕ) (v p s3 s4 : ℕ) → free ≡ rest ++ v ∷ [] → p < length ns
      → ((w : ℕ) → 0 < get_or us w 0 → get_or ps w 0 ≢ p)
      → s3 ≡ r3 → s4 ≡ r4 → AreSound (set ps v p) (set us v 1) (set ns p v) rest most r1 r2 s3 s4
  sound-give rest v p s3 s4 split within away l3 l4 =
      let low = last-low us free rest v sound.vacant split in
      let long = sound.long in
      record {
        numbered = IsNumbered-give ps us (set ps v p) (set us v 1) ns p v sound.numbered within away
            (set-here ps v p v (omega arith) refl)
            (λ w u. get_or-set_other ps v w p 0 u) (λ w u. get_or-set_other us v w 1 0 u);
        vacant = AreFree-give us free rest v sound.vacant split;
        long = length-set ps v p ∙ sound.long ∙ sym (length-set us v 1);
        few = (let h = sound.few in omega (arith, length-set ps v p));
        small = sound.small;
        point_space = sound.point_space;
        use_space = sound.use_space;
        free_space = (let h = sound.free_space in omega arith);
        given_space = (let h = sound.given_space in omega arith);
      }

  -- where none is free there is room for a new number
  pub new-room : free ≡ [] → sum us < most → length ps < most
  new-room none room = let all = all-busy us free sound.vacant none in let long = sound.long in omega arith

  -- and it is given
  pub sound-new : (qs vs none : List ℕ) (v p s1 s2 s3 s4 : ℕ) → free ≡ [] → none ≡ [] → sum us < most →
      v ≡ length ps → p < length ns
      → ((w : ℕ) → 0 < get_or us w 0 → get_or ps w 0 ≢ p) → qs ≡ ps ++ p ∷ [] → vs ≡ us ++ 1 ∷ [] → s1 ≡ r1 →
      s2 ≡ r2 → s3 ≡ r3 → s4 ≡ r4
      → AreSound qs vs (set ns p v) none most s1 s2 s3 s4
  sound-new qs vs none v p s1 s2 s3 s4 is_free is_none room is_v within away is_qs is_vs l1 l2 l3 l4 =
      let long = sound.long in
      let some = new-room is_free room in
      rw (is_qs, is_vs) (record {
        numbered = IsNumbered-give ps us (ps ++ p ∷ [])
            (us ++ 1 ∷ []) ns p v sound.numbered within away (push-here ps p v is_v)
            (λ w u. push-other ps p w (λ e. u (e ∙ sym is_v)))
            (λ w u. push-other us 1 w (λ e. u (e ∙ sym long ∙ sym is_v)));
        vacant = AreFree-new us free none sound.vacant is_free is_none;
        long = omega (arith, length_push ps p, length_push us 1);
        few = omega (arith, length_push ps p);
        small = sound.small;
        point_space = (let h = sound.point_space in omega arith);
        use_space = (let h = sound.use_space in omega arith);
        free_space = (let h = sound.free_space in omega arith);
        given_space = (let h = sound.given_space in omega arith);
      })

-- ---- what is seen

-- one more or one less at a number
pub uses-more : (us : List ℕ) (v u : ℕ) → 0 < get_or us v 0 → u ≡ get_or us v 0 + 1 → (w : ℕ)
    → get_or (set us v u) w 0 ≡ get_or us w 0 + same v w
uses-more us v u used is_u w = ⊎_elim
    (λ (e : w ≡ v).
    let here = set-here us v u w (used-within us v used) e in
    let one = same-one v w (sym e) in
    let old = ap (λ k. get_or us k 0) e in
    omega arith)
    (λ (apart : w ≢ v).
    let other = get_or-set_other us v w u 0 apart in
    let none = same-other v w (λ e. apart (sym e)) in
    omega arith)
    (cases_eq w v)

-- the same with one less
pub uses-less : (us : List ℕ) (v u : ℕ) → 0 < get_or us v 0 → u + 1 ≡ get_or us v 0 → (w : ℕ)
    → get_or (set us v u) w 0 + same v w ≡ get_or us w 0
uses-less us v u used is_u w = ⊎_elim
    (λ (e : w ≡ v).
    let here = set-here us v u w (used-within us v used) e in
    let one = same-one v w (sym e) in
    let old = ap (λ k. get_or us k 0) e in
    omega arith)
    (λ (apart : w ≢ v).
    let other = get_or-set_other us v w u 0 apart in
    let none = same-other v w (λ e. apart (sym e)) in
    omega arith)
    (cases_eq w v)

-- a number in use has a use more
pub taken-again : (before after : VertexState) (p v : ℕ) → 0 < get_or before.uses v 0 → get_or before.points v 0 ≡ p
    → after ≡ record before { uses = set before.uses v (get_or before.uses v 0 + 1) } → IsTaken before after p v
taken-again before after p v used is_p is_after = rw is_after (record {
  here = is_p;
  uses = uses-more before.uses v _ used refl;
  total =
      (let change = sum-set before.uses v (get_or before.uses v 0 + 1) (used-within before.uses v used) in omega arith);
  stay = λ w some. refl;
  told = λ w none. refl;
  grows = λ w none. none;
  used = λ w some. refl;
  few = omega arith;
  end = refl;
  most = refl;
})

-- a number that was in no use has its first
pub taken-first : (before after : VertexState) (p v : ℕ) → get_or before.uses v 0 ≡ 0 → get_or after.uses v 0 ≡ 1
    → ((w : ℕ) → w ≢ v → get_or after.uses w 0 ≡ get_or before.uses w 0) → sum after.uses ≡ sum before.uses + 1
    → get_or after.points v 0 ≡ p → ((w : ℕ) → w ≢ v → get_or after.points w 0 ≡ get_or before.points w 0)
    → after.given ≡ before.given ++ v ∷ [] → after.end ≡ before.end → after.most ≡ before.most →
    IsTaken before after p v
taken-first before after p v unused first others total is_p points given end most = record {
  here = is_p;
  uses = λ w. ⊎_elim
      (λ (e : w ≡ v).
      let one = same-one v w (sym e) in
      let old = ap (λ k. get_or before.uses k 0) e in
      let now = ap (λ k. get_or after.uses k 0) e in
      omega arith)
      (λ (apart : w ≢ v). let none = same-other v w (λ e. apart (sym e)) in let other = others w apart in omega arith)
      (cases_eq w v);
  total = total;
  stay = λ w some. points w (λ e. let old = ap (λ k. get_or before.uses k 0) e in absurd (omega arith));
  told = λ w none. points w (λ e.
      let more = ap (λ xs. times xs w) given ∙ times-push before.given v w in
      let one = same-one v w (sym e) in
      absurd (omega arith));
  grows = λ w none. let more = ap (λ xs. times xs w) given ∙ times-push before.given v w in omega arith;
  used = λ w some.
      let more = ap (λ xs. times xs w) given ∙ times-push before.given v w in
      let none = same-other v w (λ e. let old = ap (λ k. get_or before.uses k 0) e in omega arith) in
      omega arith;
  few = (let long = ap length given ∙ length_push before.given v in omega arith);
  end = end;
  most = most;
}

-- ---- at first

-- an empty table is sound if there is room for as many uses as there may be
pub sound-none : (ps us ns free : List ℕ) (most r1 r2 r3 r4 : ℕ) → ps ≡ [] → us ≡ [] → free ≡ [] → most < 2 ^ 32
    → r1 ≡ most → r2 ≡ most → r3 ≡ most → r4 ≡ most
    → AreSound ps us ns free most r1 r2 r3 r4
sound-none ps us ns free most r1 r2 r3 r4 is_ps is_us is_free small l1 l2 l3 l4 = rw (is_ps, is_us, is_free) (record {
  numbered = λ v some. absurd (omega arith);
  vacant = record {
    low = λ i h. absurd (omega arith);
    unused = λ i h. absurd (omega arith);
    distinct = λ w. let none = times-none w in omega arith;
    count = busy-none;
  };
  long = refl;
  few = omega arith;
  small = small;
  point_space = l1;
  use_space = l2;
  free_space = l3;
  given_space = l4;
})
