-- What each call of a heap gets ready for `place`, and what holds of the heap afterwards.
use Rattle.std.proofs.Common.{◌≡◌, ◌≢◌, ℕ, ◌+◌, ◌^◌, ◌<◌, ◌≤◌, true, List, [], ◌∷◌, ◌++◌, length, get_or, set, take}
use Rattle.std.proofs.Common.{replicate, cond, Option, Some, None, is_some, count_by, slice_get, Bool, eqb, Vec, refl}
use Rattle.std.proofs.Common.{sym, ap, ◌∙◌, subst, ⊎_elim, arith, length-append}
use Rattle.std.specs.Cmp.{IsTotalOrder}
use Rattle.std.specs.Vec.{with_items}
use Rattle.std.specs.Ordering.{is_lt}
use Rattle.std.specs.declared.cmp.Ordering.{Ordering}
use Rattle.std.proofs.lemmas.List.{length-set, length-replicate, length-take-le, set_at, get_or-replicate}
use Rattle.std.proofs.lemmas.List.{get_or-set_other, get_or_append_left, get_or-take, get_or_past, get_or_read}
use Rattle.std.proofs.lemmas.List.{with_items_is}
use Rattle.std.proofs.lemmas.List.Folds.{sum_by-replicate}
use Rattle.std.proofs.lemmas.Bool.{false≢true}
use Rattle.std.proofs.lemmas.Option.{none-some, slice_get_cases, slice_get_within, get_or_from_slice_get}
use Rattle.bintree_addr.specs.declared.slot.Slot.{Slot}
use Rattle.slot_heap.specs.declared.entry.Entry.{Entry}
use Rattle.slot_heap.specs.Keys.{key_of, IsLeastKey}
use Rattle.slot_heap.specs.Entries.{HasPlaces, HasKeysOf, key_in, keys_of}
use Rattle.slot_heap.specs.Order.{parent, key_at, IsHeap, IsHeapButAt}
use Rattle.slot_heap.specs.Sound.{IsSoundHeap}
use Rattle.slot_heap.proofs.OrderLemmas.{not_less_back, IsUpTo-along, IsUpTo-trans, IsUpTo-first}
use Rattle.slot_heap.proofs.LinkLemmas.{slot_at, slot_at-distinct, HasPlaces-push, HasPlaces-set, HasPlaces-take}
use Rattle.slot_heap.proofs.KeyLemmas.{length-keys_of, get_or-keys_of, keys_of-present, keys_of-absent, keys_of-unique}
use Rattle.slot_heap.proofs.KeyLemmas.{keys_of-push, keys_of-set, keys_of-pop, keys_of-remove, HasPlaces-remove}
use Rattle.slot_heap.proofs.KeyLemmas.{slot_at-vacant, IsFound, IsFound-from_key, count_more, count_same, count_less}
use Rattle.slot_heap.proofs.KeyLemmas.{count_room}

module _ {K : Type 0} {cmp : K → K → Ordering} (o : IsTotalOrder cmp) where
  -- the order does not mind an entry that is put last and held there
  pub IsHeapButAt-push : (xs es : List (Entry K)) (x : Entry K) (n : ℕ) → es ≡ xs ++ x ∷ [] → n ≡ length xs →
      IsHeap cmp xs → IsHeapButAt cmp (set es n x) n
  IsHeapButAt-push xs es x n e f order =
      let long : length (set es n x) ≡ length xs + 1 = length-set es n x ∙ ap length e ∙ length-append xs (x ∷ []) in
      let same : (i : ℕ) (d : Entry K) → i < n → key_at (set es n x) i d ≡ key_at xs i d = λ i d h.
      ap (λ z. z.key) (get_or-set_other es n i x d (omega arith) ∙ ap (λ zs. get_or zs i d) e
      ∙ get_or_append_left xs (x ∷ []) d i (omega arith)) in (
        λ i d lo hi u v. IsUpTo-along o _ _ _ _ (same (parent i) d (omega arith)) (same i d (omega arith))
            (order i d lo (omega arith)),
        λ i d lo hi child more. absurd (omega arith),
      )

  -- nor one that is held in the place of another
  pub IsHeapButAt-set : (xs : List (Entry K)) (x : Entry K) (at : ℕ) → at < length xs → IsHeap cmp xs →
      IsHeapButAt cmp (set xs at x) at
  IsHeapButAt-set xs x at inside order =
      let same : (i : ℕ) (d : Entry K) → i ≢ at → key_at (set xs at x) i d ≡ key_at xs i d =
      λ i d u. ap (λ z. z.key) (get_or-set_other xs at i x d u) in (
        λ i d lo hi u v. IsUpTo-along o _ _ _ _ (same (parent i) d v) (same i d u)
            (order i d lo (omega (arith, length-set xs at x))),
        λ i d lo hi child more. IsUpTo-along o _ _ _ _ (same (parent at) d (omega arith)) (same i d (omega arith))
            (IsUpTo-trans o _ _ _ (order at d more inside) (IsUpTo-along o _ _ _ _
            (ap (λ j. key_at xs j d) (sym child)) refl (order i d lo (omega (arith, length-set xs at x))))),
      )

  -- the first entries of a heap are a heap
  pub IsHeap-take : (xs : List (Entry K)) (n : ℕ) → n ≤ length xs → IsHeap cmp xs → IsHeap cmp (take n xs)
  IsHeap-take xs n le order i d lo hi =
      let h : i < n = omega (arith, length-take-le n xs le) in
      IsUpTo-along o _ _ _ _ (ap (λ z. z.key) (get_or-take n xs (parent i) d (omega arith)))
      (ap (λ z. z.key) (get_or-take n xs i d h)) (order i d lo (omega arith))

  -- a heap with no entry
  pub keys_of-new : (xs : List (Entry K)) (ps : List ℕ) (n : ℕ) → xs ≡ [] → length ps ≡ n →
      keys_of xs ps ≡ replicate n None
  keys_of-new xs ps n e f =
      let none : length xs ≡ 0 = ap length e in
      keys_of-unique xs ps (replicate n None) (λ i d h. absurd (omega arith)) (length-replicate n None ∙ sym f)
      (λ i d h. absurd (omega arith)) (λ k h u. get_or-replicate n k None None (omega arith))

  pub IsSound-new : (xs : List (Entry K)) (ps : List ℕ) (n capacity : ℕ) → xs ≡ [] → length ps ≡ n → capacity ≡ n →
      n < 2 ^ 32 → IsSoundHeap cmp xs ps capacity
  IsSound-new xs ps n capacity e f room few =
      let none : length xs ≡ 0 = ap length e in
      let one : Option K → ℕ = λ k. cond (is_some k) 1 0 in
      record {
        linked = λ i d h. absurd (omega arith);
        order = λ i d lo hi. absurd (omega arith);
        count = ap (count_by is_some) (keys_of-new xs ps n e f) ∙ omega (arith, sum_by-replicate one n None);
        room = omega arith;
        few = omega arith;
      }

  -- a heap whose keys are the list t
  module _ {xs : List (Entry K)} {ps : List ℕ} {capacity : ℕ} {t : List (Option K)}
      (sound : IsSoundHeap cmp xs ps capacity) (view : keys_of xs ps ≡ t) where
    -- each slot has a place
    pub slots : length t ≡ length ps
    slots = ap length (sym view) ∙ length-keys_of xs ps

    -- the least key is the first entry's
    pub IsLeastKey-first : (x : Entry K) → Some x ≡ slice_get xs 0 → IsLeastKey cmp t x.slot x.key
    IsLeastKey-first x first = let some = slice_get_within xs 0 x (sym first) in
        let e = sym (get_or_from_slice_get xs 0 x x (sym first)) in (
          ap (λ s. get_or s x.slot.0 None) (sym view) ∙ subst (λ z. get_or (keys_of xs ps) z.slot.0 None ≡ Some z.key)
              (sym e) (keys_of-present xs ps sound.linked 0 x some),
          λ other it f.
              let found = IsFound-from_key xs ps other.0 it (ap (λ s. get_or s other.0 None) view ∙ f) in
              let at = get_or ps other.0 0 in
              ap is_lt (o.antisymm it x.key)
              ∙ not_less_back (cmp x.key it) (IsUpTo-along o _ _ _ _ (ap (λ z. z.key) e) (sym (found.has x))
              (IsUpTo-first o xs x sound.order at at (omega arith) found.inside)),
        )

    -- no slot has a key where there is no first entry
    pub key_of-empty : (slot : Slot) → None ≡ slice_get xs 0 → key_of t slot ≡ None
    key_of-empty slot none = none_at (key_of t slot) refl
      where
        none_at : (k : Option K) → key_of t slot ≡ k → k ≡ None
        none_at None e = refl
        none_at (Some k) e =
            let found = IsFound-from_key xs ps slot.0 k (ap (λ s. get_or s slot.0 None) view ∙ e) in
            absurd (⊎_elim (λ p. none-some p.0 (none ∙ p.2)) (λ p. omega (arith, p.0, found.inside))
            (slice_get_cases xs 0).1)

    -- a slot past the last has no key
    pub key_of-past : (slot : Slot) → length ps ≤ slot.0 → key_of t slot ≡ None
    key_of-past slot h = get_or_past t slot.0 None (omega (arith, slots))

    -- the key of a slot is read at its place p
    module _ (slot : Slot) (p : ℕ) (low : slot.0 < length ps) (is_p : p ≡ get_or ps slot.0 p) where
      key_of-read : key_of t slot ≡ key_in slot.0 (slice_get xs p)
      key_of-read = ap (λ s. get_or s slot.0 None) (sym view) ∙ get_or-keys_of xs ps slot.0 None low
          ∙ ap (λ j. key_in slot.0 (slice_get xs j)) (sym (get_or_read ps slot.0 p low is_p 0))

      -- there is none where no entry stands there
      pub key_of-no_entry : None ≡ slice_get xs p → key_of t slot ≡ None
      key_of-no_entry e = key_of-read ∙ ap (key_in slot.0) (sym e)

      -- it is that of the entry there, if that is of the slot
      pub key_of-entry : (x : Entry K) (b : Bool) → Some x ≡ slice_get xs p → b ≡ eqb x.slot.0 slot.0 →
          key_of t slot ≡ cond b (Some x.key) None
      key_of-entry x b is_x e = key_of-read ∙ ap (key_in slot.0) (sym is_x) ∙ ap (λ v. cond v (Some x.key) None) (sym e)

  -- an entry x that is held at a place of es may be placed, and the keys are then u
  pub record IsHeld (es : List (Entry K)) (ps : List ℕ) (at : ℕ) (x : Entry K) (u : List (Option K)) : Type 0 where
    pub linked : HasPlaces (set es at x) (set ps x.slot.0 at)
    pub order : IsHeapButAt cmp (set es at x) at
    pub keys : keys_of (set es at x) (set ps x.slot.0 at) ≡ u
    pub count : count_by is_some u ≡ length es

  module _ {xs : List (Entry K)} {ps : List ℕ} {capacity : ℕ} (sound : IsSoundHeap cmp xs ps capacity) where
    slots_long : length (keys_of xs ps) ≡ length ps
    slots_long = length-keys_of xs ps

    -- what is noted for a slot that has no entry does not matter
    module _ (s v : ℕ) (vacant : get_or (keys_of xs ps) s None ≡ None) where
      linked_still : HasPlaces xs (set ps s v)
      linked_still i d h = (
        omega (arith, (sound.linked i d h).0, length-set ps s v),
        get_or-set_other ps s (slot_at xs i d) v 0 (slot_at-vacant xs ps sound.linked s vacant i d h)
            ∙ (sound.linked i d h).1,
      )

      pub keys_of-unnoted : keys_of xs (set ps s v) ≡ keys_of xs ps
      keys_of-unnoted =
          keys_of-unique xs (set ps s v) (keys_of xs ps) linked_still (slots_long ∙ sym (length-set ps s v))
          (keys_of-present xs ps sound.linked)
          (λ k h u. keys_of-absent xs ps k (omega (arith, length-set ps s v)) u)

      pub IsSound-unnoted : IsSoundHeap cmp xs (set ps s v) capacity
      IsSound-unnoted = record {
        linked = linked_still;
        order = sound.order;
        count = ap (count_by is_some) keys_of-unnoted ∙ sound.count;
        room = omega (arith, sound.room, length-set ps s v);
        few = omega (arith, sound.few, length-set ps s v);
      }

    -- there is room for the entry of a slot that has none
    pub add_room : (x : Entry K) → x.slot.0 < length (keys_of xs ps) → get_or (keys_of xs ps) x.slot.0 None ≡ None →
        (length xs < length ps) × (length xs < capacity)
    add_room x low vacant =
        let more = count_room (keys_of xs ps) x.slot.0 x.key low vacant in
        (omega (arith, more, sound.count, slots_long), omega (arith, more, sound.count, slots_long, sound.room))

    -- it is held behind the others
    pub IsHeld-add : (x : Entry K) → x.slot.0 < length (keys_of xs ps) → get_or (keys_of xs ps) x.slot.0 None ≡ None →
        (es : List (Entry K)) (n : ℕ) → es ≡ xs ++ x ∷ [] → n ≡ length xs →
        IsHeld es ps n x (set (keys_of xs ps) x.slot.0 (Some x.key))
    IsHeld-add x low vacant es n e f =
        let within : x.slot.0 < length ps = omega (arith, slots_long) in
        let apart = slot_at-vacant xs ps sound.linked x.slot.0 vacant in
        let last : set es n x ≡ xs ++ x ∷ [] = ap (λ zs. set zs n x) e ∙ set_at xs x [] x n (sym f) in
        let noted : set ps x.slot.0 n ≡ set ps x.slot.0 (length xs) = ap (set ps x.slot.0) f in
        record {
          linked = rw (last, noted) (HasPlaces-push xs ps sound.linked x within apart);
          order = IsHeapButAt-push xs es x n e f sound.order;
          keys = ap (λ zs. keys_of zs (set ps x.slot.0 n)) last ∙ ap (keys_of (xs ++ x ∷ [])) noted
              ∙ keys_of-push xs ps sound.linked x within apart;
          count = omega (
            arith,
            count_more (keys_of xs ps) x.slot.0 x.key low vacant,
            sound.count,
            ap length e,
            length-append xs (x ∷ []),
          );
        }

    -- a slot's entry stands at its place
    pub IsFound-present : (s : ℕ) → is_some (get_or (keys_of xs ps) s None) ≡ true →
        (k : K) × (get_or (keys_of xs ps) s None ≡ Some k) × IsFound xs ps s k
    IsFound-present s h = some_at (get_or (keys_of xs ps) s None) refl
      where
        some_at : (k : Option K) → get_or (keys_of xs ps) s None ≡ k →
            (j : K) × (get_or (keys_of xs ps) s None ≡ Some j) × IsFound xs ps s j
        some_at None e = let no = ap is_some e in absurd (false≢true (sym no ∙ h))
        some_at (Some k) e = (k, e, IsFound-from_key xs ps s k e)

    -- an entry is held in the place of the one of its slot
    pub IsHeld-replace : (x : Entry K) (k : K) → get_or (keys_of xs ps) x.slot.0 None ≡ Some k →
        IsFound xs ps x.slot.0 k → (at : ℕ) → at ≡ get_or ps x.slot.0 0 →
        IsHeld xs ps at x (set (keys_of xs ps) x.slot.0 (Some x.key))
    IsHeld-replace x k has found at is_at =
        let inside : at < length xs = omega (arith, found.inside) in
        let own : (d : Entry K) → slot_at xs at d ≡ x.slot.0 = λ d. ap (λ j. slot_at xs j d) is_at ∙ found.own d in
        record {
          linked = HasPlaces-set xs ps sound.linked x at found.in_places
              (λ i d h u e. slot_at-distinct xs ps sound.linked i at d h inside u (e ∙ sym (own d))) inside;
          order = IsHeapButAt-set xs x at inside sound.order;
          keys = keys_of-set xs ps sound.linked x at inside own;
          count = count_same (keys_of xs ps) x.slot.0 x.key k (omega (arith, found.in_places, slots_long)) has
              ∙ sound.count;
        }

    -- the entry of a slot is removed, from the place at of m + 1
    module _ (s : ℕ) (k : K) (has : get_or (keys_of xs ps) s None ≡ Some k) (found : IsFound xs ps s k) (at m : ℕ)
        (is_at : at ≡ get_or ps s 0) (long : m + 1 ≡ length xs) (es : List (Entry K)) (rest : es ≡ take m xs) where
      own_slot : (d : Entry K) → slot_at xs at d ≡ s
      own_slot d = ap (λ j. slot_at xs j d) is_at ∙ found.own d

      fewer : count_by is_some (set (keys_of xs ps) s None) ≡ length es
      fewer = omega (
        arith,
        count_less (keys_of xs ps) s k (omega (arith, found.in_places, slots_long)) has,
        sound.count,
        ap length rest,
        length-take-le m xs (omega arith),
      )

      -- where it is the last, the others are the heap
      pub keys_of-last : m ≤ at → keys_of es ps ≡ set (keys_of xs ps) s None
      keys_of-last h =
          let at_m : m ≡ at = omega (arith, found.inside) in
          ap (λ zs. keys_of zs ps) rest
          ∙ keys_of-pop xs ps sound.linked m s long (λ d. ap (λ j. slot_at xs j d) at_m ∙ own_slot d)

      pub IsSound-last : (c : ℕ) → c ≡ capacity → m ≤ at → IsSoundHeap cmp es ps c
      IsSound-last c more h = record {
        linked = rw rest (HasPlaces-take xs ps sound.linked m (omega arith));
        order = rw rest (IsHeap-take xs m (omega arith) sound.order);
        count = ap (count_by is_some) (keys_of-last h) ∙ fewer;
        room = omega (arith, sound.room);
        few = sound.few;
      }

      -- else the last, x, is held in its place
      pub IsHeld-remove : (x : Entry K) → ((d : Entry K) → get_or xs m d ≡ x) → at < m →
          IsHeld es ps at x (set (keys_of xs ps) s None)
      IsHeld-remove x is_x h = rw rest (record {
        linked = HasPlaces-remove xs ps sound.linked x at m long h is_x;
        order = IsHeapButAt-set (take m xs) x at (omega (arith, length-take-le m xs (omega arith)))
            (IsHeap-take xs m (omega arith) sound.order);
        keys = keys_of-remove xs ps sound.linked x at m s long h is_x own_slot;
        count = fewer ∙ ap length rest;
      })

  -- after `place` the entries and the vector that was lent are a heap again, with the keys u
  module _ {es : List (Entry K)} {ps : List ℕ} {at : ℕ} {x : Entry K} {u : List (Option K)}
      (held : IsHeld es ps at x u) where
    module _ {A : Type 0} (w : Vec ℕ A) (ys : List (Entry K)) (qs : List ℕ) (same : length qs ≡ w.len)
        (placed : HasKeysOf (set es at x) (set ps x.slot.0 at) ys qs) where
      pub keys_of-placed : keys_of ys (with_items w qs).items ≡ u
      keys_of-placed = rw (with_items_is w qs same) (placed ∙ held.keys)

      pub IsSound-placed : (c : ℕ) → HasPlaces ys qs → IsHeap cmp ys → length ys ≡ length es → c ≡ length qs →
          length qs < 2 ^ 32 → IsSoundHeap cmp ys (with_items w qs).items c
      IsSound-placed c linked order n room few = rw (with_items_is w qs same) (record {
        linked = linked;
        order = order;
        count = ap (count_by is_some) (placed ∙ held.keys) ∙ held.count ∙ sym n;
        room = room;
        few = few;
      })
