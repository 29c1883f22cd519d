-- The entries of which the keys and the slots stand in two lists.
use Rattle.std.proofs.Common.{◌≡◌, ℕ, zero, suc, List, [], ◌∷◌, ◌++◌, length, get_or, set, refl, sym, ap, ◌∙◌, arith}
use Rattle.std.proofs.lemmas.List.{length_push}
use Rattle.bintree_addr.specs.declared.slot.Slot.{Slot}
use Rattle.slot_heap.specs.declared.entry.Entry.{Entry}
use Rattle.slot_heap.specs.EntriesState.{EntriesState, entries_of}

module _ {K : Type 0} where
  -- there are as many as keys
  length-entries_of : (ks : List K) (ss : List Slot) → length ss ≡ length ks → length (entries_of ks ss) ≡ length ks
  unfolding entries_of
  length-entries_of [] ss e = refl
  length-entries_of (k ∷ ks) [] e = absurd (omega (arith, e))
  length-entries_of (k ∷ ks) (s ∷ ss) e = ap suc (length-entries_of ks ss (omega (arith, e)))

  -- the entry at a place
  get_or-entries_of : (ks : List K) (ss : List Slot) → length ss ≡ length ks → (i : ℕ) (d : Entry K) →
      get_or (entries_of ks ss) i d ≡ record { key = get_or ks i d.key; slot = get_or ss i d.slot }
  unfolding entries_of
  get_or-entries_of [] [] e i d = refl
  get_or-entries_of [] (s ∷ ss) e i d = absurd (omega (arith, e))
  get_or-entries_of (k ∷ ks) [] e i d = absurd (omega (arith, e))
  get_or-entries_of (k ∷ ks) (s ∷ ss) e zero d = refl
  get_or-entries_of (k ∷ ks) (s ∷ ss) e (suc i) d = get_or-entries_of ks ss (omega (arith, e)) i d

  -- an entry in the place of another
  entries_of-set : (ks : List K) (ss : List Slot) → length ss ≡ length ks → (i : ℕ) (x : Entry K) →
      entries_of (set ks i x.key) (set ss i x.slot) ≡ set (entries_of ks ss) i x
  unfolding entries_of
  entries_of-set [] ss e i x = refl
  entries_of-set (k ∷ ks) [] e i x = absurd (omega (arith, e))
  entries_of-set (k ∷ ks) (s ∷ ss) e zero x = refl
  entries_of-set (k ∷ ks) (s ∷ ss) e (suc i) x =
      ap (λ (zs : List (Entry K)). record { key = k; slot = s } ∷ zs) (entries_of-set ks ss (omega (arith, e)) i x)

  -- an entry behind the others
  entries_of-push : (ks : List K) (ss : List Slot) → length ss ≡ length ks → (x : Entry K) →
      entries_of (ks ++ x.key ∷ []) (ss ++ x.slot ∷ []) ≡ entries_of ks ss ++ x ∷ []
  unfolding entries_of
  entries_of-push [] [] e x = refl
  entries_of-push [] (s ∷ ss) e x = absurd (omega (arith, e))
  entries_of-push (k ∷ ks) [] e x = absurd (omega (arith, e))
  entries_of-push (k ∷ ks) (s ∷ ss) e x =
      ap (λ (zs : List (Entry K)). record { key = k; slot = s } ∷ zs) (entries_of-push ks ss (omega (arith, e)) x)

  -- what is seen of keys and slots that are as many
  module _ (ks : List K) (ss : List Slot) {n : ℕ} {p : EntriesState K} (same : length ss ≡ length ks)
      (seen : record { items = entries_of ks ss; capacity = n } ≡ p) where
    items_are : entries_of ks ss ≡ p.items
    items_are = ap (λ (q : EntriesState K). q.items) seen

    pub length-items : length p.items ≡ length ks
    length-items = ap length (sym items_are) ∙ length-entries_of ks ss same

    -- an entry that is read by its key and its slot
    pub items-read : (i : ℕ) (x : Entry K) → x.key ≡ get_or ks i x.key → x.slot ≡ get_or ss i x.slot →
        x ≡ get_or p.items i x
    items-read i x is_key is_slot = ap (λ (k : K). record { key = k; slot = x.slot }) is_key
        ∙ ap (λ (s : Slot). record { key = get_or ks i x.key; slot = s }) is_slot
        ∙ sym (get_or-entries_of ks ss same i x) ∙ ap (λ zs. get_or zs i x) items_are

    pub items-set : (i : ℕ) (x : Entry K) → entries_of (set ks i x.key) (set ss i x.slot) ≡ set p.items i x
    items-set i x = entries_of-set ks ss same i x ∙ ap (λ zs. set zs i x) items_are

    pub items-push : (x : Entry K) (ls : List K) (ts : List Slot) → ls ≡ ks ++ x.key ∷ [] → ts ≡ ss ++ x.slot ∷ [] →
        entries_of ls ts ≡ p.items ++ x ∷ []
    items-push x ls ts e f =
        ap (λ zs. entries_of zs ts) e ∙ ap (entries_of (ks ++ x.key ∷ [])) f ∙ entries_of-push ks ss same x
        ∙ ap (λ zs. zs ++ x ∷ []) items_are

    pub items-pop : (x : Entry K) (ls : List K) (ts : List Slot) → ks ≡ ls ++ x.key ∷ [] → ss ≡ ts ++ x.slot ∷ [] →
        p.items ≡ entries_of ls ts ++ x ∷ []
    items-pop x ls ts e f =
        sym items_are ∙ ap (λ zs. entries_of zs ss) e ∙ ap (entries_of (ls ++ x.key ∷ [])) f
        ∙ entries_of-push ls ts (omega (
          arith,
          same,
          ap length e,
          ap length f,
          length_push ls x.key,
          length_push ts x.slot,
        )) x
