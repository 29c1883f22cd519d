-- What calls of the heap do to the deadlines that slots have.
use Rattle.std.proofs.Common.{◌≡◌, ℕ, zero, suc, ◌≤◌, List, [], ◌∷◌, length, replicate, get_or, Option, Some, None}
use Rattle.std.proofs.Common.{IsSome, IsSomeAnd, option_map, true≢false, refl, sym, ◌∙◌, ap, subst, arith, rules}
use Rattle.std.proofs.Common.{◌⊎◌, inl, inr}
use Rattle.std.proofs.Math.ListN.{set}
use Rattle.std.proofs.lemmas.List.{set-get_or, length-set, length-replicate}
use Rattle.list_laws.proofs.ZipLemmas.{get_or-zip2_any}
use Rattle.lazy_priority.specs.declared.deadlines.Deadline.{Deadline}
use Rattle.lazy_priority.specs.declared.deadlines.Deadline.TheVariants.{Absent, Stands, Expired}
use Rattle.lazy_priority.specs.Due.{NoneIsDue}
use Rattle.lazy_priority.specs.Expired.{NoneExpired}
use Rattle.lazy_priority.specs.Kept.{from_key, kept, HasKey, IsSoundLazy}

-- the odometer from which a slot is due
pub kept-at : (keys : List (Option ℕ)) (deadlines : List Deadline) (i : ℕ) → length deadlines ≡ length keys →
    get_or (kept keys deadlines) i None ≡ from_key (get_or deadlines i Absent) (get_or keys i None)
kept-at keys deadlines i = get_or-zip2_any from_key deadlines keys i Absent None

-- where no key is due and no deadline has expired, no slot is due
pub NoneIsDue-kept : (keys : List (Option ℕ)) (deadlines : List Deadline) (odometer : ℕ) →
    length deadlines ≡ length keys → NoneExpired deadlines → NoneIsDue keys odometer →
    NoneIsDue (kept keys deadlines) odometer
NoneIsDue-kept keys deadlines odometer same fresh none slot due =
    by_deadline (get_or deadlines slot.0 Absent) refl
    (subst (λ (k : Option ℕ). IsSomeAnd k (λ it. it ≤ odometer)) (kept-at keys deadlines slot.0 same) due)
  where
    by_deadline : (one : Deadline) → get_or deadlines slot.0 Absent ≡ one →
        IsSomeAnd (from_key one (get_or keys slot.0 None)) (λ it. it ≤ odometer) → ⊥
    by_deadline Absent e h = absurd h
    by_deadline Stands e h = none slot h
    by_deadline Expired e h = fresh slot e

-- of a slot whose deadline neither stands nor has expired
pub absent : (one : Deadline) → (one ≡ Stands → ⊥) → (one ≡ Expired → ⊥) → one ≡ Absent
absent Absent other fresh = refl
absent Stands other fresh = absurd (other refl)
absent Expired other fresh = absurd (fresh refl)

-- ---- that there are keys where deadlines stand

-- none stands at first
pub IsSoundLazy-none : (n : ℕ) → IsSoundLazy (replicate n None) (replicate n Absent)
IsSoundLazy-none n = (length-replicate n Absent ∙ sym (length-replicate n None), λ slot. no_key n slot.0)
  where
    no_key : (n i : ℕ) → HasKey (get_or (replicate n Absent) i Absent) (get_or (replicate n None) i None)
    no_key zero i = search rules
    no_key (suc n) zero = search rules
    no_key (suc n) (suc i) = no_key n i

-- at each slot but those of one number, where key and deadline change
by_place : (keys : List (Option ℕ)) (deadlines : List Deadline) (i j : ℕ) (key : Option ℕ) (one : Deadline) →
    HasKey (get_or deadlines j Absent) (get_or keys j None) → HasKey one key → length deadlines ≡ length keys →
    HasKey (get_or (set deadlines i one) j Absent) (get_or (set keys i key) j None)
by_place [] [] i j key one has own same = has
by_place [] (_ ∷ deadlines) i j key one has own same = absurd (omega arith)
by_place (_ ∷ keys) [] i j key one has own same = absurd (omega arith)
by_place (_ ∷ keys) (_ ∷ deadlines) zero zero key one has own same = own
by_place (_ ∷ keys) (_ ∷ deadlines) zero (suc j) key one has own same = has
by_place (_ ∷ keys) (_ ∷ deadlines) (suc i) zero key one has own same = has
by_place (_ ∷ keys) (_ ∷ deadlines) (suc i) (suc j) key one has own same =
    by_place keys deadlines i j key one has own (omega arith)

pub IsSoundLazy-set : (keys : List (Option ℕ)) (deadlines : List Deadline) (i : ℕ) (key : Option ℕ) (one : Deadline) →
    HasKey one key → IsSoundLazy keys deadlines → IsSoundLazy (set keys i key) (set deadlines i one)
IsSoundLazy-set keys deadlines i key one own sound = (
  length-set deadlines i one ∙ sound.0 ∙ sym (length-set keys i key),
  λ slot. by_place keys deadlines i slot.0 key one (sound.1 slot) own sound.0,
)

-- where the deadline alone changes
pub IsSoundLazy-deadline : (keys : List (Option ℕ)) (deadlines : List Deadline) (i : ℕ) (one : Deadline) →
    HasKey one (get_or keys i None) → IsSoundLazy keys deadlines → IsSoundLazy keys (set deadlines i one)
IsSoundLazy-deadline keys deadlines i one own sound =
    subst (λ l. IsSoundLazy l (set deadlines i one)) (set-get_or keys i None)
    (IsSoundLazy-set keys deadlines i (get_or keys i None) one own sound)

-- where the key alone does
pub IsSoundLazy-key : (keys : List (Option ℕ)) (deadlines : List Deadline) (i : ℕ) (key : Option ℕ) →
    HasKey (get_or deadlines i Absent) key → IsSoundLazy keys deadlines → IsSoundLazy (set keys i key) deadlines
IsSoundLazy-key keys deadlines i key own sound =
    subst (IsSoundLazy (set keys i key)) (set-get_or deadlines i Absent)
    (IsSoundLazy-set keys deadlines i key (get_or deadlines i Absent) own sound)

-- ---- an expiry

-- a deadline that stands becomes 0
pub some-mapped : (key : Option ℕ) → IsSome key → option_map {U = ℕ} (λ _. 0) key ≡ Some 0
some-mapped None e = absurd (true≢false (sym e))
some-mapped (Some k) e = refl

pub kept-expired : (keys : List (Option ℕ)) (deadlines : List Deadline) (i : ℕ) → length deadlines ≡ length keys →
    get_or deadlines i Absent ≡ Stands → IsSome (get_or keys i None) →
    set (kept keys deadlines) i (Some 0)
    ≡ set (kept keys deadlines) i (option_map {U = ℕ} (λ _. 0) (get_or (kept keys deadlines) i None))
kept-expired keys deadlines i same stands some =
    let at : get_or (kept keys deadlines) i None ≡ get_or keys i None =
    kept-at keys deadlines i same ∙ ap (λ d. from_key d (get_or keys i None)) stands in
    sym (ap (set (kept keys deadlines) i) (ap (option_map {U = ℕ} (λ _. 0)) at ∙ some-mapped (get_or keys i None) some))

-- nothing of a slot without one, or whose deadline has expired
pub kept-no_expire : (keys : List (Option ℕ)) (deadlines : List Deadline) (i : ℕ) → length deadlines ≡ length keys →
    (get_or deadlines i Absent ≡ Absent) ⊎ (get_or deadlines i Absent ≡ Expired) →
    kept keys deadlines
    ≡ set (kept keys deadlines) i (option_map {U = ℕ} (λ _. 0) (get_or (kept keys deadlines) i None))
kept-no_expire keys deadlines i same other =
    sym (ap (set (kept keys deadlines) i) (elim other [
      | inl e ↦ still Absent e refl
      | inr e ↦ still Expired e refl
    ]) ∙ set-get_or (kept keys deadlines) i None)
  where
    mapped : Option ℕ → Option ℕ
    mapped = option_map {U = ℕ} (λ _. 0)

    still : (one : Deadline) → get_or deadlines i Absent ≡ one →
        mapped (from_key one (get_or keys i None)) ≡ from_key one (get_or keys i None) →
        mapped (get_or (kept keys deadlines) i None) ≡ get_or (kept keys deadlines) i None
    still one e same_key =
        let at = kept-at keys deadlines i same ∙ ap (λ d. from_key d (get_or keys i None)) e in
        ap mapped at ∙ same_key ∙ sym at
