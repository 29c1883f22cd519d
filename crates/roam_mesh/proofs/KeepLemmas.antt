-- Entries that change their roles and keep what they have: they are listed last, and have it back.
use Rattle.std.proofs.Common.{◌≡◌, ℕ, ◌<◌, ◌||◌, Bool, true, false, nat_eq, List, [], ◌∷◌, ◌++◌, length, sym, ◌∙◌, ap}
use Rattle.std.proofs.Common.{subst, ⊎_elim}
use Rattle.std.specs.List.{IsDistinct}
use Rattle.std.proofs.lemmas.Bool.{cond-true, cond-false, eqb-true, or_parts, or_cases, both_ways}
use Rattle.mesh_defs.specs.ClosedSet.{among}
use Rattle.mesh_defs.proofs.ListLemmas.{among-in}
use Rattle.mesh_laws.proofs.SetListLemmas.{All-in}
use Rattle.mesh_laws.specs.Slots.{address_at}
use Rattle.mesh_laws.specs.Deferred.{IsEntry}
use Rattle.roam_mesh.specs.Mesh.{pool_members}
use Rattle.roam_mesh.specs.Parts.{PartsState, entry_at, is_entry_at, IsWhole, IsParts}
use Rattle.roam_mesh.specs.Change.{pushed_all}
use Rattle.roam_mesh.specs.Keeping.{CanTakeBack}
use Rattle.roam_mesh.specs.declared.entry.Entry.{Entry}
use Rattle.roam_mesh.proofs.SlotListLemmas.{among-push, distinct_front}
use Rattle.roam_mesh.proofs.FreshLemmas.{pushed_has, pushed_all-append, pushed-fresh}
use Rattle.roam_mesh.proofs.EnterLemmas.{HasSeated}
use Rattle.roam_mesh.proofs.PoolChangeLemmas.{IsChanged, IsKept, listed_same}
use Rattle.text_laws.proofs.TestLemmas.{by_bool}
use Rattle.std.proofs.Math.Bool.{or-false}

-- a slot that is listed after all others is the last fresh one
pub pushed_last : (parts : PartsState) (xs : List ℕ) (s : ℕ) → IsWhole parts → parts.fresh ≡ [] →
    ((r : ℕ) → among xs r ≡ true → r < length parts.entries) → among xs s ≡ false →
    (pushed_all parts (xs ++ (s ∷ []))).fresh ≡ (pushed_all parts xs).fresh ++ (s ∷ [])
pushed_last parts xs s whole none below apart =
    let has =
    pushed_has parts xs whole (All-in (λ r. r < length parts.entries) xs (λ r h. below r (among-in r xs h))) in
    let new : (entry_at (pushed_all parts xs) s).fresh ≡ false =
    has.whole.fresh.marked s ∙ has.fresh s ∙ ap (λ l. among l s || among xs s) none ∙ apart in
    ap (λ (p : PartsState). p.fresh) (pushed_all-append parts xs (s ∷ [])) ∙ pushed-fresh (pushed_all parts xs) s new

-- a slot before the last one is fresh where it is one of all, and not the last
front_fresh : (fresh rest : List ℕ) (s r : ℕ) → fresh ≡ rest ++ (s ∷ []) → nat_eq s r ≡ false →
    among rest r ≡ among fresh r
front_fresh fresh rest s r last other =
    sym (ap (λ l. among l r) last ∙ among-push rest s r ∙ ap (λ b. among rest r || (b || false)) other
    ∙ or-false (among rest r))

-- the entry that was seated, and another one
seated_own : (before after : PartsState) (rest : List ℕ) (s r : ℕ) (e : Entry) → HasSeated before after rest s e →
    nat_eq s r ≡ true → entry_at after r ≡ e
seated_own before after rest s r e has own = has.entries r ∙ cond-true (nat_eq s r) e (entry_at before r) own

seated_other : (before after : PartsState) (rest : List ℕ) (s r : ℕ) (e : Entry) → HasSeated before after rest s e →
    nat_eq s r ≡ false → entry_at after r ≡ entry_at before r
seated_other before after rest s r e has other = has.entries r ∙ cond-false (nat_eq s r) e (entry_at before r) other

-- a slot was an entry before the change, and has the same triangle after
abbrev pub WasEntry : PartsState → PartsState → ℕ → Type 0
WasEntry before changed s =
    (is_entry_at before.pool.pairs s ≡ true) × (address_at changed.pool.pairs s ≡ address_at before.pool.pairs s)

-- no fresh slot that has nothing back was one
abbrev pub AreNew : PartsState → PartsState → (ℕ → Bool) → Type 0
AreNew before changed kept =
    (r : ℕ) → kept r ≡ false → among changed.fresh r ≡ true →
    IsEntry before.pool.n (among (pool_members before.pool)) (address_at changed.pool.pairs r) → ⊥

module _ (before changed : PartsState) (gone : List ℕ) (whole : IsWhole before) (parts : IsParts before)
    (settled : before.fresh ≡ []) (is : IsChanged before changed gone) where
  -- what was kept of a slot can come back to it
  pub can_back : (now : PartsState) (rest : List ℕ) (s : ℕ) → IsParts now → now.fresh ≡ rest ++ (s ∷ []) →
      (entry_at now s).listed ≡ (entry_at before s).listed →
      CanTakeBack now rest s (entry_at before s)
  can_back now rest s is_parts last listed = record {
    parts_are = is_parts;
    last = last;
    near = parts.near s;
    stale = whole.fresh.marked s ∙ ap (λ l. among l s) settled;
    listed = sym listed;
    known = whole.known s;
  }

  -- first to the last one
  pub can_first : (rest : List ℕ) (s : ℕ) → IsParts changed → changed.fresh ≡ rest ++ (s ∷ []) →
      CanTakeBack changed rest s (entry_at before s)
  can_first rest s is_parts last = can_back changed rest s is_parts last (listed_same before changed gone is s)

  -- then to the one before
  pub can_second : (mid : PartsState) (first rest : List ℕ) (s t : ℕ) →
      HasSeated changed mid first s (entry_at before s) → first ≡ rest ++ (t ∷ []) →
      CanTakeBack mid rest t (entry_at before t)
  can_second mid first rest s t has last = can_back mid rest t has.parts (has.fresh ∙ last) (by_bool (nat_eq s t)
      (λ own. ap (λ (e : Entry). e.listed) (seated_own changed mid first s t (entry_at before s) has own
      ∙ ap (entry_at before) (eqb-true s t own)))
      (λ other. ap (λ (e : Entry). e.listed) (seated_other changed mid first s t (entry_at before s) has other)
      ∙ listed_same before changed gone is t))

  -- where one slot had it back
  pub kept_one : (after : PartsState) (rest : List ℕ) (s : ℕ) → changed.fresh ≡ rest ++ (s ∷ []) →
      HasSeated changed after rest s (entry_at before s) → WasEntry before changed s →
      AreNew before changed (λ r. nat_eq s r) → IsKept before changed after gone (λ r. nat_eq s r)
  kept_one after rest s last has was new =
      let front = distinct_front rest s (subst (IsDistinct nat_eq) last is.whole.fresh.distinct) in
      record {
        change = is;
        pool = has.pool;
        distinct = subst (IsDistinct nat_eq) (sym has.fresh) front.0;
        others = λ r other. (
          seated_other changed after rest s r (entry_at before s) has other,
          ap (λ l. among l r) has.fresh ∙ front_fresh changed.fresh rest s r last other,
        );
        own = λ r own. (
          seated_own changed after rest s r (entry_at before s) has own ∙ ap (entry_at before) (eqb-true s r own),
          ap (λ l. among l r) has.fresh ∙ subst (λ z. among rest z ≡ false) (eqb-true s r own) front.1,
        );
        entry = λ r own. subst (WasEntry before changed) (eqb-true s r own) was;
        new = new;
      }

  -- and where two had
  pub kept_two : (mid after : PartsState) (first rest : List ℕ) (s t : ℕ) → changed.fresh ≡ first ++ (s ∷ []) →
      first ≡ rest ++ (t ∷ []) →
      HasSeated changed mid first s (entry_at before s) → HasSeated mid after rest t (entry_at before t) →
      WasEntry before changed s → WasEntry before changed t →
      AreNew before changed (λ r. nat_eq s r || nat_eq t r) →
      IsKept before changed after gone (λ r. nat_eq s r || nat_eq t r)
  kept_two mid after first rest s t last next one two was_s was_t new =
      let front = distinct_front first s (subst (IsDistinct nat_eq) last is.whole.fresh.distinct) in
      let front_two = distinct_front rest t (subst (IsDistinct nat_eq) next front.0) in
      record {
        change = is;
        pool = two.pool ∙ one.pool;
        distinct = subst (IsDistinct nat_eq) (sym two.fresh) front_two.0;
        others = λ r other.
            let both = or_parts (nat_eq s r) (nat_eq t r) other in (
              seated_other mid after rest t r (entry_at before t) two both.1
                  ∙ seated_other changed mid first s r (entry_at before s) one both.0,
              ap (λ l. among l r) two.fresh ∙ front_fresh first rest t r next both.1
                  ∙ front_fresh changed.fresh first s r last both.0,
            );
        own = λ r own. by_bool (nat_eq t r)
            (λ second. (
              seated_own mid after rest t r (entry_at before t) two second ∙ ap (entry_at before) (eqb-true t r second),
              ap (λ l. among l r) two.fresh ∙ subst (λ z. among rest z ≡ false) (eqb-true t r second) front_two.1,
            ))
            (λ other.
            let is_first : nat_eq s r ≡ true = ⊎_elim (λ h. h) (λ h. absurd (both_ways (nat_eq t r) other h))
            (or_cases (nat_eq s r) (nat_eq t r) own) in (
              seated_other mid after rest t r (entry_at before t) two other
                  ∙ seated_own changed mid first s r (entry_at before s) one is_first
                  ∙ ap (entry_at before) (eqb-true s r is_first),
              ap (λ l. among l r) two.fresh ∙ front_fresh first rest t r next other
                  ∙ subst (λ z. among first z ≡ false) (eqb-true s r is_first) front.1,
            ));
        entry = λ r own. ⊎_elim
            (λ (first_own : nat_eq s r ≡ true). subst (WasEntry before changed) (eqb-true s r first_own) was_s)
            (λ (second_own : nat_eq t r ≡ true). subst (WasEntry before changed) (eqb-true t r second_own) was_t)
            (or_cases (nat_eq s r) (nat_eq t r) own);
        new = new;
      }
