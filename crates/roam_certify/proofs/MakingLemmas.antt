-- What a push of a maker keeps, and what its queue has at the end.
use Rattle.std.proofs.Common.{◌≡◌, ℕ, ◌+◌, ◌*◌, ◌/◌, ◌^◌, ◌<◌, ◌≤◌, ◌⊎◌, inl, inr, Bool, IsTrue, List, [], ◌∷◌, ◌++◌}
use Rattle.std.proofs.Common.{length, take, drop, get_or, sym, ◌∙◌, ap, subst, arith, ⊎_elim, length-append}
use Rattle.std.proofs.Common.{append_assoc}
use Rattle.std.proofs.lemmas.Bool.{cases_lt}
use Rattle.std.proofs.lemmas.List.{append-nil, take-append-le, take-append-drop, take_all}
use Rattle.mesh_defs.specs.Triangle.{IsSplittable}
use Rattle.mesh_defs.proofs.ListLemmas.{IsIn, IsIn-among, among-in}
use Rattle.mesh_defs.specs.State.{priority_seen}
use Rattle.mesh_laws.specs.Sweep.{is_flagged}
use Rattle.certificate_laws.specs.declared.reason.Reason.{Reason}
use Rattle.certificate_laws.specs.declared.reason.Kind.{Kind}
use Rattle.certificate_laws.specs.Certificate.{reason_triangles, named_in, IsWhy, AreReasons, AreAllReasons}
use Rattle.roam_certify.specs.declared.making.Wants.{Wants}
use Rattle.roam_certify.specs.declared.making.Listing.{Listing}
use Rattle.roam_certify.specs.Making.{IsListed, IsPushed, left_out, listed, HasCauses, AreGrownReasons, AreWanted, IsQueue}
use Rattle.certificate_laws.proofs.SoundLemmas.{earlier_cases, earlier_new, reasons_next}
use Rattle.roam_certify.proofs.CheckingLemmas.{named-next, with-same, take-next}

-- growing

-- what is listed stays listed
pub named-grown : (before after : List Reason) (a : ℕ) → AreGrownReasons before after → IsTrue (named_in before a) →
    IsTrue (named_in after a)
named-grown before after a g h = subst (λ l. IsTrue (named_in l a)) (sym g.grown)
    (among-in a (reason_triangles (before ++ g.extra)) (keep before (IsIn-among a (reason_triangles before) h)))
  where
    keep : (xs : List Reason) → IsIn a (reason_triangles xs) → IsIn a (reason_triangles (xs ++ g.extra))
    keep [] i = absurd i
    keep (x ∷ xs) (inl e) = inl e
    keep (x ∷ xs) (inr i) = inr (keep xs i)

-- a list is no shorter
pub length-grown : (before after : List Reason) → AreGrownReasons before after → length before ≤ length after
length-grown before after g =
    let e = ap (λ (l : List Reason). length l) g.grown in
    omega (arith, length-append before g.extra)

-- growing twice
pub grown-trans : (some more most : List Reason) → AreGrownReasons some more → AreGrownReasons more most →
    AreGrownReasons some most
grown-trans some more most g h = record {
  extra = g.extra ++ h.extra;
  grown = h.grown ∙ ap (λ l. l ++ h.extra) g.grown ∙ append_assoc some g.extra h.extra;
}

-- and not at all
pub grown-same : (some more : List Reason) → more ≡ some → AreGrownReasons some more
grown-same some more same = record { extra = []; grown = same ∙ sym (append-nil some) }

-- its first ones stay
pub take-grown : (before after : List Reason) (k : ℕ) → AreGrownReasons before after → k ≤ length before →
    take k after ≡ take k before
take-grown before after k g le = ap (λ l. take k l) g.grown ∙ take-append-le k before g.extra le

-- causes stay
pub causes-grown : (n : ℕ) (before after : List Reason) (b : ℕ) → AreGrownReasons before after →
    HasCauses n before b → HasCauses n after b
causes-grown n before after b g c = record {
  parent = λ big. named-grown before after (b / 2) g (c.parent big);
  mate = λ m mate. named-grown before after m g (c.mate m mate);
}

-- a push

module _ (w : Wants) (kind : Kind) (t : ℕ) (old new : Listing) where
  -- the list grows
  pub pushed-grown : IsPushed w.limit kind t old new → AreGrownReasons old.reasons.items new.reasons.items
  pushed-grown (left_out why flags same) = grown-same old.reasons.items new.reasons.items same
  pushed-grown (listed fresh less room added grown) = record {
    extra = (record { kind = kind; triangle = t }) ∷ [];
    grown = grown;
  }

  -- as many flags
  pushed-room : IsPushed w.limit kind t old new → length new.flags.now ≡ length old.flags.now
  pushed-room (left_out why flags same) = ap (λ (l : List Bool). length l) flags
  pushed-room (listed fresh less room added grown) = room

  -- the flags are those of the list
  pushed-same : ((a : ℕ) → is_flagged old.flags.now a ≡ named_in old.reasons.items a) →
      IsPushed w.limit kind t old new → (a : ℕ) → is_flagged new.flags.now a ≡ named_in new.reasons.items a
  pushed-same same (left_out why flags kept) a =
      ap (λ l. is_flagged l a) flags ∙ same a ∙ sym (ap (λ l. named_in l a) kept)
  pushed-same same (listed fresh less room added grown) a =
      added a ∙ with-same (is_flagged old.flags.now) (named_in old.reasons.items) t a (same a)
      ∙ sym (ap (λ l. named_in l a) grown
      ∙ named-next old.reasons.items (record { kind = kind; triangle = t }) a)

  -- the triangle is listed unless the list is full
  pub pushed-named : IsListed w old → IsPushed w.limit kind t old new → length new.reasons.items < w.limit →
      IsTrue (named_in new.reasons.items t)
  pushed-named m (left_out (inl old_one) flags kept) less = ap (λ l. named_in l t) kept ∙ sym (m.same t) ∙ old_one
  pushed-named m (left_out (inr full) flags kept) less =
      absurd (let e = ap (λ (l : List Reason). length l) kept in omega arith)
  pushed-named m (listed fresh room_left room added grown) less =
      subst (λ l. IsTrue (named_in l t)) (sym grown)
      (among-in t (reason_triangles (old.reasons.items ++ (record { kind = kind; triangle = t }) ∷ []))
      (earlier_new old.reasons.items (record { kind = kind; triangle = t })))

  -- only triangles that may be split are
  pushed-splittable : IsListed w old → IsSplittable w.n t → IsPushed w.limit kind t old new → (a : ℕ) →
      IsTrue (named_in new.reasons.items a) → IsSplittable w.n a
  pushed-splittable m splittable (left_out why flags kept) a h =
      m.splittable a (subst (λ l. IsTrue (named_in l a)) kept h)
  pushed-splittable m splittable (listed fresh less room added grown) a h = ⊎_elim
      (λ earlier. m.splittable a (among-in a (reason_triangles old.reasons.items) earlier))
      (λ same. subst (λ z. IsSplittable w.n z) same splittable)
      (earlier_cases old.reasons.items (record { kind = kind; triangle = t }) a
      (IsIn-among a (reason_triangles (old.reasons.items ++ (record { kind = kind; triangle = t }) ∷ []))
      (subst (λ l. IsTrue (named_in l a)) grown h)))

  -- no more than the limit
  pushed-short : IsListed w old → IsPushed w.limit kind t old new → length new.reasons.items ≤ w.limit
  pushed-short m (left_out why flags kept) =
      let short = m.short in let e = ap (λ (l : List Reason). length l) kept in omega arith
  pushed-short m (listed fresh less room added grown) =
      let e = ap (λ (l : List Reason). length l) grown in
      omega (arith, length-append old.reasons.items ((record { kind = kind; triangle = t }) ∷ []))

  -- and they are reasons
  pushed-reasoned : IsListed w old → IsSplittable w.n t →
      IsWhy w.n (priority_seen w.scene.now) w.worst (named_in old.reasons.items) kind t →
      IsPushed w.limit kind t old new → AreReasons w.n (priority_seen w.scene.now) w.worst [] new.reasons.items
  pushed-reasoned m splittable why (left_out left flags kept) =
      subst (λ l. AreReasons w.n (priority_seen w.scene.now) w.worst [] l) (sym kept) m.reasoned
  pushed-reasoned m splittable why (listed fresh less room added grown) =
      subst (λ l. AreReasons w.n (priority_seen w.scene.now) w.worst [] l) (sym grown)
      (reasons_next w.n (priority_seen w.scene.now) w.worst [] old.reasons.items
      (record { kind = kind; triangle = t }) m.reasoned
      record { splittable = splittable; new = sym (m.same t) ∙ fresh; why = why })

  -- so a triangle with a cause keeps the list
  pub pushed-list : IsListed w old → IsSplittable w.n t →
      IsWhy w.n (priority_seen w.scene.now) w.worst (named_in old.reasons.items) kind t →
      IsPushed w.limit kind t old new → IsListed w new
  pushed-list m splittable why pushed = record {
    in_grid = m.in_grid;
    grid = m.grid;
    room = pushed-room pushed ∙ m.room;
    same = pushed-same m.same pushed;
    splittable = pushed-splittable m splittable pushed;
    short = pushed-short m pushed;
    reasoned = pushed-reasoned m splittable why pushed;
  }

-- the turns of the two loops

-- wanted ones stay wanted, and a turn lists one more or finds that it is not wanted
pub wanted-next : (w : Wants) (k : ℕ) (before after : List Reason) → AreGrownReasons before after →
    AreWanted w k before →
    (length after < w.limit → w.worst ≤ priority_seen w.scene.now k → IsTrue (named_in after k)) →
    AreWanted w (k + 1) after
wanted-next w k before after g wanted own less a low high big = ⊎_elim
    (λ earlier. named-grown before after a g
    (wanted (let more = length-grown before after g in omega arith) a low earlier big))
    (λ last.
    let e : k ≡ a = omega arith in
    subst (λ z. w.worst ≤ priority_seen w.scene.now z → IsTrue (named_in after z)) e (own less) big)
    (cases_lt a k)

-- a turn of the queue
pub queue-next : (w : Wants) (next : ℕ) (before after : List Reason) (r : Reason) → AreGrownReasons before after →
    next < length before → r ≡ get_or before next r →
    IsQueue w next before → (length after < w.limit → HasCauses w.n after r.triangle) →
    IsQueue w (next + 1) after
queue-next w next before after r g within is queue own less b h =
    let first : take (next + 1) after ≡ take next before ++ r ∷ [] =
    take-grown before after (next + 1) g (omega arith) ∙ take-next before next r within is in
    ⊎_elim
    (λ old. causes-grown w.n before after b g (queue (let more = length-grown before after g in omega arith) b
    (among-in b (reason_triangles (take next before)) old)))
    (λ same. subst (λ z. HasCauses w.n after z) same (own less))
    (earlier_cases (take next before) r b
    (IsIn-among b (reason_triangles (take next before ++ r ∷ [])) (subst (λ l. IsTrue (named_in l b)) first h)))

-- a triangle of a list is named
pub named-at : (reasons : List Reason) (k : ℕ) (r : Reason) → k < length reasons → r ≡ get_or reasons k r →
    IsTrue (named_in reasons r.triangle)
named-at reasons k r within is =
    named-grown (take (k + 1) reasons) reasons r.triangle record {
      extra = drop (k + 1) reasons;
      grown = sym (take-append-drop (k + 1) reasons);
    }
    (subst (λ l. IsTrue (named_in l r.triangle)) (sym (take-next reasons k r within is))
    (among-in r.triangle (reason_triangles (take k reasons ++ r ∷ [])) (earlier_new (take k reasons) r)))

-- the end

-- a queue that was gone through has all reasons
pub all-queue : (w : Wants) (reasons : List Reason) → AreWanted w (2 ^ (2 * w.n + 1)) reasons →
    IsQueue w (length reasons) reasons → ((a : ℕ) → IsSplittable w.n a → a < 2 ^ (2 * w.n + 1)) →
    (w.limit ≤ length reasons) ⊎ AreAllReasons w.n (priority_seen w.scene.now) w.worst reasons
all-queue w reasons wanted queue below = ⊎_elim
    (λ less. inr record {
      wants = λ a s high. wanted less a s.low (below a s) high;
      parents = λ b h big. (queue less b
          (subst (λ l. IsTrue (named_in l b)) (sym (take_all (length reasons) reasons (omega arith))) h)).parent big;
      mates = λ b m h mate. (queue less b
          (subst (λ l. IsTrue (named_in l b)) (sym (take_all (length reasons) reasons (omega arith))) h)).mate m mate;
    })
    (λ full. inl full)
    (cases_lt (length reasons) w.limit)

-- what was wanted is still listed in a longer list
pub wanted-grown : (w : Wants) (bound : ℕ) (before after : List Reason) → AreGrownReasons before after →
    AreWanted w bound before → AreWanted w bound after
wanted-grown w bound before after g wanted less a low few high =
    named-grown before after a g (wanted (let more = length-grown before after g in omega arith) a low few high)
