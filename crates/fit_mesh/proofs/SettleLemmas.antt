-- Splitting in any order: what one question leaves, what the children of a member leave, and the end.
use Rattle.std.proofs.Common.{◌≡◌, ℕ, ◌+◌, ◌*◌, ◌/◌, ◌^◌, ◌<◌, ◌≤◌, pow-add, Bool, false, ◌||◌, IsTrue, List, [], ◌∷◌}
use Rattle.std.proofs.Common.{◌++◌, length, take, get_or, ◌⊎◌, inl, inr, eqb, eq-eqb, sym, ◌∙◌, ap, subst, arith, ⊎_elim}
use Rattle.std.proofs.lemmas.List.{take_more, take-append-le}
use Rattle.std.proofs.lemmas.Bool.{cases_lt, cases_Bool, false≢true, both_ways, or_cases, or_left, or_right}
use Rattle.mesh_defs.specs.Triangle.{IsAddress, IsSplittable}
use Rattle.mesh_defs.specs.ClosedSet.{IsClosed, IsSubset, IsLeastClosed, among}
use Rattle.mesh_defs.specs.Priority.{worst_of}
use Rattle.mesh_defs.specs.Greedy.{with_triangle}
use Rattle.mesh_defs.proofs.ListLemmas.{IsIn-contains, among-in}
use Rattle.mesh_laws.proofs.DescentLemmas.{IsAddress-down, IsDown-2, IsDown-3}
use Rattle.mesh_laws.proofs.ForcingLemmas.{with-cases}
use Rattle.mesh_laws.proofs.ClosureLemmas.{IsOuter, leaves_of-same}
use Rattle.mesh_laws.proofs.LeafLemmas.{leaves-most, four-power}
use Rattle.fit_laws.specs.Settled.{IsFineEnough, IsLeastSettled}
use Rattle.fit_laws.proofs.SettledLemmas.{settled-outer, outer-settled}
use Rattle.fit_laws.proofs.FitLemmas.{fit_tight, closed-same}
use Rattle.fit_laws.specs.Required.{IsLeastSettledWith}
use Rattle.mesh_laws.specs.Sweep.{is_flagged}
use Rattle.fit_mesh.specs.Log.{IsLogSince, Extends}
use Rattle.fit_mesh.specs.Grown.{AreSettled, IsNeededWith}
use Rattle.fit_mesh.specs.Splits.{IsSettledIn}
use Rattle.fit_mesh.specs.Found.{IsFound}
use Rattle.fit_mesh.proofs.LogLemmas.{among-more, listed-flagged}
use Rattle.fit_mesh.proofs.PendingLemmas.{child-address}

-- one question

-- a settled set has what is above the tolerance, of the halves and of the children of its members
pub settled-inside : (n tolerance : ℕ) (e : ℕ → ℕ) (other : ℕ → Bool) (t : ℕ) → IsFineEnough n tolerance e other →
    IsAddress n t → (4 ≤ t → IsTrue (other (t / 2))) → tolerance < e t → IsTrue (other t)
settled-inside n tolerance e other t settled address parent above = ⊎_elim
    (λ is. is)
    (λ no.
    let fits = settled-outer n tolerance e other t settled record {
      address = address;
      outside = λ is. both_ways (other t) no is;
      parent = parent;
    } in absurd (omega arith))
    (cases_Bool (other t))

-- so of the halves
pub halves-inside : (n tolerance : ℕ) (e : ℕ → ℕ) (other : ℕ → Bool) → IsFineEnough n tolerance e other →
    (tolerance < e 2 → IsTrue (other 2)) × (tolerance < e 3 → IsTrue (other 3))
halves-inside n tolerance e other settled = (
  settled-inside n tolerance e other 2 settled (IsAddress-down n (2 * n) 2 (IsDown-2 n)) (λ big. absurd (omega arith)),
  settled-inside n tolerance e other 3 settled (IsAddress-down n (2 * n) 3 (IsDown-3 n)) (λ big. absurd (omega arith)),
)

-- what a split forces is in each closed set with the triangle
pub ask-least : (n : ℕ) (has next : ℕ → Bool) (t : ℕ) → IsLeastClosed n (with_triangle has t) next →
    (other : ℕ → Bool) → IsClosed n other → IsSubset has other → IsTrue (other t) → IsSubset next other
ask-least n has next t least other closed inside own = least.least other closed (λ a h. ⊎_elim
    (λ old. inside a old)
    (λ same. subst (λ z. IsTrue (other z)) same own)
    (with-cases has t a h))

-- the children of a member

-- of no member
pub asked-none : (n : ℕ) (e : ℕ → ℕ) (tolerance : ℕ) (has : ℕ → Bool) → AreSettled n e tolerance has []
asked-none n e tolerance has a address big parent above = absurd (false≢true parent)

-- an entry of the log is a member
pub entry-flagged : (before : ℕ → Bool) (flags : List Bool) (log : List ℕ) (place t : ℕ) → IsLogSince before flags log →
    place < length log → t ≡ get_or log place t → IsTrue (is_flagged flags t)
entry-flagged before flags log place t logged below at =
    listed-flagged before flags log t logged (among-in t log (IsIn-contains t log (place, below, sym at)))

-- the members that were asked, with one more
asked-front : (log more : List ℕ) (place t : ℕ) → Extends log more → place < length log → t ≡ get_or log place t →
    take (place + 1) more ≡ take place log ++ t ∷ []
asked-front log more place t extends below at =
    ap (take (place + 1)) extends.1 ∙ take-append-le (place + 1) log extends.0 (omega arith)
    ∙ take_more log place t below ∙ ap (λ z. take place log ++ z ∷ []) (sym at)

-- each of them was asked before, or is the last one
asked-cases : (log more : List ℕ) (place t : ℕ) → Extends log more → place < length log → t ≡ get_or log place t →
    (b : ℕ) → IsTrue (among (take (place + 1) more) b) → IsTrue (among (take place log) b) ⊎ (t ≡ b)
asked-cases log more place t extends below at b is =
    with-cases (among (take place log)) t b (sym (among-more (take place log) t b)
    ∙ subst (λ (l : List ℕ). IsTrue (among l b)) (asked-front log more place t extends below at) is)

-- and so the other way round
asked-again : (log more : List ℕ) (place t : ℕ) → Extends log more → place < length log → t ≡ get_or log place t →
    (b : ℕ) → IsTrue (among (take place log) b) ⊎ (t ≡ b) → IsTrue (among (take (place + 1) more) b)
asked-again log more place t extends below at b is =
    subst (λ (l : List ℕ). IsTrue (among l b)) (sym (asked-front log more place t extends below at))
    (among-more (take place log) t b ∙ ⊎_elim
    (λ old. or_left (among (take place log) b) (eqb t b) old)
    (λ same. or_right (among (take place log) b) (eqb t b) (eq-eqb t b same))
    is)

-- one member more was asked
pub asked-next : (n : ℕ) (e : ℕ → ℕ) (tolerance : ℕ) (has next : ℕ → Bool) (log more : List ℕ) (place t : ℕ) →
    IsSubset has next → Extends log more → place < length log → t ≡ get_or log place t →
    AreSettled n e tolerance has (take place log) →
    ((a : ℕ) → 2 ≤ a → a / 2 ≡ t → tolerance < e a → IsTrue (next a)) →
    AreSettled n e tolerance next (take (place + 1) more)
asked-next n e tolerance has next log more place t grows extends below at settled own a address big parent above =
    ⊎_elim
    (λ early. grows a (settled a address big early above))
    (λ same. own a address.low (sym same) above)
    (asked-cases log more place t extends below at (a / 2) parent)

-- and each set that has what the earlier ones force, and what the last one does, has all
pub least-next : (n : ℕ) (e : ℕ → ℕ) (tolerance : ℕ) (first has next : ℕ → Bool) (log more : List ℕ) (place t : ℕ) →
    Extends log more → place < length log → t ≡ get_or log place t → IsSplittable n t → IsTrue (has t) →
    ((other : ℕ → Bool) → IsClosed n other → IsSubset first other →
    IsSettledIn n e tolerance (among (take place log)) other → IsSubset has other) →
    ((other : ℕ → Bool) → IsClosed n other → IsSubset has other →
    ((a : ℕ) → 2 ≤ a → a / 2 ≡ t → tolerance < e a → IsTrue (other a)) → IsSubset next other) →
    (other : ℕ → Bool) → IsClosed n other → IsSubset first other →
    IsSettledIn n e tolerance (among (take (place + 1) more)) other → IsSubset next other
least-next n e tolerance first has next log more place t extends below at splittable member before own other closed
    inside settled =
    let again : (b : ℕ) → IsTrue (among (take place log) b) ⊎ (t ≡ b) → IsTrue (among (take (place + 1) more) b) =
    asked-again log more place t extends below at in
    let there : IsSubset has other = before other closed inside (λ a address big these parent above.
    settled a address big (again (a / 2) (inl these)) parent above) in
    own other closed there (λ a low half above.
    let address : IsAddress n a = child-address n t a splittable low half in
    let few = splittable.low in
    settled a address (omega arith) (again (a / 2) (inr (sym half)))
    (subst (λ z. IsTrue (other z)) (sym half) (there t member)) above)

-- the end

module _ (n tolerance : ℕ) (e : ℕ → ℕ) where
  -- a needed closed set none of whose leaves is above the tolerance is the least settled one with what is required
  pub settled-with : (required has : ℕ → Bool) → IsClosed n has → IsSubset required has →
      IsNeededWith n tolerance e required has → ((a : ℕ) → IsOuter n has a → e a ≤ tolerance) →
      IsLeastSettledWith n tolerance e required has
  settled-with required has closed splits needed fits = record {
    settled = outer-settled n tolerance e has closed fits;
    splits = splits;
    needed = needed;
  }

  -- where the halves and the children of all members were asked, no leaf is above it
  pub anew-outer : (has : ℕ → Bool) (log : List ℕ) → ((a : ℕ) → has a ≡ among log a) →
      (tolerance < e 2 → IsTrue (has 2)) → (tolerance < e 3 → IsTrue (has 3)) → AreSettled n e tolerance has log →
      (a : ℕ) → IsOuter n has a → e a ≤ tolerance
  anew-outer has log same lower upper settled a outer = ⊎_elim
      (λ above. absurd (outer.outside (⊎_elim
      (λ (small : a < 4). ⊎_elim
      (λ (first : a < 3).
      let at : 2 ≡ a = (let low = outer.address.low in omega arith) in
      subst (λ z. IsTrue (has z)) at (lower (subst (λ z. tolerance < e z) (sym at) above)))
      (λ (second : 3 ≤ a).
      let at : 3 ≡ a = omega arith in
      subst (λ z. IsTrue (has z)) at (upper (subst (λ z. tolerance < e z) (sym at) above)))
      (cases_lt a 3))
      (λ (big : 4 ≤ a). settled a outer.address big (sym (same (a / 2)) ∙ outer.parent big) above)
      (cases_lt a 4))))
      (λ fits. fits)
      (cases_lt tolerance (e a))

  -- where the children of all new members were asked, no leaf is above it if none was before
  pub more-outer : (has next : ℕ → Bool) (log : List ℕ) → IsFineEnough n tolerance e has → IsSubset has next →
      ((a : ℕ) → next a ≡ (has a || among log a)) → AreSettled n e tolerance next log →
      (a : ℕ) → IsOuter n next a → e a ≤ tolerance
  more-outer has next log fine grows same settled a outer =
      let stays : (4 ≤ a → IsTrue (has (a / 2))) → e a ≤ tolerance = λ parent.
      settled-outer n tolerance e has a fine record {
        address = outer.address;
        outside = λ is. outer.outside (grows a is);
        parent = parent;
      } in
      ⊎_elim
      (λ (small : a < 4). stays (λ big. absurd (omega arith)))
      (λ (big : 4 ≤ a). ⊎_elim
      (λ old. stays (λ _. old))
      (λ new. ⊎_elim
      (λ above. absurd (outer.outside (settled a outer.address big new above)))
      (λ fits. fits)
      (cases_lt tolerance (e a)))
      (or_cases (has (a / 2)) (among log (a / 2)) (sym (same (a / 2)) ∙ outer.parent big)))
      (cases_lt a 4)

  -- what is required, and what that forces, is needed: at first
  pub first-needed : (has required next : ℕ → Bool) → ((a : ℕ) → has a ≡ false) →
      IsLeastClosed n (λ a. has a || required a) next → IsNeededWith n tolerance e required next
  first-needed has required next empty least other fine splits = least.least other fine.closed (λ a h. ⊎_elim
      (λ old. absurd (both_ways (has a) (empty a) old))
      (λ new. splits a new)
      (or_cases (has a) (required a) h))

  -- and after a least settled set
  pub more-needed : (earlier has required next : ℕ → Bool) → IsLeastSettledWith n tolerance e earlier has →
      IsLeastClosed n (λ a. has a || required a) next → IsNeededWith n tolerance e (λ a. earlier a || required a) next
  more-needed earlier has required next before least other fine splits = least.least other fine.closed (λ a h. ⊎_elim
      (λ old. before.needed other fine (λ b is. splits b (or_left (earlier b) (required b) is)) a old)
      (λ new. splits a (or_right (earlier a) (required a) new))
      (or_cases (has a) (required a) h))

  -- and it is split
  pub more-splits : (earlier has required next : ℕ → Bool) → IsLeastSettledWith n tolerance e earlier has →
      IsLeastClosed n (λ a. has a || required a) next → IsSubset (λ a. earlier a || required a) next
  more-splits earlier has required next before least a h = ⊎_elim
      (λ old. least.holds a (or_left (has a) (required a) (before.splits a old)))
      (λ new. least.holds a (or_right (has a) (required a) new))
      (or_cases (earlier a) (required a) h)

  -- the set is that of another test
  pub least-same : (required has other : ℕ → Bool) → ((a : ℕ) → has a ≡ other a) →
      IsLeastSettledWith n tolerance e required has → IsLeastSettledWith n tolerance e required other
  least-same required has other same least = record {
    settled = record {
      closed = closed-same n has other same least.settled.closed;
      within = subst (λ (l : List ℕ). worst_of e l ≤ tolerance) (leaves_of-same n has other same) least.settled.within;
    };
    splits = λ a is. sym (same a) ∙ least.splits a is;
    needed = λ others fine splits a is. least.needed others fine splits a (same a ∙ is);
  }

-- with nothing required it is the least settled one
pub nothing-required : (n tolerance : ℕ) (e : ℕ → ℕ) (has : ℕ → Bool) →
    IsLeastSettledWith n tolerance e (among []) has → IsLeastSettled n tolerance e has
nothing-required n tolerance e has fit = record {
  settled = fit.settled;
  needed = λ other settled. fit.needed other settled (λ a h. absurd (false≢true h));
}

-- it is what is looked for, where the budget is no bound
pub settled-found : (n : ℕ) (e : ℕ → ℕ) (tolerance budget : ℕ) (has : ℕ → Bool) → 2 ^ (2 * n + 1) ≤ budget →
    IsLeastSettled n tolerance e has →
    IsFound n tolerance budget e has
settled-found n e tolerance budget has wide fit =
    let most = leaves-most n has in
    let p = four-power n in
    let q = pow-add 2 (2 * n) 1 in
    record {
      fit = fit_tight n tolerance e has fit;
      within = omega arith;
      fewest = λ le. fit;
      best = λ above. let within = fit.settled.within in absurd (omega arith);
    }
