-- Reasons one after the other: the sets that they lead to are closed and needed.
use Rattle.std.proofs.Common.{◌≡◌, ℕ, ◌+◌, ◌<◌, ◌≤◌, ◌||◌, Bool, eqb, List, [], ◌∷◌, ◌++◌, length, Contains, refl, sym}
use Rattle.std.proofs.Common.{◌∙◌, ap, subst, arith}
use Rattle.mesh_defs.specs.BoundingBox.{point, points_of, holds_point, greatest}
use Rattle.mesh_defs.specs.ClosedSet.{IsClosed, IsLeastClosed, leaves_of}
use Rattle.mesh_defs.specs.Greedy.{with_triangle}
use Rattle.mesh_defs.proofs.ListLemmas.{IsIn-contains}
use Rattle.mesh_defs.proofs.PointLemmas.{IsPointIn-points_of, le-greatest}
use Rattle.mesh_laws.proofs.ClosureLemmas.{leaves_of-same, IsLeastClosed-unique}
use Rattle.fit_laws.specs.PlaneHeight.{off_plane, offs_in}
use Rattle.fit_laws.specs.Error.{error_of}
use Rattle.fit_laws.specs.Settled.{IsNeeded}
use Rattle.fit_laws.proofs.SettledLemmas.{outer-leaf, needed-step}
use Rattle.fit_laws.proofs.FitLemmas.{closed-same, step-grown}
use Rattle.certificate_laws.specs.declared.fit_reason.Witness.{Witness}
use Rattle.certificate_laws.specs.FitCertificate.{IsOff, IsFitReason, LeadsTo, IsFirstBadFit}

-- a held point that is off by more than the tolerance shows that the triangle's error is above it
pub off-error : (n : ℕ) (heights : List ℕ) (tolerance : ℕ) (r : Witness) → IsOff n heights tolerance r
    → tolerance < error_of n heights r.triangle
unfolding error_of
off-error n heights tolerance r off =
    let most : off_plane n heights r.triangle (point r.x r.y) ≤ greatest (offs_in n heights r.triangle) =
    le-greatest (off_plane n heights r.triangle) (holds_point n r.triangle) (point r.x r.y) off.held (points_of n)
    (IsPointIn-points_of n (point r.x r.y) off.column off.row) in
    let above = off.above in omega arith

-- sets that agree

-- have the same reasons
pub reason-same : (n : ℕ) (heights : List ℕ) (tolerance : ℕ) (has other : ℕ → Bool) (r : Witness) →
    ((a : ℕ) → has a ≡ other a) →
    IsFitReason n heights tolerance has r → IsFitReason n heights tolerance other r
reason-same n heights tolerance has other r same is = record {
  splittable = is.splittable;
  leaf = subst (λ (l : List ℕ). Contains l r.triangle) (leaves_of-same n has other same) is.leaf;
  off = is.off;
}

-- and a split leads to the same from them
pub closure-same : (n : ℕ) (has other next : ℕ → Bool) (t : ℕ) → ((a : ℕ) → has a ≡ other a) →
    IsLeastClosed n (with_triangle has t) next →
    IsLeastClosed n (with_triangle other t) next
closure-same n has other next t same least = record {
  closed = least.closed;
  holds = λ a h. least.holds a (ap (λ b. b || eqb t a) (same a) ∙ h);
  least = λ some closed holds. least.least some closed (λ a h. holds a (ap (λ b. b || eqb t a) (sym (same a)) ∙ h));
}

-- one reason more

pub leads-next : (n : ℕ) (heights : List ℕ) (tolerance : ℕ) (has : ℕ →
    Bool) (reasons : List Witness) (mid next : ℕ → Bool) (r : Witness) →
    LeadsTo n heights tolerance has reasons mid → IsFitReason n heights tolerance mid r →
    IsLeastClosed n (with_triangle mid r.triangle) next →
    LeadsTo n heights tolerance has (reasons ++ r ∷ []) next
leads-next n heights tolerance has [] mid next r leads is least = (
  next,
  reason-same n heights tolerance mid has r (λ a. sym (leads a)) is,
  closure-same n mid has next r.triangle (λ a. sym (leads a)) least,
  λ a. refl,
)
leads-next n heights tolerance has (s ∷ reasons) mid next r leads is least =
    (leads.0, leads.1, leads.2, leads-next n heights tolerance leads.0 reasons mid next r leads.3 is least)

-- where they lead to

-- a closed set leads to a closed one
pub leads-closed : (n : ℕ) (heights : List ℕ) (tolerance : ℕ) (has : ℕ → Bool) (reasons : List Witness)
    (after : ℕ → Bool) →
    IsClosed n has →
    LeadsTo n heights tolerance has reasons after → IsClosed n after
leads-closed n heights tolerance has [] after closed leads = closed-same n has after leads closed
leads-closed n heights tolerance has (r ∷ reasons) after closed leads =
    leads-closed n heights tolerance leads.0 reasons after leads.2.closed leads.3

-- and one that every mesh within the tolerance needs, to another
pub leads-needed : (n : ℕ) (heights : List ℕ) (tolerance : ℕ) (has : ℕ → Bool) (reasons : List Witness)
    (after : ℕ → Bool) →
    IsClosed n has →
    IsNeeded n tolerance (error_of n heights) has → LeadsTo n heights tolerance has reasons after
    → IsNeeded n tolerance (error_of n heights) after
leads-needed n heights tolerance has [] after closed needed leads =
    λ other settled a h. needed other settled a (leads a ∙ h)
leads-needed n heights tolerance has (r ∷ reasons) after closed needed leads =
    leads-needed n heights tolerance leads.0 reasons after leads.2.closed
    (needed-step n tolerance (error_of n heights) has leads.0 r.triangle needed
    (outer-leaf n has r.triangle closed (IsIn-contains r.triangle (leaves_of n has) leads.1.leaf))
    (off-error n heights tolerance r leads.1.off) leads.2) leads.3

-- each splits one triangle at least, so the leaves grow by as many
pub leads-grown : (n : ℕ) (heights : List ℕ) (tolerance : ℕ) (has : ℕ → Bool) (reasons : List Witness)
    (after : ℕ → Bool) →
    IsClosed n has →
    LeadsTo n heights tolerance has reasons after →
    length reasons + length (leaves_of n has) ≤ length (leaves_of n after)
leads-grown n heights tolerance has [] after closed leads =
    let same = ap (λ (l : List ℕ). length l) (leaves_of-same n has after leads) in omega arith
leads-grown n heights tolerance has (r ∷ reasons) after closed leads =
    let rest = leads-grown n heights tolerance leads.0 reasons after leads.2.closed leads.3 in
    let one = step-grown n has leads.0 r.triangle closed
    (outer-leaf n has r.triangle closed (IsIn-contains r.triangle (leaves_of n has) leads.1.leaf)) leads.2 in
    omega arith

-- from sets that agree they lead to such sets

-- to the same one
pub leads-same : (n : ℕ) (heights : List ℕ) (tolerance : ℕ) (has other : ℕ →
    Bool) (reasons : List Witness) (after : ℕ → Bool) →
    ((a : ℕ) → has a ≡ other a) → LeadsTo n heights tolerance has reasons after →
    LeadsTo n heights tolerance other reasons after
leads-same n heights tolerance has other [] after same leads = λ a. sym (same a) ∙ leads a
leads-same n heights tolerance has other (r ∷ reasons) after same leads = (
  leads.0,
  reason-same n heights tolerance has other r same leads.1,
  closure-same n has other leads.0 r.triangle same leads.2,
  leads.3,
)

-- so the first that is none is the first from the other
pub bad-same : (n : ℕ) (heights : List ℕ) (tolerance : ℕ) (has other : ℕ → Bool) (reasons : List Witness) (index : ℕ) →
    ((a : ℕ) → has a ≡ other a) → IsFirstBadFit n heights tolerance has reasons index →
    IsFirstBadFit n heights tolerance other reasons index
bad-same n heights tolerance has other reasons index same bad = record {
  good = bad.good;
  bad = bad.bad;
  rest = bad.rest;
  after = bad.after;
  parts = bad.parts;
  place = bad.place;
  leads = leads-same n heights tolerance has other bad.good bad.after same bad.leads;
  fails = bad.fails;
}

-- and to no other one
pub leads-unique : (n : ℕ) (heights : List ℕ) (tolerance : ℕ) (has other : ℕ →
    Bool) (reasons : List Witness) (one two : ℕ → Bool) →
    ((a : ℕ) → has a ≡ other a) → LeadsTo n heights tolerance has reasons one
    → LeadsTo n heights tolerance other reasons two → (a : ℕ) → one a ≡ two a
leads-unique n heights tolerance has other [] one two same p q = λ a. sym (p a) ∙ same a ∙ q a
leads-unique n heights tolerance has other (r ∷ reasons) one two same p q =
    leads-unique n heights tolerance p.0 q.0 reasons one two
    (IsLeastClosed-unique n (with_triangle has r.triangle) p.0 q.0 p.2
    (closure-same n other has q.0 r.triangle (λ a. sym (same a)) q.2)) p.3 q.3

-- where all are reasons, none is the first that is none
leads-good : (n : ℕ) (heights : List ℕ) (tolerance : ℕ) (has other : ℕ → Bool) (good : List Witness) (bad : Witness)
    (rest : List Witness) (mid after : ℕ → Bool) →
    ((a : ℕ) → has a ≡ other a) → LeadsTo n heights tolerance has good mid →
    LeadsTo n heights tolerance other (good ++ bad ∷ rest) after →
    IsFitReason n heights tolerance mid bad
leads-good n heights tolerance has other [] bad rest mid after same p q =
    reason-same n heights tolerance other mid bad (λ a. sym (same a) ∙ p a) q.1
leads-good n heights tolerance has other (r ∷ good) bad rest mid after same p q =
    leads-good n heights tolerance p.0 q.0 good bad rest mid after
    (IsLeastClosed-unique n (with_triangle has r.triangle) p.0 q.0 p.2
    (closure-same n other has q.0 r.triangle (λ a. sym (same a)) q.2)) p.3 q.3

pub leads-no_bad : (n : ℕ) (heights : List ℕ) (tolerance : ℕ) (has other : ℕ →
    Bool) (reasons : List Witness) (index : ℕ) (after : ℕ → Bool) →
    ((a : ℕ) → has a ≡ other a) → IsFirstBadFit n heights tolerance has reasons index →
    LeadsTo n heights tolerance other reasons after → ⊥
leads-no_bad n heights tolerance has other reasons index after same bad leads =
    bad.fails (leads-good n heights tolerance has other bad.good bad.bad bad.rest bad.after after same bad.leads
    (subst (λ (l : List Witness). LeadsTo n heights tolerance other l after) bad.parts leads))
