-- What is required, and then the children of all that is new.
use Rattle.std.proofs.Common.{◌≡◌, ℕ, ◌/◌, Bool, true, false, not, IsTrue, ◌||◌, List, [], refl, sym, ◌∙◌, ap, subst, arith, ⊎_elim}
use Rattle.mesh_defs.specs.ClosedSet.{IsLeastClosed, among}
use Rattle.std.proofs.lemmas.Bool.{or_cases, or_left, or_right, both_ways}
use Rattle.mesh_laws.specs.Sweep.{is_flagged}
use Rattle.fit_mesh.specs.Limit.{tolerance_of, error_within}
use Rattle.fit_mesh.specs.Log.{IsLogSince}
use Rattle.fit_mesh.specs.Required.{is_required}
use Rattle.fit_mesh.proofs.LogLemmas.{log-start}
use Rattle.fit_mesh.proofs.SettleLemmas.{settled-inside, more-needed, more-splits, settled-with, more-outer}
use Rattle.fit_mesh.proofs.settle.settle_more.Goals as goal

-- the log is empty, since the set before
started : (flags : List Bool) (log : List ℕ) → log ≡ [] → IsLogSince (is_flagged flags) flags log
started flags log none =
    subst (λ (l : List ℕ). IsLogSince (is_flagged flags) flags l) (sym none) (log-start flags)

pub split_required-requires-clause-log : goal.split_required-requires-clause-log
split_required-requires-clause-log c =
    (is_flagged c.args.flags.now, started c.args.flags.now c.clear.new.self.items c.clear.ensures.items)

pub settle-requires-clause-log : goal.settle-requires-clause-log
settle-requires-clause-log c = (
  is_flagged c.args.flags.now,
  c.split_required.ensures.log (is_flagged c.args.flags.now)
      (started c.args.flags.now c.clear.new.self.items c.clear.ensures.items),
)

pub returns-clause-fit : goal.returns-clause-fit
returns-clause-fit c earlier before =
    let n : ℕ = c.args.grid.now.n in
    let all : IsTrue c.settle.result = c.settle.ensures.count.1 (omega arith) in
    let e : ℕ → ℕ = error_within n c.args.grid.now.heights c.args.limit in
    let tolerance : ℕ = tolerance_of c.args.limit in
    let old : ℕ → Bool = is_flagged c.args.flags.now in
    let first : ℕ → Bool = is_flagged c.split_required.new.flags in
    let last : ℕ → Bool = is_flagged c.settle.new.flags in
    let required : ℕ → Bool = is_required n c.args.required in
    let least : IsLeastClosed n (λ a. old a || required a) first =
    subst (λ k. IsLeastClosed k (λ a. old a || is_required k c.args.required a) first) c.n.ensures.value
    c.split_required.ensures.least in
    let logged = started c.args.flags.now c.clear.new.self.items c.clear.ensures.items in
    let since = c.settle.ensures.log old (c.split_required.ensures.log old logged) in
    settled-with n tolerance e (λ a. earlier a || required a) last c.settle.ensures.closed
    (λ a is. c.settle.ensures.more a (more-splits n tolerance e earlier old required first before least a is))
    (λ other fine splits. c.settle.ensures.least all other fine.closed
    (more-needed n tolerance e earlier old required first before least other fine splits)
    (λ a address big asked parent. settled-inside n tolerance e other a fine address (λ _. parent)))
    (more-outer n tolerance e old last c.settle.new.log.items before.settled
    (λ a is. c.settle.ensures.more a (least.holds a (or_left (old a) (required a) is))) since.same
    (c.settle.ensures.settled all))

-- what was not there
absent : (x : Bool) → IsTrue (not x) → x ≡ false
absent true is = cc
absent false is = refl

pub returns-clause-grown : goal.returns-clause-grown
returns-clause-grown c =
    let n : ℕ = c.args.grid.now.n in
    let all : IsTrue c.settle.result = c.settle.ensures.count.1 (omega arith) in
    let old : ℕ → Bool = is_flagged c.args.flags.now in
    let first : ℕ → Bool = is_flagged c.split_required.new.flags in
    let required : ℕ → Bool = is_required n c.args.required in
    let least : IsLeastClosed n (λ a. old a || required a) first =
    subst (λ k. IsLeastClosed k (λ a. old a || is_required k c.args.required a) first) c.n.ensures.value
    c.split_required.ensures.least in
    let logged = started c.args.flags.now c.clear.new.self.items c.clear.ensures.items in
    let since = c.settle.ensures.log old (c.split_required.ensures.log old logged) in
    record {
      closed = c.settle.ensures.closed;
      keeps = λ a is. c.settle.ensures.more a (least.holds a (or_left (old a) (required a) is));
      splits = λ a is. c.settle.ensures.more a (least.holds a (or_right (old a) (required a) is));
      settled = λ a address big new member above. c.settle.ensures.settled all a address big
          (⊎_elim
          (λ is. absurd (both_ways (old (a / 2)) (absent (old (a / 2)) new) is))
          (λ is. is)
          (or_cases (old (a / 2)) (among c.settle.new.log.items (a / 2)) (sym (since.same (a / 2)) ∙ member)))
          above;
      least = λ other closed keeps splits settled. c.settle.ensures.least all other closed
          (least.least other closed (λ a is. ⊎_elim
          (λ h. keeps a h)
          (λ h. splits a h)
          (or_cases (old a) (required a) is)))
          (λ a address big asked parent. settled a address big (ap not (since.new (a / 2) asked)) parent);
    }
