-- A leaf is no member, and its parent is one.
use Rattle.std.proofs.Common.{◌≡◌, ◌/◌, ◌<◌, ◌≤◌, refl, sym, ◌∙◌, ap, arith, ⊎_elim}
use Rattle.std.proofs.lemmas.Bool.{cases_lt, false≢true, both_ways}
use Rattle.mesh_defs.specs.ClosedSet.{leaves_of}
use Rattle.mesh_defs.proofs.ListLemmas.{IsIn-contains, Contains-in}
use Rattle.mesh_laws.proofs.DescentLemmas.{IsAddress-splittable}
use Rattle.mesh_laws.proofs.ClosureLemmas.{leaf-outer}
use Rattle.fit_laws.proofs.SettledLemmas.{outer-leaf}
use Rattle.mesh_laws.specs.Sweep.{is_flagged}
use Rattle.fit_certify.proofs.replay.is_leaf.Goals as goal

pub returns-then-is_set : goal.returns-then-is_set
returns-then-is_set c n closed splittable =
    let has = is_flagged c.args.flags.now in (
      λ h. absurd (false≢true h),
      λ leaf. absurd ((outer-leaf n has c.args.t closed (IsIn-contains c.args.t (leaves_of n has) leaf)).outside
          (sym c.is_set.ensures.value ∙ c.if-is_set.true)),
    )

pub returns-in-None : goal.returns-in-None
returns-in-None c n closed splittable =
    let has = is_flagged c.args.flags.now in
    let base : c.args.t < 4 = c.in-None.ensures.base.0 refl in (
      λ _. Contains-in c.args.t (leaves_of n has) (leaf-outer n has c.args.t closed record {
        address = IsAddress-splittable n c.args.t splittable;
        outside = λ is. both_ways (has c.args.t) (sym c.is_set.ensures.value ∙ c.if-is_set.false) is;
        parent = λ big. absurd (omega arith);
      }),
      λ _. refl,
    )

pub returns-in-Some : goal.returns-in-Some
returns-in-Some c n closed splittable =
    let has = is_flagged c.args.flags.now in
    let big : 4 ≤ c.args.t = ⊎_elim (λ small. absurd (false≢true (sym (c.in-Some.ensures.base.1 small))))
    (λ large. large) (cases_lt c.args.t 4) in
    let half : has c.in-Some.parent ≡ has (c.args.t / 2) = ap has c.in-Some.ensures.half in (
      λ h. Contains-in c.args.t (leaves_of n has) (leaf-outer n has c.args.t closed record {
        address = IsAddress-splittable n c.args.t splittable;
        outside = λ is. both_ways (has c.args.t) (sym c.is_set.ensures.value ∙ c.if-is_set.false) is;
        parent = λ _. sym half ∙ sym c.is_set-in-Some.ensures.value ∙ h;
      }),
      λ leaf. c.is_set-in-Some.ensures.value ∙ half
          ∙ (outer-leaf n has c.args.t closed (IsIn-contains c.args.t (leaves_of n has) leaf)).parent big,
    )
