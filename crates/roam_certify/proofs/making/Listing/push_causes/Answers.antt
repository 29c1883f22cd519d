-- The parent is a cause, and so is the mate; once both are listed, the causes are.
use Rattle.std.proofs.Common.{◌≡◌, ℕ, ◌/◌, ◌<◌, ◌≤◌, ◌↔◌, IfSome, IsNone, IsTrue, List, Option, None, Some, refl, sym}
use Rattle.std.proofs.Common.{subst, arith, ⊎_elim}
use Rattle.std.proofs.lemmas.Bool.{cases_lt, false≢true}
use Rattle.mesh_defs.specs.Triangle.{IsSplittable, IsMate}
use Rattle.mesh_laws.proofs.ClosureLemmas.{IsSplittable-half, IsSplittable-mate}
use Rattle.certificate_laws.specs.declared.reason.Reason.{Reason}
use Rattle.certificate_laws.specs.declared.reason.Kind.TheVariants.{Parent, Mate}
use Rattle.certificate_laws.specs.Certificate.{named_in}
use Rattle.roam_certify.specs.declared.making.Wants.{Wants}
use Rattle.roam_certify.specs.Making.{IsCause}
use Rattle.roam_certify.proofs.MakingLemmas.{named-grown, length-grown, grown-trans}
use Rattle.roam_certify.proofs.making.Listing.push_causes.Goals as goal

module _ (w : Wants) (b : ℕ) (reasons : List Reason) where
  -- the parent of a listed triangle, where it has one, is a cause
  parent_is : (parent : Option ℕ) → (IsNone parent ↔ (b < 4)) → IfSome parent (λ p. p ≡ b / 2) → IsSplittable w.n b →
      IsTrue (named_in reasons b) → IfSome parent (IsCause w reasons Parent)
  parent_is None base half splittable named = tt
  parent_is (Some p) base half splittable named =
      let big : 4 ≤ b = ⊎_elim (λ small. absurd (false≢true (sym (base.1 small)))) (λ large. large) (cases_lt b 4) in
      record {
        splittable = subst (λ q. IsSplittable w.n q) (sym half) (IsSplittable-half w.n b splittable big);
        why = (b, named, big, half);
      }

  -- and so is its mate
  mate_is : (mate : Option ℕ) → ((m : ℕ) → ((mate ≡ Some m) ↔ IsMate w.n b m)) → IsSplittable w.n b →
      IsTrue (named_in reasons b) → IfSome mate (IsCause w reasons Mate)
  mate_is None mates splittable named = tt
  mate_is (Some m) mates splittable named =
      let mate : IsMate w.n b m = (mates m).0 refl in
      record { splittable = IsSplittable-mate w.n b m splittable mate; why = (b, named, mate) }

  -- the parent is there where the triangle is no base triangle
  parent_named : (parent : Option ℕ) → (IsNone parent ↔ (b < 4)) → IfSome parent (λ p. p ≡ b / 2) →
      IfSome parent (λ a. IsTrue (named_in reasons a)) → 4 ≤ b → IsTrue (named_in reasons (b / 2))
  parent_named None base half named big = let small = base.0 refl in absurd (omega arith)
  parent_named (Some p) base half named big = subst (λ q. IsTrue (named_in reasons q)) half named

pub push_cause-requires-clause-cause : goal.push_cause-requires-clause-cause
push_cause-requires-clause-cause c =
    parent_is c.args.wants.now c.args.t c.args.self.now.reasons.items c.parent.result c.parent.ensures.base c.parent.ensures.half
    (c.requires.listed.splittable c.args.t c.requires.named) c.requires.named

pub push_cause-requires-2-clause-cause : goal.push_cause-requires-2-clause-cause
push_cause-requires-2-clause-cause c =
    mate_is c.args.wants.now c.args.t c.push_cause.new.self.reasons.items c.mate.result c.mate.ensures.mate
    (c.requires.listed.splittable c.args.t c.requires.named)
    (named-grown c.args.self.now.reasons.items c.push_cause.new.self.reasons.items c.args.t
    c.in_ok-push_cause.ensures.grown c.requires.named)

pub returns-clause-grown : goal.returns-clause-grown
returns-clause-grown c =
    grown-trans c.args.self.now.reasons.items c.push_cause.new.self.reasons.items c.push_cause-2.new.self.reasons.items
    c.in_ok-push_cause.ensures.grown c.in_ok-push_cause-2.ensures.grown

pub returns-clause-causes : goal.returns-clause-causes
returns-clause-causes c less =
    let middle = c.push_cause.new.self.reasons.items in
    let after = c.push_cause-2.new.self.reasons.items in
    let grown = c.in_ok-push_cause-2.ensures.grown in
    let more = length-grown middle after grown in
    record {
      parent = λ big. named-grown middle after (c.args.t / 2) grown
          (parent_named c.args.wants.now c.args.t middle c.parent.result c.parent.ensures.base c.parent.ensures.half
          (c.in_ok-push_cause.ensures.named (omega arith)) big);
      mate = λ m is. subst (λ o. IfSome o (λ a. IsTrue (named_in after a))) ((c.mate.ensures.mate m).1 is)
          (c.in_ok-push_cause-2.ensures.named less);
    }
