-- By the level in the finest page, and at the last level by the mate.
use Rattle.std.proofs.Common.{◌≡◌, ◌↔◌, ℕ, ◌+◌, ◌*◌, ◌<◌, ◌≤◌, ap, sym, ◌∙◌, arith, subst, Some, None, refl}
use Rattle.mesh_defs.specs.Triangle.{level_of, IsMate}
use Rattle.page_store.specs.Store.{Store, IsTable}
use Rattle.page_store.proofs.FoundLemmas.{closed-unknown, open-deep, open-border, open-mate}
use Rattle.page_store.proofs.table.Table.is_open.Goals.{After-mate}
use Rattle.page_store.proofs.table.Table.is_open.Goals as goal

-- the triangle is one of the terrain, above the last level of its page
module _ (c : After-mate) where
  low : 2 ≤ c.args.tri
  low = omega (arith, c.number-address.ensures.value, c.number-address.ensures.low)

  less : level_of c.args.tri < 2 * (c.args.found.cuts + c.args.self.now.n)
  less =
      let n : c.self.inside.n ≡ c.args.self.now.n = ap (λ (s : Store). s.n) c.self.view_is in
      omega (arith, c.level-level.ensures.value)

pub returns-then-level-end : goal.returns-then-level-end
returns-then-level-end c =
    let n : c.self.inside.n ≡ c.args.self.now.n = ap (λ (s : Store). s.n) c.self.view_is in
    record {
      value = sym (closed-unknown (subst IsTable c.self.view_is c.self.invariant) c.requires.found
          (omega (arith, c.number-address.ensures.value, c.number-address.ensures.low)) c.requires.finest
          (omega (arith, c.level-level.ensures.value)));
    }

pub returns-then-level-end-2 : goal.returns-then-level-end-2
returns-then-level-end-2 c =
    let n : c.self.inside.n ≡ c.args.self.now.n = ap (λ (s : Store). s.n) c.self.view_is in
    record {
      value = sym (open-deep (subst IsTable c.self.view_is c.self.invariant) c.requires.found
          (omega (arith, c.number-address.ensures.value, c.number-address.ensures.low)) c.requires.finest
          (omega (arith, c.level-level.ensures.value)));
    }

pub returns-in-Some : goal.returns-in-Some
returns-in-Some c =
    let h = (goal.at.returns-in-Some c).After-mate in
    let large : c.self.inside.large ≡ c.args.self.now.large = ap (λ (s : Store). s.large) c.self.view_is in
    let mates : (z : ℕ) → (Some c.in-Some.mate ≡ Some z) ↔ IsMate c.self.inside.large c.args.tri z = c.in-Some.ensures.mate in
    record {
      value = c.is_known.ensures.value
          ∙ sym (open-mate (subst IsTable c.self.view_is c.self.invariant) c.requires.found c.in-Some.mate (low h)
          c.requires.finest (less h) (subst (λ l. IsMate l c.args.tri c.in-Some.mate) large ((mates c.in-Some.mate).0 refl))
          (λ z other. let e = (mates z).1 (subst (λ l. IsMate l c.args.tri z) (sym large) other) in cc));
    }

pub returns-in-None : goal.returns-in-None
returns-in-None c =
    let h = (goal.at.returns-in-None c).After-mate in
    let large : c.self.inside.large ≡ c.args.self.now.large = ap (λ (s : Store). s.large) c.self.view_is in
    let mates : (z : ℕ) → (None ≡ Some z) ↔ IsMate c.self.inside.large c.args.tri z = c.in-None.ensures.mate in
    record {
      value = sym (open-border (subst IsTable c.self.view_is c.self.invariant) c.requires.found (low h) c.requires.finest
          (less h)
          (λ z other. let e = (mates z).1 (subst (λ l. IsMate l c.args.tri z) (sym large) other) in cc));
    }
