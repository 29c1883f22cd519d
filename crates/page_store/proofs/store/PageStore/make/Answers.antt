-- The store with the coarsest page alone.
use Rattle.std.proofs.Common.{◌≡◌, ◌+◌, ◌-◌, ◌*◌, ◌/◌, ◌^◌, sym, subst, refl, Option, None, Some, List, replicate, ℕ}
use Rattle.mesh_defs.specs.declared.point.Point.{Point}
use Rattle.page_wedges.specs.Page.{Page}
use Rattle.page_store.specs.Store.{AreJoined, page_at}
use Rattle.page_store.proofs.MakeLemmas.{root-at, other-none, first-joined}
use Rattle.page_store.proofs.store.PageStore.make.Goals as goal

-- an empty table of this terrain
abbrev nothing : ℕ → Page → List (Option Page)
nothing large root = replicate (2 ^ (2 * (large - root.field.n + 1)) / 3) None

pub invariant_of-result : goal.invariant_of-result
invariant_of-result c = record {
  table = c.in_ok-make.ensures.valid;
  joined = subst (λ s. (q : ℕ) (t : Point) (page : Page) → page_at s q t ≡ Some page → AreJoined s q t page)
      (sym c.in_ok-make.ensures.value)
      (first-joined c.args.large c.args.root (nothing c.args.large c.args.root) c.requires.fits refl
      c.in_ok-make.ensures.some c.requires.alone);
}

pub returns-clause-root : goal.returns-clause-root
returns-clause-root c =
    subst (λ s. page_at s (c.args.large - c.args.root.field.n) (record { x = 0; y = 0 }) ≡ Some c.args.root)
    (sym c.in_ok-make.ensures.value)
    (root-at c.args.large c.args.root (nothing c.args.large c.args.root) c.requires.fits refl)

pub returns-clause-others : goal.returns-clause-others
returns-clause-others c = λ q t other.
    subst (λ s. page_at s q t ≡ None) (sym c.in_ok-make.ensures.value)
    (other-none c.args.large c.args.root (nothing c.args.large c.args.root) c.requires.fits refl q t other)
