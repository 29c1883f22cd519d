-- What a frame makes, from what its parts say.
use Rattle.std.proofs.Common.{◌≡◌, ℕ, ◌*◌, ◌≤◌, Bool, List, take, All, sym, ◌∙◌, ap₂, subst}
use Rattle.std.proofs.lemmas.List.Elements.{All-weaker}
use Rattle.mesh_defs.specs.Triangle.{level_of, IsAddress}
use Rattle.mesh_defs.specs.Tiling.{IsConforming}
use Rattle.mesh_defs.specs.ClosedSet.{IsLeastClosed, leaves_of}
use Rattle.bintree_laws.proofs.LevelLemmas.{level-le}
use Rattle.mesh_laws.proofs.DescentLemmas.{IsAddress-leaves_of}
use Rattle.mesh_laws.proofs.ConformityLemmas.{IsConforming-leaves_of}
use Rattle.mesh_laws.specs.Least.{is_worse, IsLeastList}
use Rattle.mesh_laws.specs.Sweep.{is_flagged}

-- the same wanted triangles have the same least closed sets
least-wanted : (n : ℕ) (wanted other has : ℕ → Bool) → ((a : ℕ) → wanted a ≡ other a) → IsLeastClosed n wanted has →
    IsLeastClosed n other has
least-wanted n wanted other has same p = record {
  closed = p.closed;
  holds = λ a h. p.holds a (same a ∙ h);
  least = λ set closed holds. p.least set closed (λ a h. holds a (sym (same a) ∙ h));
}

-- the flags that were asked, those before and after the sweep, and those that were read for the leaves
pub listed : (n m tolerance count : ℕ) (priority : ℕ → ℕ) (asked before after read : List Bool) (list : List ℕ) →
    m ≡ n → before ≡ asked → read ≡ after →
    ((a : ℕ) → is_flagged asked a ≡ is_worse n tolerance priority a) →
    IsLeastClosed m (is_flagged before) (is_flagged after) →
    take count list ≡ leaves_of m (is_flagged read) → IsLeastList n tolerance priority (take count list)
listed n m tolerance count priority asked before after read list grid as_asked as_read worse swept leaves = record {
  has = is_flagged after;
  closure = least-wanted n (is_flagged asked) (is_worse n tolerance priority) (is_flagged after) worse
      (subst (λ k. IsLeastClosed k (is_flagged asked) (is_flagged after)) grid
      (subst (λ (l : List Bool). IsLeastClosed m (is_flagged l) (is_flagged after)) as_asked swept));
  leaves = leaves ∙ ap₂ (λ (k : ℕ) (l : List Bool). leaves_of k (is_flagged l)) grid as_read;
}

-- no leaf is finer than the finest
pub levels-listed : (n : ℕ) (has : ℕ → Bool) (list : List ℕ) → list ≡ leaves_of n has →
    All (λ a. level_of a ≤ 2 * n) list
levels-listed n has list e = subst (λ (l : List ℕ). All (λ a. level_of a ≤ 2 * n) l) (sym e)
    (All-weaker (IsAddress n) (λ a. level_of a ≤ 2 * n) (level-le n) (leaves_of n has) (IsAddress-leaves_of n has))

-- and they are conforming
pub conforming-listed : (n : ℕ) (wanted has : ℕ → Bool) (list : List ℕ) → IsLeastClosed n wanted has →
    list ≡ leaves_of n has → IsConforming n list
conforming-listed n wanted has list p e =
    subst (λ (l : List ℕ). IsConforming n l) (sym e) (IsConforming-leaves_of n has p.closed)
