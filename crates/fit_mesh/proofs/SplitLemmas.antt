-- The set of a listed mesh: it is the least one with the parents of its triangles, and its leaves are the mesh.
use Rattle.std.proofs.Common.{◌≡◌, ℕ, ◌+◌, ◌*◌, ◌/◌, ◌^◌, ◌≤◌, Bool, true, false, IsTrue, List, [], ◌∷◌}
use Rattle.std.proofs.Common.{◌++◌, length, get_or, not, refl, sym, ◌∙◌, ap, subst, arith, pow-add}
use Rattle.std.specs.Prelude.{All, Contains}
use Rattle.std.proofs.lemmas.List.Elements.{All-nil, All-cons, All-append, All-contains, All-contains_itself}
use Rattle.std.proofs.lemmas.List.Elements.{Contains-append_left, Contains-push}
use Rattle.mesh_defs.specs.Tiling.{IsConforming}
use Rattle.mesh_defs.specs.ClosedSet.{IsClosed, leaves_under, leaves_of}
use Rattle.mesh_defs.proofs.TestLemmas.{same_tests}
use Rattle.mesh_defs.proofs.ListLemmas.{IsIn-contains, Contains-in, Any-in, list_any-in}
use Rattle.mesh_laws.specs.Ancestors.{is_above, ancestors_of}
use Rattle.mesh_laws.proofs.ConformityLemmas.{IsConforming-leaves_of, self, member_above}
use Rattle.mesh_laws.proofs.ConverseLemmas.{IsClosed-ancestors_of, under-above, above-under}
use Rattle.mesh_laws.specs.Forcing.{IsPrepared}
use Rattle.mesh_laws.proofs.ClosureLemmas.{leaves_of-same, nothing_closed}
use Rattle.mesh_laws.proofs.LeafLemmas.{leaves-most, four-power}
use Rattle.mesh_laws.specs.Sweep.{is_flagged}
use Rattle.fit_laws.proofs.FitLemmas.{closed-same}
use Rattle.fit_laws.proofs.OrderLemmas.{ancestors-leaves, leaves-order}
use Rattle.fit_laws.specs.Required.{IsLeastSettledWith, IsLeastMeshWith}
use Rattle.fit_laws.proofs.RequiredLemmas.{with-mesh, mesh-with}
use Rattle.fit_mesh.specs.Splits.{IsLeastAbove, IsMeshListed, IsSplitSet, IsGrownFrom}
use Rattle.fit_mesh.proofs.SettleLemmas.{least-same}

-- leaves of a closed set are a listed mesh
pub listed-leaves : (n : ℕ) (has : ℕ → Bool) → IsClosed n has → IsMeshListed n (leaves_of n has)
listed-leaves n has closed = record { conforming = IsConforming-leaves_of n has closed; order = leaves-order n has closed }

-- and there is room for them
pub leaves-fit : (n : ℕ) (has : ℕ → Bool) → length (leaves_of n has) ≤ 2 ^ (2 * n + 1)
leaves-fit n has = let most = leaves-most n has in let p = four-power n in let q = pow-add 2 (2 * n) 1 in omega arith

-- they are those below 2 and those below 3
pub leaves-halves : (n : ℕ) (has : ℕ → Bool) →
    leaves_of n has ≡ leaves_under (2 * n) has 2 ++ leaves_under (2 * n) has 3
unfolding leaves_of
leaves-halves n has = refl

-- least meshes and least sets

-- the leaves of the least settled set are the least mesh
pub mesh-of-set : (n tolerance : ℕ) (e : ℕ → ℕ) (required has : ℕ → Bool) →
    IsLeastSettledWith n tolerance e required has → IsLeastMeshWith n tolerance e required (leaves_of n has)
mesh-of-set n tolerance e required has least =
    with-mesh n has (leaves_of n has) least.settled.closed record { counts = λ a. refl } tolerance e required least

-- and the set of whose leaves this holds is the least settled one
pub set-of-mesh : (n tolerance : ℕ) (e : ℕ → ℕ) (required has : ℕ → Bool) → IsClosed n has →
    IsLeastMeshWith n tolerance e required (leaves_of n has) → IsLeastSettledWith n tolerance e required has
set-of-mesh n tolerance e required has closed least =
    least-same n tolerance e required (ancestors_of (leaves_of n has)) has (ancestors-leaves n has closed)
    (mesh-with n tolerance e required (leaves_of n has) least)

-- parents

-- the parents of no triangle
pub above-none : (n : ℕ) (has : ℕ → Bool) → ((a : ℕ) → has a ≡ false) → IsLeastAbove n [] has
above-none n has empty = record {
  closed = closed-same n (λ a. false) has (λ a. sym (empty a)) (nothing_closed n);
  holds = All-nil (λ a. 4 ≤ a → IsTrue (has (a / 2)));
  least = λ other closed holds a is. absurd (let e : false ≡ true = sym (empty a) ∙ is in cc);
}

-- and of one triangle more
pub above-more : (n : ℕ) (triangles : List ℕ) (t : ℕ) (has next : ℕ → Bool) → IsLeastAbove n triangles has →
    IsPrepared n has next t → IsLeastAbove n (triangles ++ t ∷ []) next
above-more n triangles t has next before after = record {
  closed = after.closed;
  holds = All-append (λ a. 4 ≤ a → IsTrue (next (a / 2))) triangles (t ∷ [])
      (each triangles (λ a. 4 ≤ a → IsTrue (next (a / 2))) (λ a listed big. after.holds (a / 2)
      (All-contains (λ a. 4 ≤ a → IsTrue (has (a / 2))) triangles a before.holds listed big)))
      (All-cons (λ a. 4 ≤ a → IsTrue (next (a / 2))) t [] after.parent (All-nil (λ a. 4 ≤ a → IsTrue (next (a / 2)))));
  least = λ other closed holds. after.least other closed
      (before.least other closed (each triangles (λ a. 4 ≤ a → IsTrue (other (a / 2))) (λ a listed.
      All-contains (λ a. 4 ≤ a → IsTrue (other (a / 2))) (triangles ++ t ∷ []) a holds
      (left triangles (t ∷ []) a listed))))
      (All-contains (λ a. 4 ≤ a → IsTrue (other (a / 2))) (triangles ++ t ∷ []) t holds (last triangles t));
}
  where
    each : (xs : List ℕ) (P : ℕ → Type 0) → ((a : ℕ) → Contains xs a → P a) → All P xs
    each xs P all = λ k d low. all _ (All-contains_itself xs k d low)

    left : (xs ys : List ℕ) (a : ℕ) → Contains xs a → Contains (xs ++ ys) a
    left xs ys a listed = Contains-append_left xs ys a listed

    last : (xs : List ℕ) (a : ℕ) → Contains (xs ++ a ∷ []) a
    last xs a = Contains-push xs a

-- each entry of a mesh that has a parent has it among what lies above the mesh
mesh-parents : (n : ℕ) (triangles : List ℕ) → IsConforming n triangles → All (λ a. 4 ≤ a → IsTrue (ancestors_of triangles (a / 2))) triangles
mesh-parents n triangles conforming = λ k d low big.
    let a : ℕ = get_or triangles k d in
    let listed : Contains triangles a = All-contains_itself triangles k d low in
    list_any-in (λ e. is_above (a / 2) e) triangles a (IsIn-contains a triangles listed)
    (above-under (a / 2) a (omega arith) big self)

-- so the least set with the parents of a mesh is what lies above its triangles
pub above-mesh : (n : ℕ) (triangles : List ℕ) (has : ℕ → Bool) → IsConforming n triangles →
    IsLeastAbove n triangles has → (a : ℕ) → has a ≡ ancestors_of triangles a
above-mesh n triangles has conforming above a = same_tests (has a) (ancestors_of triangles a)
    (above.least (ancestors_of triangles) (IsClosed-ancestors_of n triangles conforming)
    (mesh-parents n triangles conforming) a)
    (λ is.
    let e = Any-in (λ e. is_above a e) triangles is in
    let u = under-above a e.0 e.2 in
    member_above has above.closed.parent a (e.0 / 2) u.2
    (All-contains (λ a. 4 ≤ a → IsTrue (has (a / 2))) triangles e.0 above.holds (Contains-in e.0 triangles e.1) u.1))

-- its leaves are the mesh
pub above-leaves : (n : ℕ) (triangles : List ℕ) (has : ℕ → Bool) → IsMeshListed n triangles →
    IsLeastAbove n triangles has → leaves_of n has ≡ triangles
above-leaves n triangles has mesh above =
    leaves_of-same n has (ancestors_of triangles) (above-mesh n triangles has mesh.conforming above) ∙ mesh.order

-- and where the leaves are the list, it is a mesh
pub leaves-listed : (n : ℕ) (triangles : List ℕ) (has : ℕ → Bool) → IsClosed n has → leaves_of n has ≡ triangles →
    IsMeshListed n triangles
leaves-listed n triangles has closed same =
    subst (λ (l : List ℕ). IsMeshListed n l) same (listed-leaves n has closed)

-- sets that are kept

-- the list of flags is that of the same flags, by another name of them and of their n
pub listed-same : (n k : ℕ) (flags next : List Bool) (list : List ℕ) → list ≡ leaves_of n (is_flagged flags) →
    flags ≡ next → n ≡ k → list ≡ leaves_of k (is_flagged next)
listed-same n k flags next list listed same is = listed ∙ ap (λ (l : List Bool). leaves_of n (is_flagged l)) same
    ∙ ap (λ j. leaves_of j (is_flagged next)) is

-- another closed set and its leaves, in the same room
pub kept-set : (n k : ℕ) (flags next : List Bool) (leaves list : List ℕ) (log_room leaf_room log_next leaf_next : ℕ) →
    IsSplitSet n flags leaves log_room leaf_room → n ≡ k → length next ≡ length flags → IsClosed k (is_flagged next) →
    list ≡ leaves_of n (is_flagged next) → log_next ≡ log_room → leaf_next ≡ leaf_room →
    IsSplitSet n next list log_next leaf_next
kept-set n k flags next leaves list log_room leaf_room log_next leaf_next kept same size closed listed log_same
    leaf_same = record {
      n_low = kept.n_low;
      n_high = kept.n_high;
      flagged = size ∙ kept.flagged;
      closed = subst (λ j. IsClosed j (is_flagged next)) (sym same) closed;
      listed = listed;
      log_roomy = (let r = kept.log_roomy in omega arith);
      leaf_roomy = (let r = kept.leaf_roomy in omega arith);
    }

-- a mesh that goes on
module _ (n : ℕ) (old new : ℕ → Bool) (before after : List ℕ) (closed : IsClosed n old) (grown : IsClosed n new)
    (was : before ≡ leaves_of n old) (is : after ≡ leaves_of n new) where
  above-before : (a : ℕ) → ancestors_of before a ≡ old a
  above-before a = ap (λ (l : List ℕ). ancestors_of l a) was ∙ ancestors-leaves n old closed a

  above-after : (a : ℕ) → ancestors_of after a ≡ new a
  above-after a = ap (λ (l : List ℕ). ancestors_of l a) is ∙ ancestors-leaves n new grown a

  -- what lies above its triangles has grown as the set
  pub more-grown : (tolerance : ℕ) (e : ℕ → ℕ) (required : ℕ → Bool) → IsGrownFrom n tolerance e old required new →
      IsGrownFrom n tolerance e (ancestors_of before) required (ancestors_of after)
  more-grown tolerance e required all = record {
    closed = closed-same n new (ancestors_of after) (λ a. sym (above-after a)) all.closed;
    keeps = λ a h. above-after a ∙ all.keeps a (sym (above-before a) ∙ h);
    splits = λ a h. above-after a ∙ all.splits a h;
    settled = λ a address big fresh member above. above-after a
        ∙ all.settled a address big (sym (ap not (above-before (a / 2))) ∙ fresh) (sym (above-after (a / 2)) ∙ member) above;
    least = λ other shut keeps splits settled a h. all.least other shut
        (λ b g. keeps b (above-before b ∙ g)) splits
        (λ b address big fresh member above. settled b address big (ap not (above-before (b / 2)) ∙ fresh) member above)
        a (sym (above-after a) ∙ h);
  }

  -- and it is a least mesh where the set is a least one
  pub more-least : (tolerance : ℕ) (e : ℕ → ℕ) (earlier all : ℕ → Bool) →
      (IsLeastSettledWith n tolerance e earlier old → IsLeastSettledWith n tolerance e all new) →
      IsLeastMeshWith n tolerance e earlier before → IsLeastMeshWith n tolerance e all after
  more-least tolerance e earlier all step least =
      subst (λ (l : List ℕ). IsLeastMeshWith n tolerance e all l) (sym is)
      (mesh-of-set n tolerance e all new (step (set-of-mesh n tolerance e earlier old closed
      (subst (λ (l : List ℕ). IsLeastMeshWith n tolerance e earlier l) was least))))
