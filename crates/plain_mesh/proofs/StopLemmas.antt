-- Where forced splits along the ranking stop is the frame of the budget.
use Rattle.std.proofs.Common.{◌≡◌, ℕ, zero, suc, ◌<◌, ◌≤◌, inl, inr, List, [], ◌∷◌, length, slice_get, get_or, All}
use Rattle.std.proofs.Common.{Option, None, Some, refl, sym, ◌∙◌, ap, subst, arith}
use Rattle.std.proofs.lemmas.List.{length-map}
use Rattle.std.proofs.lemmas.Option.{slice_get_within, get_or_from_slice_get}
use Rattle.mesh_defs.specs.Triangle.{IsSplittable}
use Rattle.mesh_defs.specs.ClosedSet.{leaves_of, among}
use Rattle.mesh_defs.specs.Priority.{worst_of}
use Rattle.mesh_defs.specs.Ranking.{IsBlockedBy}
use Rattle.mesh_defs.specs.Falling.{IsFalling}
use Rattle.mesh_defs.proofs.ListLemmas.{IsIn, Contains-in}
use Rattle.bintree_addr.specs.declared.blocked.Blocked.{Blocked}
use Rattle.bintree_addr.specs.declared.rank.Rank.{Rank}
use Rattle.mesh_laws.specs.Frame.{IsFrame}
use Rattle.mesh_defs.proofs.WorstLemmas.{worst-zeros}
use Rattle.mesh_laws.proofs.ChoiceLemmas.{leaves-zero, blocking-worst}
use Rattle.plain_mesh.specs.Ranks.{ranked_triangles, IsRanked}
use Rattle.plain_mesh.specs.Stop.{IsStop}

-- where forced splits along the ranking stop is the frame
pub IsFrame-stop : (n budget : ℕ) (priority : ℕ →
    ℕ) (ranks : List Rank) (members : List ℕ) (worst : ℕ) (blocked : Option Blocked) →
    IsStop n budget ranks members worst blocked → IsRanked n priority ranks → IsFalling n priority → 2 ≤ budget →
    IsFrame n budget priority (among members) worst blocked
IsFrame-stop n budget priority ranks members worst blocked s r falling low = record {
  ranking = ranked_triangles ranks;
  chosen = s.chosen;
  ranked = r.ranked;
  closure = s.closure;
  greatest = greatest blocked s;
  unblocked = λ e. (s.whole e).0 ∙ sym (length-map ranks (λ (x : Rank). x.tri));
  blocking = λ b e. (s.next b e).4;
}
  where
    value_at : (x : Rank) (k : ℕ) → slice_get ranks k ≡ Some x → x.p ≡ priority x.tri
    value_at x k e =
        subst (λ (y : Rank). y.p ≡ priority y.tri) (get_or_from_slice_get ranks k x x e)
        (r.valued k x (slice_get_within ranks k x e))

    greatest : (o : Option Blocked) → IsStop n budget ranks members worst o →
        worst ≡ worst_of priority (leaves_of n (among members))
    greatest None z =
        (z.whole refl).1 ∙ sym (worst-zeros priority (leaves_of n (among members))
        (leaves-zero n budget priority (ranked_triangles ranks) z.chosen (among members) r.ranked falling z.closure
        ((z.whole refl).0 ∙ sym (length-map ranks (λ (x : Rank). x.tri)))))
    greatest (Some b) z =
        let m : (x : Rank) × (slice_get ranks z.chosen ≡ Some x) × (x.tri ≡ b.tri) × (x.p ≡ worst)
        × IsBlockedBy n (ranked_triangles ranks) z.chosen b.tri b.need = z.next b refl in
        let value : m.0.p ≡ priority m.0.tri = value_at m.0 z.chosen m.1 in
        sym m.3 ∙ value ∙ ap priority m.2
        ∙ blocking-worst n budget priority (ranked_triangles ranks) z.chosen
        (among members) r.ranked falling z.closure low b.tri b.need m.4

-- each entry of the ranking is splittable
pub All-splittable : (n : ℕ) (priority : ℕ → ℕ) (ranks : List Rank) → IsRanked n priority ranks →
    All (λ (r : Rank). IsSplittable n r.tri) ranks
All-splittable n priority ranks r k d h =
    ((r.ranked.members (get_or ranks k d).tri).0
    (Contains-in (get_or ranks k d).tri (ranked_triangles ranks) (is_in ranks k d h))).0
  where
    is_in : (xs : List Rank) (i : ℕ) (e : Rank) → i < length xs → IsIn (get_or xs i e).tri (ranked_triangles xs)
    is_in [] i e b = absurd (omega arith)
    is_in (x ∷ xs) zero e b = inl refl
    is_in (x ∷ xs) (suc i) e b = inr (is_in xs i e (omega arith))
