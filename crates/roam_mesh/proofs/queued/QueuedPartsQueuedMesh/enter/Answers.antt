use Rattle.std.proofs.Common.{◌≡◌, ℕ, List, ◌∷◌, true, false, sym, ap, subst, ◌∙◌, ⊎_elim}
use Rattle.std.proofs.lemmas.Bool.{both_ways}
use Rattle.mesh_laws.specs.Slots.{address_at}
use Rattle.deferred_loop.specs.Seen.{IsEntered}
use Rattle.mesh_defs.specs.ClosedSet.{among}
use Rattle.roam_mesh.specs.Parts.{QueuedState, PartsState, is_leaf_at, is_ready_at, IsParts, seen_parts}
use Rattle.roam_mesh.specs.Change.{entered}
use Rattle.roam_mesh.proofs.RoleLemmas.{entry_cases}
use Rattle.roam_mesh.proofs.PlacedLemmas.{leaf_absent, diamond_absent}
use Rattle.roam_mesh.proofs.EnterLemmas.{entered_parts, entered_seen}
use Rattle.roam_mesh.proofs.SlotListLemmas.{among_last}
use Rattle.roam_mesh.proofs.queued.QueuedPartsQueuedMesh.enter.Goals as goal

pub enter_next-requires-clause-entry : goal.enter_next-requires-clause-entry
enter_next-requires-clause-entry c s rest last =
    c.self.invariant.entries s (ap (λ l. among l s) last ∙ among_last rest s)

pub enter_next-requires-clause-leaf : goal.enter_next-requires-clause-leaf
enter_next-requires-clause-leaf c s rest last leaf =
    leaf_absent c.self.inside.parts (among c.self.inside.parts.fresh) s c.self.invariant.placed
    (ap (λ l. among l s) last ∙ among_last rest s)

pub enter_next-requires-clause-diamond : goal.enter_next-requires-clause-diamond
enter_next-requires-clause-diamond c s rest last whole =
    let parts = c.self.inside.parts in
    let there = ap (λ l. among l s) last ∙ among_last rest s in
    let ready : is_ready_at parts.pool.pairs s ≡ true = ⊎_elim
    (λ (leaf : is_leaf_at parts.pool.pairs s ≡ true). absurd (both_ways (is_leaf_at parts.pool.pairs s) whole leaf))
    (λ (diamond : (is_leaf_at parts.pool.pairs s ≡ false) × (is_ready_at parts.pool.pairs s ≡ true)). diamond.1)
    (entry_cases parts.pool.pairs s (c.self.invariant.entries s there)) in
    diamond_absent parts (among parts.fresh) s c.self.invariant.pool c.self.invariant.placed ready there

pub invariant_of-self : goal.invariant_of-self
invariant_of-self c =
    let parts = c.self.inside.parts in
    let after = c.enter_next.ensures.entered in
    subst IsParts (sym after.3) (entered_parts parts after.0 after.1 c.args.reading.now c.args.odometer
    c.enter_next.ensures.whole c.self.invariant after.2 c.requires.far c.requires.small)

-- equal lists begin alike
same_head : (a b : ℕ) (xs ys : List ℕ) → a ∷ xs ≡ b ∷ ys → a ≡ b
same_head a b xs ys same = cc

pub returns-clause-entered : goal.returns-clause-entered
returns-clause-entered c =
    let parts = c.self.inside.parts in
    let reading = c.args.reading.now in
    let after = c.enter_next.ensures.entered in
    let seen = entered_seen parts after.0 after.1 reading c.args.odometer c.enter_next.ensures.whole
    c.self.invariant after.2 in
    let head = same_head (address_at parts.pool.pairs after.1) c.args._t _ _ (sym seen.fresh
    ∙ ap (λ (p : PartsState). (seen_parts p).fresh) (ap (λ (z : QueuedState). z.parts) c.self.view_is)
    ∙ c.requires.next.1) in
    let one = subst (λ t. IsEntered (seen_parts parts)
    (seen_parts (entered parts after.0 after.1 reading c.args.odometer)) t reading c.args.odometer) head seen in
    let two =
    subst (λ p. IsEntered (seen_parts parts) (seen_parts p) c.args._t reading c.args.odometer) (sym after.3) one in
    subst (λ (p : PartsState). IsEntered (seen_parts p) (seen_parts c.enter_next.new.self) c.args._t reading
    c.args.odometer) (ap (λ (z : QueuedState). z.parts) c.self.view_is) two
