use Rattle.std.proofs.lemmas.Grind.{common_steps}
use Rattle.std.proofs.lemmas.Bool.{both_ways}
use Rattle.std.proofs.Common.{◌≡◌, inl, inr, true, false, None, Some, sym, ◌∙◌, ap, subst, arith}
use Rattle.mesh_laws.specs.Slots.{IsPool}
use Rattle.bintree_addr.specs.declared.rank.Rank.{Rank}
use Rattle.bintree_addr.specs.RankOrder.{ComesFirst}
use Rattle.roam_mesh.specs.Parts.{PartsState, IsWhole, entry_at, leaf_rank}
use Rattle.roam_mesh.specs.Keys.{is_sure, IsBetterFirst}
use Rattle.roam_mesh.specs.declared.entry.Entry.{Entry}
use Rattle.roam_mesh.proofs.KeyLemmas.{read_entry, better_pair, unasked_first, unasked_second, known_alone, known_two}
use Rattle.roam_mesh.proofs.parts.Parts.better_and_unasked.Goals as goal
use Rattle.roam_mesh.proofs.parts.Parts.better_and_unasked.Goals.{then-is_sure-2, else-is_sure-2}

pub returns-then-is_sure-clause-unasked : goal.returns-then-is_sure-clause-unasked
returns-then-is_sure-clause-unasked c =
    let parts : PartsState = c.args.self.now in
    let pool : IsPool parts.pool.n parts.pool.pairs =
    subst (λ (z : PartsState). IsPool z.pool.n z.pool.pairs) c.self.view_is
    c.n-n.ensures.valid in
    let whole : IsWhole c.args.self.now = subst IsWhole c.self.view_is c.self.invariant.0 in
    let entry : c.index.result.now ≡ entry_at parts c.better_first-other.result.0.0 =
    read_entry c.self.inside.entries.items parts
    c.better_first-other.result.0.0 c.index.result.now whole
    (ap (λ (z : PartsState). z.entries) c.self.view_is) c.better_first-other.ensures.ready c.index.ensures in
    known_alone parts pool c.args.s.0 c.better_first-other.result.0
    (better_pair parts c.args.s.0 c.better_first-other.result None c.in_default.is c.better_first-other.ensures)
    (subst (λ (z : Entry). is_sure z ≡ true) entry (sym c.is_sure.ensures ∙ c.if-is_sure.true))

pub returns-else-is_sure-clause-unasked : goal.returns-else-is_sure-clause-unasked
returns-else-is_sure-clause-unasked c =
    let parts : PartsState = c.args.self.now in
    let pool : IsPool parts.pool.n parts.pool.pairs =
    subst (λ (z : PartsState). IsPool z.pool.n z.pool.pairs) c.self.view_is
    c.n-n.ensures.valid in
    let whole : IsWhole c.args.self.now = subst IsWhole c.self.view_is c.self.invariant.0 in
    let entry : c.index.result.now ≡ entry_at parts c.better_first-other.result.0.0 =
    read_entry c.self.inside.entries.items parts
    c.better_first-other.result.0.0 c.index.result.now whole
    (ap (λ (z : PartsState). z.entries) c.self.view_is) c.better_first-other.ensures.ready c.index.ensures in
    unasked_first parts pool c.args.s.0 c.better_first-other.result.0 None
    (better_pair parts c.args.s.0 c.better_first-other.result None c.in_default.is c.better_first-other.ensures)
    (subst (λ (z : Entry). is_sure z ≡ false) entry (sym c.is_sure.ensures ∙ c.if-is_sure.false))

pub returns-then-ranks_before-clause-unasked : goal.returns-then-ranks_before-clause-unasked
returns-then-ranks_before-clause-unasked c =
    let parts : PartsState = c.args.self.now in
    let pool : IsPool parts.pool.n parts.pool.pairs =
    subst (λ (z : PartsState). IsPool z.pool.n z.pool.pairs) c.self.view_is
    c.n-n.ensures.valid in
    let whole : IsWhole c.args.self.now = subst IsWhole c.self.view_is c.self.invariant.0 in
    let better : IsBetterFirst c.args.self.now c.args.s.0 (c.better_first-other.result.0, Some c.in-Some.mate) =
    better_pair parts
    c.args.s.0 c.better_first-other.result (Some c.in-Some.mate) c.in-Some.is c.better_first-other.ensures in
    let entry : c.index-2.result.now ≡ entry_at parts c.in-Some.mate.0 =
    read_entry c.self.inside.entries.items parts c.in-Some.mate.0
    c.index-2.result.now whole
    (ap (λ (z : PartsState). z.entries) c.self.view_is) better.other.1 c.index-2.ensures in
    let own : c.index.result.now ≡ entry_at parts c.better_first-other.result.0.0 =
    read_entry c.self.inside.entries.items parts
    c.better_first-other.result.0.0 c.index.result.now whole
    (ap (λ (z : PartsState). z.entries) c.self.view_is) better.ready c.index.ensures in
    unasked_second parts pool c.args.s.0 c.better_first-other.result.0 c.in-Some.mate c.requires.ready better
    (subst (λ (z : Entry). is_sure z ≡ false) entry (sym c.is_sure-then-not-is_sure.ensures ∙ c.if-not-is_sure-2.true))
    (inr (
      subst (λ (z : Entry). is_sure z ≡ false) own (sym c.is_sure-2.ensures ∙ c.if-not-is_sure.true),
      subst (λ (z : Rank). ComesFirst z (leaf_rank parts c.better_first-other.result.0.0)) c.leaf_rank-best.ensures
          (subst (λ (z : Rank). ComesFirst c.leaf_rank-best.result z) c.leaf_rank-own.ensures
          (c.ranks_before.ensures.0 c.if-ranks_before.true)),
    ))

pub returns-else-not-is_sure-2-clause-unasked : goal.returns-else-not-is_sure-2-clause-unasked
returns-else-not-is_sure-2-clause-unasked c =
    let parts : PartsState = c.args.self.now in
    let pool : IsPool parts.pool.n parts.pool.pairs =
    subst (λ (z : PartsState). IsPool z.pool.n z.pool.pairs) c.self.view_is
    c.n-n.ensures.valid in
    let whole : IsWhole c.args.self.now = subst IsWhole c.self.view_is c.self.invariant.0 in
    let own : c.index.result.now ≡ entry_at parts c.better_first-other.result.0.0 =
    read_entry c.self.inside.entries.items parts
    c.better_first-other.result.0.0 c.index.result.now whole
    (ap (λ (z : PartsState). z.entries) c.self.view_is) c.better_first-other.ensures.ready c.index.ensures in
    unasked_first parts pool c.args.s.0 c.better_first-other.result.0 c.better_first-other.result.1
    c.better_first-other.ensures
    (subst (λ (z : Entry). is_sure z ≡ false) own (sym c.is_sure-2.ensures ∙ c.if-not-is_sure.true))

pub returns-then-ranks_before-2-clause-unasked : goal.returns-then-ranks_before-2-clause-unasked
returns-then-ranks_before-2-clause-unasked c =
    let parts : PartsState = c.args.self.now in
    let pool : IsPool parts.pool.n parts.pool.pairs =
    subst (λ (z : PartsState). IsPool z.pool.n z.pool.pairs) c.self.view_is
    c.n-n.ensures.valid in
    let whole : IsWhole c.args.self.now = subst IsWhole c.self.view_is c.self.invariant.0 in
    let better : IsBetterFirst c.args.self.now c.args.s.0 (c.better_first-other.result.0, Some c.in-Some.mate) =
    better_pair parts
    c.args.s.0 c.better_first-other.result (Some c.in-Some.mate) c.in-Some.is c.better_first-other.ensures in
    let own : c.index.result.now ≡ entry_at parts c.better_first-other.result.0.0 =
    read_entry c.self.inside.entries.items parts
    c.better_first-other.result.0.0 c.index.result.now whole
    (ap (λ (z : PartsState). z.entries) c.self.view_is) better.ready c.index.ensures in
    let other : c.index-2.result.now ≡ entry_at parts c.in-Some.mate.0 =
    read_entry c.self.inside.entries.items parts c.in-Some.mate.0
    c.index-2.result.now whole
    (ap (λ (z : PartsState). z.entries) c.self.view_is) better.other.1 c.index-2.ensures in
    known_two parts pool c.args.s.0 c.better_first-other.result.0 c.in-Some.mate c.requires.ready better
    (subst (λ (z : Entry). is_sure z ≡ true) own (sym c.is_sure-2.ensures ∙ c.if-not-is_sure.false))
    (elim c.if-is_sure-2.branch [
      | then-is_sure-2 w ↦ inl (subst (λ (z : Entry). is_sure z ≡ true) other
          (sym c.is_sure-else-not-is_sure.ensures ∙ w.if-is_sure-2.true))
      | else-is_sure-2 w ↦
          inr (subst (λ (z : Rank). ComesFirst z (leaf_rank parts c.in-Some.mate.0)) c.worst_rank-worst.ensures
          (subst (λ (z : Rank). ComesFirst c.worst_rank-worst.result z) c.leaf_rank-best.ensures
          (w.ranks_before-else-is_sure-2.ensures.0 (sym w.value-is ∙ c.if-ranks_before-2.true))))
    ])

pub returns-else-ranks_before-2-clause-unasked : goal.returns-else-ranks_before-2-clause-unasked
returns-else-ranks_before-2-clause-unasked c =
    let parts : PartsState = c.args.self.now in
    let pool : IsPool parts.pool.n parts.pool.pairs =
    subst (λ (z : PartsState). IsPool z.pool.n z.pool.pairs) c.self.view_is
    c.n-n.ensures.valid in
    let whole : IsWhole c.args.self.now = subst IsWhole c.self.view_is c.self.invariant.0 in
    let better : IsBetterFirst c.args.self.now c.args.s.0 (c.better_first-other.result.0, Some c.in-Some.mate) =
    better_pair parts
    c.args.s.0 c.better_first-other.result (Some c.in-Some.mate) c.in-Some.is c.better_first-other.ensures in
    let own : c.index.result.now ≡ entry_at parts c.better_first-other.result.0.0 =
    read_entry c.self.inside.entries.items parts
    c.better_first-other.result.0.0 c.index.result.now whole
    (ap (λ (z : PartsState). z.entries) c.self.view_is) better.ready c.index.ensures in
    let other : c.index-2.result.now ≡ entry_at parts c.in-Some.mate.0 =
    read_entry c.self.inside.entries.items parts c.in-Some.mate.0
    c.index-2.result.now whole
    (ap (λ (z : PartsState). z.entries) c.self.view_is) better.other.1 c.index-2.ensures in
    let unsure : c.is_sure-else-not-is_sure.result ≡ false = elim c.if-is_sure-2.branch [
      | then-is_sure-2 w ↦ sym w.value-is ∙ c.if-ranks_before-2.false
      | else-is_sure-2 w ↦ w.if-is_sure-2.false
    ] in
    let after : ComesFirst c.worst_rank-worst.result c.leaf_rank-best.result → ⊥ = elim c.if-is_sure-2.branch [
      | then-is_sure-2 w ↦
          λ first. both_ways c.is_sure-else-not-is_sure.result (sym w.value-is ∙ c.if-ranks_before-2.false)
          w.if-is_sure-2.true
      | else-is_sure-2 w ↦
          λ first. both_ways w.ranks_before-else-is_sure-2.result (sym w.value-is ∙ c.if-ranks_before-2.false)
          (w.ranks_before-else-is_sure-2.ensures.1 first)
    ] in
    unasked_second parts pool c.args.s.0 c.better_first-other.result.0 c.in-Some.mate c.requires.ready better
    (subst (λ (z : Entry). is_sure z ≡ false) other (sym c.is_sure-else-not-is_sure.ensures ∙ unsure))
    (inl (
      subst (λ (z : Entry). is_sure z ≡ true) own (sym c.is_sure-2.ensures ∙ c.if-not-is_sure.false),
      subst (λ (z : Rank). ComesFirst z (leaf_rank parts c.in-Some.mate.0) → ⊥) c.worst_rank-worst.ensures
          (subst (λ (z : Rank). ComesFirst c.worst_rank-worst.result z → ⊥) c.leaf_rank-best.ensures after),
    ))

pub index-requires : goal.index-requires
index-requires c = grind (arith, common_steps)
