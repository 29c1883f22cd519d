use Rattle.std.proofs.Common.{ℕ, ◌<◌, List, Option, None, Some, option_map, arith, length, get_or-set_same, set-set}
use Rattle.std.proofs.Common.{slice_index_or, slice_set, sym, ap, ap₂, subst, ◌∙◌}
use Rattle.mesh_laws.specs.Slots.{IsLive}
use Rattle.bintree_addr.specs.declared.rank.Rank.{Rank}
use Rattle.roam_mesh.specs.Parts.{PartsState, leaf_rank, parts_of}
use Rattle.roam_mesh.proofs.PlaceLemmas.{live_below}
use Rattle.roam_mesh.proofs.parts.Parts.begin_leaf.Goals as goal

pub returns : goal.returns
returns c =
    let m = c.self.inside in
    let s = c.args.s.0 in
    let parts : PartsState = parts_of m.pool m.entries.items m.split_queue m.merge_queue m.deadlines m.asked.items
    m.asked_count m.fresh.items m.fresh_count in
    let live = subst (λ (p : PartsState). IsLive p.pool.pairs s) (sym c.self.view_is) c.requires.live in
    let low = live_below m.pool.pairs s live in
    let long = c.self.invariant.0.due in
    let below : s < length m.deadlines = omega arith in
    let key = ap (λ (d : List (Option ℕ)). slice_index_or d s None) c.stamp.ensures
    ∙ get_or-set_same m.deadlines s (Some 1) None below in
    let split = c.put.ensures ∙ ap (λ (r : Rank). slice_set m.split_queue s (Some r)) c.leaf_rank-rank.ensures in
    let due = c.expire.ensures ∙ ap₂ (λ (d : List (Option ℕ)) (k : Option ℕ).
    slice_set d s (option_map (λ _. 0) k)) c.stamp.ensures key ∙ set-set m.deadlines s (Some 1) (Some 0) in
    ap₂ (λ (q : List (Option Rank)) (d : List (Option ℕ)). record parts { split = q; due = d }) split due
    ∙ ap (λ (p : PartsState). record p {
      split = slice_set p.split s (Some (leaf_rank c.args.self.now s));
      due = slice_set p.due s (Some 0);
    }) c.self.view_is
