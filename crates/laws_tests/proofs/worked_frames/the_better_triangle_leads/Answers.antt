-- By the tests.
use Rattle.std.proofs.Common.{refl, []}
use Rattle.std.proofs.lemmas.Bool.{both_ways}
use Rattle.mesh_defs.specs.Triangle.{level_of}
use Rattle.mesh_defs.specs.ClosedSet.{among}
use Rattle.mesh_laws.proofs.DescentLemmas.{IsAddress-level}
use Rattle.std.proofs.Common.{lit≤, inl}
use Rattle.mesh_laws.specs.Table.{told_by}
use Rattle.laws_tests.specs.declared.worked_frames.TheConstants.{FROM_UPPER_RIGHT, WITH_6, FIRST}
use Rattle.laws_tests.proofs.FrameExampleLemmas.{grid_set, is_lead, lead-is, is-lead, last_lead}
use Rattle.laws_tests.proofs.worked_frames.the_better_triangle_leads.Goals as goal

pub returns : goal.returns
unfolding level_of
returns c = record {
  lead = lead-is 2 (told_by FROM_UPPER_RIGHT) WITH_6 8 (IsAddress-level 2 8 (lit≤ tt) (lit≤ tt)) refl;
  other = λ lead. both_ways (is_lead (told_by FROM_UPPER_RIGHT) WITH_6 11) refl
      (is-lead 2 (told_by FROM_UPPER_RIGHT) WITH_6 11 (IsAddress-level 2 11 (lit≤ tt) (lit≤ tt)) lead);
  tie = lead-is 2 (told_by []) WITH_6 8 (IsAddress-level 2 8 (lit≤ tt) (lit≤ tt)) refl;
  last = last_lead 2 (told_by FROM_UPPER_RIGHT) FIRST 17 (grid_set 2 FIRST refl).closed refl;
  not_mergeable = λ can. both_ways (among FIRST 17) (can.childless 8 (inl refl)).1 refl;
}
