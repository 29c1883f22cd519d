use Rattle.std.proofs.Common.{refl}
use Rattle.text_laws.specs.Numbers.{number_in, signed_in}
use Rattle.roam_script.specs.LineText.{line_in}
use Rattle.run_laws.specs.Walk.{walk_of}
use Rattle.run_laws.proofs.laws.script_examples.Goals as goal

pub returns-clause-wrong_fields : goal.returns-clause-wrong_fields
unfolding walk_of line_in number_in signed_in
returns-clause-wrong_fields c = (refl, refl, refl, refl, refl)

pub returns-clause-refusals : goal.returns-clause-refusals
unfolding walk_of line_in number_in signed_in
returns-clause-refusals c = (refl, refl, refl, refl, refl, refl)

pub returns-clause-counts : goal.returns-clause-counts
unfolding walk_of line_in number_in signed_in
returns-clause-counts c = (refl, refl, refl, refl)

pub returns-clause-planes : goal.returns-clause-planes
unfolding walk_of line_in number_in signed_in
returns-clause-planes c = refl

pub returns-clause-budgets : goal.returns-clause-budgets
unfolding walk_of line_in number_in signed_in
returns-clause-budgets c = (refl, refl, refl)

pub returns-clause-areas : goal.returns-clause-areas
unfolding walk_of line_in number_in signed_in
returns-clause-areas c = (refl, refl, refl)

pub returns-clause-ways : goal.returns-clause-ways
unfolding walk_of line_in number_in signed_in
returns-clause-ways c = (refl, refl)
