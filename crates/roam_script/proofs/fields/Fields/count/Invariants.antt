use Rattle.std.proofs.Common.{◌≡◌, ◌≤◌, ◌+◌, length}
use Rattle.text_laws.specs.Fields.{fields_of}
use Rattle.roam_script.proofs.fields.Fields.count.Given as goal

abbrev pub invariant-loop-behind : goal.invariant-loop-behind
invariant-loop-behind l =
    record {
      all : l.count + length (fields_of l.rest) ≡ length (fields_of l.initial.rest);
      few : l.count + length l.rest ≤ length l.initial.rest;
    }

abbrev pub decreases-loop-behind : goal.decreases-loop-behind
decreases-loop-behind l = length l.rest
