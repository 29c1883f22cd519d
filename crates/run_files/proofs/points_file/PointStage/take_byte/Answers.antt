use Rattle.std.proofs.Common.{◌≤◌, length, arith}
use Rattle.std.proofs.lemmas.Grind.{common_steps}
use Rattle.roam_script.specs.declared.limits.TheConstants.{MOST_LINE_BYTES}
use Rattle.run_files.specs.PointStage.{point_place}
use Rattle.run_files.proofs.PointStageLemmas.{takes-line, takes-late, takes-long}
use Rattle.run_files.proofs.points_file.PointStage.take_byte.Goals as goal

pub returns-then-byte-eq10-clause-taken : goal.returns-then-byte-eq10-clause-taken
returns-then-byte-eq10-clause-taken c read come =
    let t = c.take_line.ensures in
    rw c.if-byte-eq10.true (takes-line c.args.self.now.n read (point_place c.args.self.now) come
    (point_place c.take_line.new.self) c.take_line.result t.ok t.lines t.part t.refusal)

pub returns-then-line-most_points-clause-taken : goal.returns-then-line-most_points-clause-taken
returns-then-line-most_points-clause-taken c read come =
    takes-late c.args.self.now.n read (point_place c.args.self.now) come c.point_laws.ensures.too_many_lines
    c.args.byte (point_place c.args.self.now) c.if-byte-eq10.false (grind (arith, common_steps))

pub returns-then-is_full-clause-taken : goal.returns-then-is_full-clause-taken
returns-then-is_full-clause-taken c read come =
    let long : MOST_LINE_BYTES ≤ length c.args.self.now.part.items = grind (arith, common_steps) in
    takes-long c.args.self.now.n read (point_place c.args.self.now) come c.point_laws.ensures.line_too_long
    c.args.byte (point_place c.args.self.now) c.if-byte-eq10.false (grind (arith, common_steps)) long
