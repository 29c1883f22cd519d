use Rattle.std.proofs.Common.{rules}
use Rattle.roam_script.specs.LineText.{line_in}
use Rattle.roam_script.proofs.reading.read_line.Goals as goal

pub returns-then-limits-gt-MOST_LINES : goal.returns-then-limits-gt-MOST_LINES
unfolding line_in
returns-then-limits-gt-MOST_LINES c = search rules

pub returns-then-bytes-gt-MOST_LINE_BYTES : goal.returns-then-bytes-gt-MOST_LINE_BYTES
unfolding line_in
returns-then-bytes-gt-MOST_LINE_BYTES c = search rules

pub returns : goal.returns
unfolding line_in
returns c = search rules
