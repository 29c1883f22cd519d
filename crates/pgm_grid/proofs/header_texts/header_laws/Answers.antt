use Rattle.pgm_grid.proofs.HeaderLawLemmas.{texts, read, prefix_free, parts, bad_magics, bad_headers, long_headers}
use Rattle.pgm_grid.proofs.HeaderLawLemmas.{bad_maxvals, oblongs, bad_sides, read_stands, refusal_stands}
use Rattle.pgm_grid.proofs.HeaderReadingLemmas.{part_refusable}
use Rattle.pgm_grid.proofs.HeaderWrittenLemmas.{written}
use Rattle.pgm_grid.proofs.header_texts.header_laws.Goals as goal

pub returns-clause-texts : goal.returns-clause-texts
returns-clause-texts c = texts

pub returns-clause-read : goal.returns-clause-read
returns-clause-read c = read

pub returns-clause-prefix_free : goal.returns-clause-prefix_free
returns-clause-prefix_free c = prefix_free

pub returns-clause-part : goal.returns-clause-part
returns-clause-part c = parts

pub returns-clause-bad_magic : goal.returns-clause-bad_magic
returns-clause-bad_magic c = bad_magics

pub returns-clause-bad_header : goal.returns-clause-bad_header
returns-clause-bad_header c = bad_headers

pub returns-clause-too_long : goal.returns-clause-too_long
returns-clause-too_long c = long_headers

pub returns-clause-bad_maxval : goal.returns-clause-bad_maxval
returns-clause-bad_maxval c = bad_maxvals

pub returns-clause-not_square : goal.returns-clause-not_square
returns-clause-not_square c = oblongs

pub returns-clause-bad_side : goal.returns-clause-bad_side
returns-clause-bad_side c = bad_sides

pub returns-clause-written : goal.returns-clause-written
returns-clause-written c = written

pub returns-clause-read_stands : goal.returns-clause-read_stands
returns-clause-read_stands c = read_stands

pub returns-clause-refusal_stands : goal.returns-clause-refusal_stands
returns-clause-refusal_stands c = refusal_stands

pub returns-clause-part_refusable : goal.returns-clause-part_refusable
returns-clause-part_refusable c = part_refusable
