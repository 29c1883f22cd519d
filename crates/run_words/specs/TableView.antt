-- The rows of the code in the words of the table.
-- Words: row_seen.
use Rattle.run_words.specs.Table as table
use Rattle.run_words.specs.declared.table.Row.{Row}

abbrev pub row_seen : Row → table.Row
row_seen r = record { word = r.word.now; kind = r.kind; behind = r.behind.now }
