-- What clauses see of a grid: the height field that it holds.
use Rattle.mesh_defs.specs.HeightField.{HeightField}
use Rattle.pgm_grid.specs.declared.grid.Grid.TheInside.{Inside}

-- the height field of these fields
abbrev pub field_of : Inside → HeightField
field_of g = record { n = g.n; maxval = g.maxval; heights = g.heights.items }
