use Rattle.std.proofs.Common.{◌≡◌, drop, map}
use Rattle.roam_edge.specs.Shelf.{bytes_of}
use Rattle.roam_edge.specs.CalmShelf.{calm_file}
use Rattle.roam_edge.proofs.calm_shelf.first_named.Given as goal

abbrev pub invariant-loop-file : goal.invariant-loop-file
invariant-loop-file l =
    bytes_of (map calm_file l.files) l.name ≡ bytes_of (map calm_file (drop l.file-index l.files)) l.name
