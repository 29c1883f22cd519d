use Rattle.std.proofs.Common.{◌≡◌, drop, map}
use Rattle.roam_edge.specs.Shelf.{bytes_of}
use Rattle.edge_doubles.specs.MemShelf.{has_name}
use Rattle.edge_doubles.specs.StoredFile.{file_of}
use Rattle.edge_doubles.proofs.stored_file.place_of.Given as goal

abbrev pub invariant-loop-file : goal.invariant-loop-file
invariant-loop-file l = record {
  counted : l.place ≡ l.file-index;
  bytes : bytes_of (map file_of l.files) l.name ≡ bytes_of (map file_of (drop l.file-index l.files)) l.name;
  named : has_name (map file_of l.files) l.name ≡ has_name (map file_of (drop l.file-index l.files)) l.name;
}
