-- Each clause is a lemma.
use Rattle.std.proofs.Common.{◌*◌, arith}
use Rattle.mosaic_laws.proofs.UnionLemmas.{fine-coarse, part-leaves, part-conforming, part-found, union-conforming}
use Rattle.mosaic_laws.proofs.UnionLemmas.{union-found}
use Rattle.mosaic_laws.proofs.JoinLemmas.{joined-union, joined-once, number-small, tile_at-number, tile_at-is}
use Rattle.mosaic_laws.proofs.JoinLemmas.{joined-grown}
use Rattle.mosaic_laws.proofs.lists.list_laws.Goals as goal

pub returns-clause-split : goal.returns-clause-split
returns-clause-split c = fine-coarse

pub returns-clause-leaves : goal.returns-clause-leaves
returns-clause-leaves c = part-leaves

pub returns-clause-part : goal.returns-clause-part
returns-clause-part c n p t triangles tile some conforming fine =
    part-conforming n p t triangles tile some conforming fine

pub returns-clause-part_found : goal.returns-clause-part_found
returns-clause-part_found c n p t triangles tile some conforming fine =
    part-found n p t triangles tile some conforming fine

pub returns-clause-union : goal.returns-clause-union
returns-clause-union c n p lists conforming centres agreed triangles union =
    (union-conforming n p lists conforming centres agreed triangles union, λ x listed. (union.fine x listed).1)

pub returns-clause-union_found : goal.returns-clause-union_found
returns-clause-union_found c = union-found

pub returns-clause-joined : goal.returns-clause-joined
returns-clause-joined c = joined-union

pub returns-clause-entries : goal.returns-clause-entries
returns-clause-entries c n p columns rows lists wide high addresses t a tile big =
    joined-once n p columns rows lists wide high addresses t a (columns * rows) tile big
    (number-small columns rows t tile) (omega arith)

pub returns-clause-number : goal.returns-clause-number
returns-clause-number c columns rows t tile = (number-small columns rows t tile, tile_at-number columns rows t tile)

pub returns-clause-tiles : goal.returns-clause-tiles
returns-clause-tiles c = tile_at-is

pub returns-clause-longer : goal.returns-clause-longer
returns-clause-longer c p columns rows t lists more tile each less =
    joined-grown p columns rows t lists more tile each less (columns * rows) (number-small columns rows t tile)
    (omega arith)
