use Rattle.std.proofs.Common.{rules, ◌≡◌, ◌<◌, true, length, bytes_eq}
use Rattle.std.specs.Prelude.{string_bytes}
use Rattle.edge_doubles.proofs.StoredLemmas.{found-here}
use Rattle.edge_doubles.proofs.stored_file.place_of.Goals as goal

pub returns-then-eq-clause-bytes : goal.returns-then-eq-clause-bytes
returns-then-eq-clause-bytes c =
    let within : c.loop-file.file-index < length c.args.files.now = search rules in
    let same : bytes_eq (string_bytes c.file-item.result.name) c.args.name.now ≡ true = search rules in
    found-here c.args.files.now c.args.name.now c.loop-file.place c.loop-file.file-index c.file-item.result
    c.loop-file.invariant.counted within c.file-item.is same c.loop-file.invariant.bytes
