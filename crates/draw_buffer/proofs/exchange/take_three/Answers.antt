use Rattle.draw_buffer.proofs.UseLemmas.{taken-three}
use Rattle.draw_buffer.proofs.exchange.take_three.Goals as goal

pub returns : goal.returns
returns c =
    taken-three c.args.vertices.now c.take-apex.new.self c.take-v0.new.self c.take-v1.new.self c.args.places
    c.take-apex.result c.take-v0.result c.take-v1.result
    c.take-apex.ensures c.take-v0.ensures c.take-v1.ensures
