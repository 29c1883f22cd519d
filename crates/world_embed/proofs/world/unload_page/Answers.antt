-- A page that is loaded, fine and free.
use Rattle.world_embed.proofs.PagingLemmas.{unload-done}
use Rattle.world_embed.proofs.world.unload_page.Goals as goal

pub returns-in-Ok-clause-free : goal.returns-in-Ok-clause-free
returns-in-Ok-clause-free c =
    unload-done c.args.world.now.store c.args.q (record { x = c.args.column; y = c.args.row }) c.in-Ok.wedges
    c.in-Ok.ensures.page c.in-Ok.ensures.ok.0 c.in-Ok.ensures.ok.1
