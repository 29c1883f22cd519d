-- The world of the one page.
use Rattle.std.proofs.Common.{◌≡◌, ◌∙◌, ap, subst, IfOk}
use Rattle.mesh_defs.specs.HeightField.{HeightField}
use Rattle.page_wedges.specs.Page.{Page}
use Rattle.world_embed.specs.Worlds.{IsWorldOpened}
use Rattle.world_embed.proofs.WorldLemmas.{world-opened}
use Rattle.world_embed.proofs.world.make_world.Goals as goal

pub returns : goal.returns
returns c =
    let field : c.cut_by.new.self.field ≡ c.args.root =
    ap (λ (p : Page). p.field) c.cut_by.ensures.value ∙ c.root.view_is in
    subst (λ (g : HeightField). IfOk c.make-2.result (IsWorldOpened g c.args.large c.args.budget c.args.spacing)) field
    (world-opened c.make-2.result c.cut_by.new.self c.args.large c.args.budget c.args.spacing c.in_ok-store.store
    c.in_ok-store.ensures.large c.in_ok-store.ensures.n c.in_ok-store.ensures.root c.in_ok-store.ensures.others
    c.make-2.ensures.store c.make-2.ensures.view c.make-2.ensures.budget c.make-2.ensures.most
    c.make-2.ensures.base c.make-2.ensures.odometer
    c.make-2.ensures.pace c.make-2.ensures.way)
