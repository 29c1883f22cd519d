use Rattle.std.proofs.Common.{◌++◌, ◌∙◌, ap, append_assoc}
use Rattle.obj_write.proofs.lines.MeshLines.push_next.Goals as goal

pub returns-clause-text : goal.returns-clause-text
returns-clause-text g c =
    let items = c.args.page.now.items in
    let left = c.put_next-more.new.self.text in
    ap (λ t. t ++ left) (c.push_bytes.ensures.items ∙ ap (λ t. items ++ t) c.text.ensures)
    ∙ append_assoc items c.put_next-more.new.page left
    ∙ ap (λ t. items ++ t) (c.put_next-more.ensures.text ∙ ap (λ t. t ++ c.args.self.now.text) c.new-piece.ensures)
