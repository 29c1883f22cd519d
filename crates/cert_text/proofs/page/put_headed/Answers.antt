-- The line, and then the others.
use Rattle.std.proofs.Common.{[], refl}
use Rattle.std.proofs.lemmas.Result.{err_from_is_err_and, on_ok_weaker, on_err_weaker}
use Rattle.cert_text.proofs.PageLemmas.{puts-none, puts-then, cuts-then, cuts-next}
use Rattle.cert_text.proofs.page.put_headed.Goals as goal

pub returns-in_err-put_line-clause-err : goal.returns-in_err-put_line-clause-err
returns-in_err-put_line-clause-err g c =
    let p = err_from_is_err_and c.from_residual.result c.from_residual.ensures.1 in
    rw p.1 (cuts-next _ _ _ _ _ [] _ _ refl (puts-none _ _) c.in_err-put_line.ensures.err)

pub returns-clause-ok : goal.returns-clause-ok
returns-clause-ok g c =
    on_ok_weaker c.put_lines.result (puts-then _ _ _ _ _ _ _ _ c.in_ok-put_line.ensures.ok) c.put_lines.ensures.ok

pub returns-clause-err : goal.returns-clause-err
returns-clause-err g c =
    on_err_weaker c.put_lines.result (cuts-then _ _ _ _ _ _ _ c.in_ok-put_line.ensures.ok) c.put_lines.ensures.err
