-- The lines, and then what is left on the page.
use Rattle.std.proofs.lemmas.Result.{err_from_is_err_and}
use Rattle.cert_text.proofs.PageLemmas.{cuts-appends, puts-appends}
use Rattle.cert_text.proofs.fit_writing.write_fit_cert.Goals as goal

pub returns-in_err-put_fit-clause-bytes : goal.returns-in_err-put_fit-clause-bytes
returns-in_err-put_fit-clause-bytes g c =
    let p = err_from_is_err_and c.from_residual.result c.from_residual.ensures.1 in
    rw p.1 (cuts-appends _ _ _ _ _ c.new-page.ensures c.in_err-put_fit.ensures.err)

pub returns-clause-bytes : goal.returns-clause-bytes
returns-clause-bytes g c =
    puts-appends _ _ _ _ _ _ _ c.new-page.ensures c.in_ok-put_fit.ensures.ok c.put_rest.ensures.bytes
