use Rattle.std.proofs.Common.{refl}
use Rattle.text_laws.specs.Numbers.{number_in, signed_in}
use Rattle.cert_text.specs.CertLine.{read_cert_line}
use Rattle.cert_text.specs.FitLine as fit_line
use Rattle.cert_text.specs.NeedLine.{need_in}
use Rattle.roam_num.specs.Places.{thousandths_in}
use Rattle.run_laws.specs.CertFile.{cert_in, fit_cert_in, kept_cert_in}
use Rattle.run_laws.proofs.laws.certify_examples.Goals as goal

pub returns-clause-read : goal.returns-clause-read
unfolding cert_in read_cert_line number_in signed_in
returns-clause-read c = (refl, refl, refl, refl)

pub returns-clause-refused : goal.returns-clause-refused
unfolding cert_in read_cert_line number_in signed_in
returns-clause-refused c = (refl, refl, refl, refl, refl, refl, refl, refl, refl)

pub returns-clause-words : goal.returns-clause-words
unfolding number_in signed_in
returns-clause-words c = (refl, refl, refl, refl, refl)

pub returns-clause-fit_read : goal.returns-clause-fit_read
unfolding fit_cert_in fit_line.read_fit_line number_in
returns-clause-fit_read c = (refl, refl, refl)

pub returns-clause-fit_refused : goal.returns-clause-fit_refused
unfolding fit_cert_in fit_line.read_fit_line number_in
returns-clause-fit_refused c = (refl, refl, refl, refl, refl, refl, refl, refl, refl)

pub returns-clause-fit_words : goal.returns-clause-fit_words
unfolding number_in thousandths_in
returns-clause-fit_words c = (refl, refl, refl, refl, refl)

pub returns-clause-kept_read : goal.returns-clause-kept_read
unfolding kept_cert_in need_in fit_line.read_fit_line number_in
returns-clause-kept_read c = (refl, refl, refl)

pub returns-clause-kept_refused : goal.returns-clause-kept_refused
unfolding kept_cert_in fit_cert_in need_in fit_line.read_fit_line number_in
returns-clause-kept_refused c = (refl, refl, refl, refl, refl, refl)

pub returns-clause-kept_words : goal.returns-clause-kept_words
unfolding number_in thousandths_in
returns-clause-kept_words c = (refl, refl, refl, refl, refl)
