mod LineLemmas
mod PageLemmas
mod CertBackLemmas
mod CertCountLemmas
mod FitBackLemmas
mod FitCountLemmas
mod KeptLemmas
