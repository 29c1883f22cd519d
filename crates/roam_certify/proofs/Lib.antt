mod CertLemmas
mod CheckingLemmas
mod ClimbLemmas
mod MakingLemmas
