mod DifferenceLemmas
mod FileLemmas
mod LawLemmas
