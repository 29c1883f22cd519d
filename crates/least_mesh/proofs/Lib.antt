mod AskedLemmas
mod FrameLemmas
