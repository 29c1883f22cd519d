pub mod LawLemmas
pub mod OctaveLemmas
pub mod RowLemmas
pub mod ScriptLemmas
pub mod SinkLemmas
