pub mod CameraLemmas
pub mod EngineLemmas
pub mod ShowingLemmas
pub mod FrameLemmas
pub mod ShowLemmas
pub mod CertifyLemmas
pub mod SumLemmas
