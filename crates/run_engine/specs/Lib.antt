pub mod ShowView
pub mod EngineSeen
pub mod NoteSeen
pub mod EngineFrames
pub mod SumView
