pub mod Judging
pub mod FitJudging
