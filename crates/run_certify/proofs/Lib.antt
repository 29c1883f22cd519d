pub mod JudgingLemmas
pub mod FitJudgingLemmas
pub mod KeptJudgingLemmas
pub mod TextLemmas
