pub mod TestLemmas
pub mod AnswerLemmas
pub mod ListLemmas
pub mod DigitLemmas
pub mod BlankLemmas
pub mod WordLemmas
pub mod NumberLemmas
pub mod FieldLemmas
