pub mod ColumnLemmas
pub mod RowLemmas
pub mod SpotLemmas
pub mod WorstLemmas
