pub mod TimesLemmas
pub mod LinkLemmas
pub mod ToldLemmas
pub mod VertexLemmas
pub mod TakenLemmas
pub mod UseLemmas
pub mod ExchangeLemmas
