pub mod CalmLemmas
