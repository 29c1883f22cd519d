pub mod UnderWayLemmas
