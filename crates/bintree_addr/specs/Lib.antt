pub mod RankOrder
