mod ClosedLists
mod RankingExamples
mod CornerExample
mod TileNumbers
mod PageNumbers
mod FrameExampleLemmas
mod FrameStepExamples
