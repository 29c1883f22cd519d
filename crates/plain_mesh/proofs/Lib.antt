mod PrefixLemmas
mod PickLemmas
mod StopLemmas
