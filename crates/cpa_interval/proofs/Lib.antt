pub mod CellLemmas
pub mod ElemLemmas
pub mod LoopLemmas
pub mod KnownLemmas
pub mod MergeLemmas
pub mod MergedLemmas
pub mod IntervalLaws
