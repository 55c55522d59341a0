pub mod LoopLemmas
pub mod SpanLemmas
pub mod Elements
pub mod ChainLemmas
pub mod RequestLemmas
