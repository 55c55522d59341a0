pub mod RunLemmas
pub mod SpanLemmas
pub mod BlockLemmas
pub mod ExecutionLemmas
pub mod FirstLemmas
