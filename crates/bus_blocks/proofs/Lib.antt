pub mod OpcodeLemmas
pub mod TwoLemmas
pub mod BlockLemmas
pub mod CellLemmas
pub mod GroupLemmas
