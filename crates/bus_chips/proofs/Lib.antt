pub mod TableLemmas
pub mod HasherLemmas
pub mod BitwiseLemmas
pub mod MemoryLemmas
