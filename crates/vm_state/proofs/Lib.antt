pub mod MemoryLemmas
pub mod StackLemmas
