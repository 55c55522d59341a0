pub mod PieceLemmas
pub mod WholeLemmas
pub mod TakerLemmas
