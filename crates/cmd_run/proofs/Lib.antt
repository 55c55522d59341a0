pub mod CourseLemmas
pub mod LinkLemmas
pub mod RunLemmas
pub mod RunReads
pub mod Words
