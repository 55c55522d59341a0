pub mod CycleLemmas
pub mod KeptLemmas
pub mod NameLemmas
pub mod OperationLemmas
