pub mod PartLemmas
pub mod TermLemmas
pub mod OperandLemmas
pub mod QuickLemmas
