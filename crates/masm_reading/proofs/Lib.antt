pub mod ConstantLemmas
pub mod Digits
pub mod ReadingLemmas
pub mod InForm
pub mod NamesLemmas
