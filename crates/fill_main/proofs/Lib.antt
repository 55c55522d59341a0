pub mod InverseLemmas
pub mod RowLemmas
pub mod FillLemmas
