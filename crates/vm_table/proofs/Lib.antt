pub mod LayoutLemmas
pub mod BlockLemmas
