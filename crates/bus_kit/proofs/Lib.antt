pub mod PairLemmas
pub mod ScanLemmas
pub mod SingleLemmas
pub mod WidthLemmas
pub mod AnswerLemmas
pub mod AddingLemmas
pub mod AbsorbLemmas
pub mod SumLemmas
