pub mod CountedLemmas
pub mod ExplainLemmas
pub mod FormLaws
pub mod QuietLemmas
pub mod RefusedLemmas
pub mod ShowLemmas
