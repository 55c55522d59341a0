pub mod CodeLemmas
pub mod MoveLemmas
pub mod Sizing
pub mod ValueLemmas
pub mod StepLemmas
pub mod ShownLemmas
pub mod FrameLemmas
pub mod RunLemmas
