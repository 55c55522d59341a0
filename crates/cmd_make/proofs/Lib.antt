pub mod AcceptedRuns
pub mod MakeLemmas
