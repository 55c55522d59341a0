pub mod FaultLemmas
pub mod QuickLemmas
pub mod BlockLemmas
pub mod DynLemmas
