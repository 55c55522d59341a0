pub mod Collecting
pub mod DynexecLemmas
pub mod OwnLemmas
pub mod SettlingLemmas
pub mod UseLemmas
pub mod UserLemmas
