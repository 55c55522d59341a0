pub mod FewTold
pub mod KeyLemmas
pub mod Lines
pub mod Spelling
pub mod Told
