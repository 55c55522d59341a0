pub mod Built
pub mod TreeFacts
pub mod Running
pub mod Cycles
pub mod Ends
