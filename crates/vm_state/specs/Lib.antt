pub mod Memory
pub mod Tapes
pub mod Views
