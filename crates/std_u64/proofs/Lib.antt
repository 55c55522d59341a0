pub mod Arithmetic
pub mod Traps
pub mod Running
pub mod LibraryLemmas
pub mod NameLemmas
pub mod Packing
