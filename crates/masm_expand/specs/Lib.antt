pub mod Expansion
pub mod Packable
