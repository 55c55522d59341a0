pub mod Hashes
pub mod Trees
