pub mod Chaining
pub mod Judging
pub mod Sourcing
