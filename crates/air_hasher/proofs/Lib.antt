pub mod Faults
pub mod Rounds
