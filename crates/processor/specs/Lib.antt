pub mod Executed
pub mod Advanced
pub mod Ended
pub mod Parts
