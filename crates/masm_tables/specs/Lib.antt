pub mod Building
pub mod Kernels
pub mod Limits
pub mod Preparing
pub mod Putting
pub mod Tables
