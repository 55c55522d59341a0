pub mod Blocks
pub mod Children
pub mod Batches
pub mod Overflow
pub mod Lookups
pub mod BusFacts
