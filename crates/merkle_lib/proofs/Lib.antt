pub mod Clocks
pub mod Spans
pub mod Levels
pub mod Packed
pub mod Law
pub mod Cuts
