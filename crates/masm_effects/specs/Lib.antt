pub mod Effects
pub mod HasEffect
pub mod Spans
