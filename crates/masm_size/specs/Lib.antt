pub mod KnownSizes
pub mod Sizes
