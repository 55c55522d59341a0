pub mod Frames
pub mod Nesting
pub mod Items
pub mod Spans
pub mod Lists
pub mod Chains
pub mod Keys
