pub mod Joined
pub mod Fronts
pub mod Packing
