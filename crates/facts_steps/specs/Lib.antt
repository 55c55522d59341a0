pub mod Joined
pub mod Lookups
pub mod Showing
pub mod Filling
pub mod Numbers
