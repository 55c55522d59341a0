pub mod Making
pub mod Naming
pub mod Saves
