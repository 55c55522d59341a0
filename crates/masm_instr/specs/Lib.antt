pub mod Table
pub mod Names
pub mod Slots
pub mod Instructions
