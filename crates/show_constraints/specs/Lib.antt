pub mod BusWords
pub mod Columns
pub mod Meanings
pub mod Parts
pub mod Terms
pub mod Words
