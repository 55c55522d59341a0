pub mod Asked
pub mod Taken
pub mod Fitting
pub mod Overflow
