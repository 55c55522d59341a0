pub mod Statements
pub mod Settling
pub mod Fitting
pub mod Honesty
