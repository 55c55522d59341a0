pub mod Libraries
pub mod Lists
pub mod Outcomes
pub mod Table
