pub mod Causes
pub mod Lists
pub mod Names
pub mod ListText
pub mod Reads
pub mod Following
pub mod Chains
