pub mod Blocks
pub mod Flattening
pub mod Lists
pub mod Views
pub mod KnownLists
pub mod Taking
