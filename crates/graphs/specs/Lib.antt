pub mod Graph
pub mod Orders
pub mod Sorting
pub mod Walks
