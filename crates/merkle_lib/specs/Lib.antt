pub mod Paths
pub mod Programs
pub mod Walks
