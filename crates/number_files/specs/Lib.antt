pub mod Grammar
pub mod Causes
pub mod Hashing
pub mod Reads
