pub mod Causes
pub mod Fields
pub mod Files
pub mod Left
pub mod Reading
