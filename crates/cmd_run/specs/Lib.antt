pub mod Courses
pub mod Linking
pub mod Naming
pub mod Saves
