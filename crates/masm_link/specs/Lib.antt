pub mod Assembling
pub mod Causes
pub mod Laws
pub mod Libraries
pub mod LibraryLaws
pub mod Measures
pub mod Programs
pub mod Refusals
