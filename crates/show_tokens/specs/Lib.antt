pub mod Foreign
pub mod Forms
pub mod Numbers
pub mod OtherNames
pub mod Parts
pub mod Paths
pub mod Unnamed
pub mod Words
