pub mod Dispatches
pub mod Measures
pub mod Rows
pub mod SizeLaws
pub mod Sized
pub mod Sizing
