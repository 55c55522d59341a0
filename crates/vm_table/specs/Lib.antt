pub mod Layout
pub mod Rows
pub mod MainColumns
pub mod Blocks
