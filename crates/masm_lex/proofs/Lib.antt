pub mod Places
pub mod Lexing
pub mod Parts
pub mod Ascending
