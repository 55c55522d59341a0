pub mod Tokens
pub mod Lexer
pub mod Order
