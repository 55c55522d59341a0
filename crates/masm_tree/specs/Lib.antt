pub mod Causes
pub mod Keywords
pub mod Classify
pub mod Terminals
pub mod Trees
pub mod Views
pub mod Locals
pub mod Forms
