pub mod Form
pub mod FormApp
pub mod Meaning
pub mod Values
