pub mod Asking
pub mod Forms
