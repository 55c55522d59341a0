pub mod StackRows
pub mod Acceptance
