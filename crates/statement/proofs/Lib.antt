pub mod TargetLemmas
pub mod Steps
pub mod Written
pub mod InputsText
pub mod Distinct
pub mod StatementText
