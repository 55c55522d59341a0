pub mod Values
pub mod Causes
pub mod ToJson
pub mod Inputs
pub mod InputsJson
pub mod Statements
pub mod StatementJson
pub mod EvidenceText
