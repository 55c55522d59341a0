pub mod Settings
pub mod Pieces
pub mod Answers
pub mod Counting
pub mod Refusals
pub mod RowCounts
pub mod FaultRows
