pub mod PermRows
pub mod HashTables
pub mod HashMeaning
