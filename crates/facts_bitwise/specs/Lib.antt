pub mod BitRows
pub mod BitTables
