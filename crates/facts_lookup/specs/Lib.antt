pub mod KernelTables
pub mod RangeTables
