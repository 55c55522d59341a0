pub mod Accesses
pub mod AccessRows
pub mod MemoryTables
pub mod TableRows
pub mod Serving
pub mod MainAccesses
