pub mod RangeRows
pub mod MemoryLimbs
pub mod KernelRows
pub mod Beside
pub mod Rounds
