pub mod RangeColumns
pub mod HasherColumns
pub mod BitwiseColumns
pub mod MemoryColumns
pub mod KernelColumns
pub mod LeftColumns
