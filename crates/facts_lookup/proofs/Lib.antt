pub mod KernelLaw
pub mod RangeLaw
