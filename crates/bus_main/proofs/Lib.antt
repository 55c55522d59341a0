pub mod InputLemmas
pub mod KernelLemmas
pub mod LookupLemmas
pub mod StepLemmas
