mod Chains
mod FileLaws
mod Going
mod HeadLaws
mod NumberLaws
mod PartBytes
mod PartLaws
mod TraceReading
mod TableLaws
mod TablesByName
pub mod PartReading
pub mod LeftLemmas
pub mod PartTraces
pub mod RowReading
pub mod Versions
pub mod Readers
pub mod Words
