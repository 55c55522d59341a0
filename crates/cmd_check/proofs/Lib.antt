pub mod ChainLemmas
pub mod CheckLemmas
pub mod SourceSize
pub mod SourcingLemmas
pub mod SourcingReads
pub mod WalkLemmas
pub mod Words
