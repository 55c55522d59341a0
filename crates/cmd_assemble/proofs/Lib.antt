pub mod AssemblyReads
pub mod SourceLemmas
