pub mod CutLemmas
pub mod SceneLemmas
pub mod TellLemmas
pub mod TraceEnds
pub mod TraceReads
