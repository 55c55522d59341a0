pub mod GroupLemmas
pub mod DecoderLemmas
pub mod BoundLemmas
