pub mod ReadLemmas
pub mod PackLemmas
pub mod PlaceLemmas
pub mod NoopLemmas
pub mod RoundTripLemmas
pub mod BatchLemmas
pub mod OrdinaryLemmas
pub mod PackedLemmas
