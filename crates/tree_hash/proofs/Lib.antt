pub mod NodeLemmas
pub mod PlaceLemmas
