pub mod LimbLemmas
