pub mod AcceptedLemmas
pub mod FileLemmas
pub mod RunLemmas
pub mod TextLemmas
