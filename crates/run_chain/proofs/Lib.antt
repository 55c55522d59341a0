pub mod FollowLemmas
pub mod NameLemmas
pub mod ListLemmas
pub mod TextLemmas
pub mod ChainLemmas
