pub mod Blanks
pub mod Moved
pub mod MovedLists
pub mod WhyLemmas
