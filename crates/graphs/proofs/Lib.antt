pub mod Filters
pub mod FirstLemmas
pub mod SortLemmas
pub mod Stuck
pub mod WalkLemmas
