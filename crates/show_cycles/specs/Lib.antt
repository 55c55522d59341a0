pub mod CycleLines
pub mod NextLine
