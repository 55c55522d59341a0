pub mod Packs
pub mod Sound
