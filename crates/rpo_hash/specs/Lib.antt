pub mod Constants
pub mod ParamText
pub mod CauseText
pub mod SpongeState
pub mod States
pub mod Frequencies
