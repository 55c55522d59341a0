pub mod Scenes
pub mod Telling
pub mod TraceSteps
