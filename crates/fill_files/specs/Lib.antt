pub mod RunFiles
pub mod Inside
