pub mod Walking
pub mod Known
