pub mod Chunks
pub mod Covers
pub mod Fronts
pub mod Globs
pub mod Patterns
pub mod Rows
