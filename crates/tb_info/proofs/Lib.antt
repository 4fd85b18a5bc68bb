pub mod Spelled
pub mod Rows
pub mod Ascending
pub mod Again
mod Example
