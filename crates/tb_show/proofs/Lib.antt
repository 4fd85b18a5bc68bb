pub mod Forms
pub mod Joins
pub mod Looseness
pub mod Values
