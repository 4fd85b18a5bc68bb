pub mod Lists
pub mod Loose
pub mod Steps
