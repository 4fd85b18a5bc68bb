pub mod Lacks
pub mod Literals
pub mod Names
