pub mod Fronts
pub mod Nests
pub mod Reading
pub mod Rules
pub mod Symbols
