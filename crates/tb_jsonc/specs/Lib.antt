pub mod Blanks
pub mod Commas
pub mod Pieces
