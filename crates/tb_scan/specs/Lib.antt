pub mod Characters
pub mod Pieces
pub mod Numbers
pub mod Marks
pub mod Tokens
pub mod Laws
