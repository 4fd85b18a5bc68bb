mod Columns
mod Finite
pub mod Inside
pub mod Order
mod Printed
pub mod Segments
mod Walks
