mod Chunks
mod Ends
mod Leading
mod Sides
