mod Unique
mod Sorted
mod Cycles
mod Steps
