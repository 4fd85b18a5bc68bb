mod Readings
mod Steps
