pub mod Folders
pub mod Images
pub mod Logs
pub mod Maps
pub mod Stops
