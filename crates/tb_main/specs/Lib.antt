pub mod Complaints
pub mod Errors
pub mod Folders
pub mod Noted
