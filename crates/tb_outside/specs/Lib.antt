pub mod Causes
pub mod Disk
pub mod Keeping
pub mod Laws
pub mod Moments
pub mod Playing
pub mod Told
