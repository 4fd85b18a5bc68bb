pub mod Crashes
pub mod Laws
pub mod Plans
pub mod States
