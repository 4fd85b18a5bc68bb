pub mod Digests
pub mod Plain
pub mod Infos
pub mod Options
pub mod Outputs
