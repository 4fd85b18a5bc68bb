pub mod Compact
pub mod OptionsText
pub mod Endings
pub mod Stems
