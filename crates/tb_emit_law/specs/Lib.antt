pub mod Determined
pub mod DtsLaw
pub mod Law
