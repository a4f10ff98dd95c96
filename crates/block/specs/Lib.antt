pub mod Limits
pub mod Block
pub mod Laws
