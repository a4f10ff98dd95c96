pub mod Blocks
pub mod Passing
pub mod Laws
