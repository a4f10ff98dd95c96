pub mod Descriptors
pub mod Inputs
pub mod Laws
