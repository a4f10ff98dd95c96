pub mod Answer
pub mod Writing
pub mod Layout
pub mod Refusals
pub mod Laws
