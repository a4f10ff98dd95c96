pub mod Blocks
pub mod Files
pub mod Unique
mod Laying
pub mod Laws
mod Placing
