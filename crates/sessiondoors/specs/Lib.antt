pub mod Layout
pub mod Doors
pub mod Laws
