mod Made
mod Bounds
mod Trace
mod Telling
mod Mending
pub mod Laws
mod Remaking
