pub mod Remaking
pub mod Mending
pub mod Laws
