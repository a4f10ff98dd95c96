pub mod Listed
pub mod Entries
pub mod Became
pub mod Laws
