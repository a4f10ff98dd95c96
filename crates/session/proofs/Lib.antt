pub mod Laws
pub mod Padded
pub mod Openings
pub mod Numbers
mod Found
mod Clauses
mod Passes
mod Begun
