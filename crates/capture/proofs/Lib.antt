pub mod Laws
pub mod Judging
mod Records
mod Passing
mod Fields
mod Handing
mod Imports
mod Importing
mod Alike
mod Settled
