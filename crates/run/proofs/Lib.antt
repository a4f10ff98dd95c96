pub mod Laws
pub mod Columns
pub mod Lags
mod Moves
mod Lines
mod Passing
pub mod Bytes
mod Whole
mod Written
mod Numbers
mod Running
