pub mod Checks
pub mod First
pub mod Laws
mod Bytes
mod Symbols
mod Reading
mod Rows
mod Passing
mod Traces
pub mod Numbers
