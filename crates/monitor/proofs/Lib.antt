pub mod Laws
pub mod Entries
mod Bridge
mod Moves
mod Words
mod Steps
mod Lines
mod Feeding
mod Sessions
mod Numbers
