pub mod Laws
mod Flags
mod Answers
