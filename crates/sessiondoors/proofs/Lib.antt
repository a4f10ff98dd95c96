pub mod Laws
mod Layouts
mod Flags
mod Answers
mod Lies
mod Kept
mod After
mod Unique
mod Short
