pub mod Laws
mod Answers
