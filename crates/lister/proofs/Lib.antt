pub mod Laws
mod Judging
mod Lengths
mod Joined
mod Kept
mod Listed
mod Putting
mod Summaries
mod Built
mod Writing
