pub mod Judged
pub mod Judging
pub mod Listing
pub mod Putting
pub mod Laws
