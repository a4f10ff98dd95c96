pub mod Sweep
pub mod Feed
pub mod Event
pub mod Laws
pub mod Numbers
