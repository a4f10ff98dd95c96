pub mod Ran
pub mod Run
pub mod Numbers
pub mod Column
pub mod Lag
pub mod Window
pub mod Trace
pub mod Laws
