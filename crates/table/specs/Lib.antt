pub mod Test
pub mod Refusals
pub mod Bytes
pub mod First
pub mod Tests
pub mod Laws
pub mod Numbers
