pub mod Test
pub mod Flaws
pub mod Laws
