pub mod Rule
pub mod Box
pub mod Laws
pub mod Before
