pub mod Verdict
pub mod Limits
pub mod Verdicts
pub mod Refusals
pub mod File
pub mod Reading
pub mod Laws
pub mod Before
