pub mod Results
pub mod Doors
pub mod Laws
