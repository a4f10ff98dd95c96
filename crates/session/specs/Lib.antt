pub mod Sets
pub mod Session
pub mod Open
pub mod Laws
pub mod Numbers
