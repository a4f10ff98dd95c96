pub mod Laws
mod Numbers
mod Zeros
mod Building
mod Fitting
mod Telling
