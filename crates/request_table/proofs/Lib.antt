pub mod Indices
pub mod Numbers
