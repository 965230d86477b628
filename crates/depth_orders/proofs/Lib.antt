pub mod Neighbors
pub mod Flags
