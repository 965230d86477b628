pub mod Asked
pub mod Bounds
pub mod Here
pub mod Nodes
