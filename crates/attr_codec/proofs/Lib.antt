pub mod Copies
pub mod PortStates
pub mod Respelled
