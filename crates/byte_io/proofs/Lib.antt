pub mod Bytes
pub mod Readings
pub mod Writing
