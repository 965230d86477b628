pub mod Budget
pub mod Memory
pub mod Prints
pub mod Reading
pub mod Source
pub mod Writes
