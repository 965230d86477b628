pub mod Administering
pub mod Called
pub mod Collecting
pub mod Dropped
pub mod Reached
pub mod Repeating
