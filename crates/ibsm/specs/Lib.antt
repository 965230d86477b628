pub mod Ending
pub mod GoneWords
pub mod Opening
