pub mod Commands
pub mod FoundWords
pub mod Reading
pub mod Walked
pub mod Entered
pub mod WellFormed
