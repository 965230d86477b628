pub mod CommandLine
pub mod WayWord
pub mod WellFormed
pub mod Words
