pub mod Acting
pub mod ActingLaws
pub mod Acts
pub mod Administration
pub mod Heard
pub mod Planned
pub mod Reads
pub mod Working
