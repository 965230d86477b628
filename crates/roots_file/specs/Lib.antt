pub mod Line
pub mod Reading
pub mod Seen
pub mod RootsTextFault
