pub mod Listing
pub mod Pages
pub mod Iter
pub mod Split
pub mod Starts
