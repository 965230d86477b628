pub mod Calls
pub mod Going
pub mod Indices
pub mod Kept
pub mod Seats
pub mod Taken
pub mod Turns
