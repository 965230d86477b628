pub mod Held
pub mod LinesFrom
pub mod Order
pub mod Present
pub mod Printing
pub mod Refused
pub mod Waits
