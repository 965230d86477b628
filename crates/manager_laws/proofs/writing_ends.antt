pub mod Attributes
pub mod Begun
pub mod Effects
pub mod Ended
pub mod Fits
pub mod Headers
pub mod Lists
pub mod Turns
