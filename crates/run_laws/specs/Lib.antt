pub mod Accounts
pub mod Deciders
pub mod Lines
pub mod OneManager
pub mod Reached
pub mod Repeats
