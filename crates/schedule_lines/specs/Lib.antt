pub mod Lines
pub mod ManagerAsks
pub mod Outcome
pub mod Prints
pub mod Refusals
pub mod Tables
