pub mod Named
pub mod Ranked
