pub mod Flawless
pub mod Judged
pub mod Leveled
pub mod NoneMissing
pub mod Rows
