pub mod Folds
pub mod Guids
