pub mod Carried
pub mod Folds
pub mod KeySearch
pub mod WellFormed
