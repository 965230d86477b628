pub mod InputNames
pub mod Laws
pub mod OptionValues
pub mod Task
