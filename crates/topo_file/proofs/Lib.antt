pub mod FirstFault
pub mod Folds
pub mod Grammar
pub mod Guids
pub mod Indexes
pub mod Ordered
pub mod Printed
pub mod WellFormed
