pub mod CellForms
pub mod Keys
