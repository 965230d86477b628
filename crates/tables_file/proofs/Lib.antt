pub mod Folds
pub mod LinesPrinted
pub mod Passes
pub mod Printed
pub mod ReadRanges
pub mod TablesText
pub mod WordsPrinted
pub use Rattle.plan_tables.proofs.PlanRanges
