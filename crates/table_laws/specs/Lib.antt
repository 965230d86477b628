pub mod AuditLaws
pub mod PlanLaws
pub mod Calls
pub mod StepEnds
pub mod StepLaws
pub mod WholePlans
