pub mod NamedPositions
pub mod PlanRight
pub mod UpdownRight
pub mod PlanOrders
pub mod PlansCover
pub mod PlanSteps
