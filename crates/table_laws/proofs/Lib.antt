pub mod audits
pub mod plan_orders
pub mod step_ends
