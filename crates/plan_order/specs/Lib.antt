pub mod PlanOrder
