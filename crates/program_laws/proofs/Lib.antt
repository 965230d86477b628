pub mod alone
pub mod serve
pub mod lasting
pub mod light
pub mod managed
pub mod wakes
pub mod live_steps
