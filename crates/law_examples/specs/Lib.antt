pub mod ByLane
pub mod Computed
pub mod Examples
pub mod Stages
pub mod Weaker
