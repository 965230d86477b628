pub mod ByLane
pub mod Changed
pub mod Computed
pub mod Detour
pub mod Stages
pub mod Travelled
pub mod Weaker
