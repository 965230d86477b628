pub mod Delivers
pub mod Known
pub mod PlansArrive
pub mod PlansRise
