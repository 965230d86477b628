pub mod LidsInLoop
pub mod StepOrder
