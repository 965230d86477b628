pub mod InStep
pub mod LoopLids
pub mod Taken
