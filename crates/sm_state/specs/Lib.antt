pub mod Conduct
pub mod Control
pub mod Election
pub mod Precedence
pub mod Standing
pub mod StateLaws
pub mod State
pub mod Transitions
