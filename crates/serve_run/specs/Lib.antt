pub mod Decided
pub mod Kept
pub mod Lives
pub mod Seat
pub mod Served
pub mod Server
pub use Rattle.acting_manager.specs.Acting
pub use Rattle.acting_manager.specs.Working
pub use Rattle.acting_manager.specs.declared.acting_manager.ActingManager as ActingManagerType
