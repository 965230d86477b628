pub mod Moves
pub mod Successors
pub mod WhomToPoll
pub mod Winning
