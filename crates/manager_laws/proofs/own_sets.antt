pub mod AgentTakes
pub mod Rooms
pub mod Counted
pub mod KnownTables
pub mod Taken
pub mod Unfailed
pub mod Answered
pub mod InTime
