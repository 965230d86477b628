pub mod ByteLanes
pub mod Heads
pub mod NextPorts
pub mod Routes
pub mod Searches
pub mod Slopes
pub mod Spans
pub mod Walks
