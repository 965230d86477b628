pub mod Ranks
pub mod RankLaws
pub mod RouteLaws
pub mod Channels
pub mod Updown
pub mod Order
pub mod Positions
pub mod Ports
