pub mod ChannelList
pub mod Figures
pub mod PacketWay
pub mod SenderGroups
pub mod WayTally
pub mod Ways
