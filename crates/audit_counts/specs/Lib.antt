pub mod CauseCounts
pub mod DisputedFacts
pub mod FirstFew
pub mod PacketTally
pub mod Packets
pub mod Pairs
pub mod Site
pub mod Unmatched
pub mod Gaps
pub mod InOrder
pub mod NamedPorts
pub use Rattle.audit_ways.specs.ChannelList
pub use Rattle.audit_ways.specs.Figures
pub use Rattle.audit_ways.specs.PacketWay
pub use Rattle.audit_ways.specs.Ways
pub use Rattle.audit_ways.specs.declared.channel_list.LoadedChannel
pub use Rattle.audit_ways.specs.declared.mean.Figures as FiguresType
pub use Rattle.audit_ways.specs.declared.packet_way.PacketWay as PacketWayType
pub use Rattle.audit_ways.specs.declared.way_figures.WayFigures
