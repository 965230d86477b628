pub mod FirstFault
pub mod TopologyLine
pub mod Indexes
pub mod Printed
pub mod Reading
pub mod ReadingLaws
pub mod TopoFault
pub mod Topology
