pub mod DepthOrder
pub mod KeyedGraph
