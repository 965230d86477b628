pub mod ChannelOrders
pub mod ChannelSet
pub mod Column
pub mod CycleText
pub mod Fabrics
pub mod Numbers
pub mod ShortestCycle
pub mod Waiting
