pub mod Agreement
pub mod GrownOrders
pub mod LabelLaws
pub mod Reached
pub mod Rounds
pub mod TreeEdges
pub mod TreeLabels
