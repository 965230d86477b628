pub mod Agreement
pub mod Growth
pub mod LabelLaws
pub mod Labels
pub mod Trees
pub mod TwoOrders
