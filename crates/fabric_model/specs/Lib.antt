pub mod Cables
pub mod DirectedWalk
pub mod Fabric
pub mod FabricLaws
pub mod FabricWalks
pub mod Forwarding
