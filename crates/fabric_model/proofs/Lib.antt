pub mod Cabled
pub mod DirectedWalks
pub mod FabricWalks
pub mod Forwarded
pub mod NodeCourses
