pub mod Fabrics
pub mod FarPorts
pub mod LaneLaws
pub mod LidWaits
pub mod Senders
pub mod Visits
pub mod Walks
