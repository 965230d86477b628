pub mod TrialLoads
pub mod ShareLaws
pub mod Starts
pub mod NearTargets
pub mod StartsLaw
pub mod LeastLoaded
