pub mod Arriving
pub mod Between
pub mod OwnSets
pub mod Scenes
pub mod StepPlan
