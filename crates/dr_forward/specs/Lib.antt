pub mod DirectedStep
pub mod StepLaws
