pub mod Judged
pub mod Policy
pub mod PolicyLaws
pub mod Resting
pub mod Swept
