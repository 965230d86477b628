pub mod Judged
pub mod Missing
pub mod TallyText
