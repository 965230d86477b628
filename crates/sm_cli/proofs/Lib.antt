pub mod AnswerLaws
pub mod FileLaws
pub mod HandedOn
pub mod InParts
pub mod OrderTexts
pub mod Plans
pub mod Runs
