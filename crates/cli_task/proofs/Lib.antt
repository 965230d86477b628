pub mod Guids
pub mod Numbers
pub mod Paces
pub mod RuleTexts
pub mod WellFormed
pub mod Within
pub mod Words
