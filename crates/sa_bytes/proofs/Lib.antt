pub mod ReadBack
pub mod Records
