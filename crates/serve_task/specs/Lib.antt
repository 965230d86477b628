pub mod RunServe
pub mod Seating
