pub mod FirstFault
pub mod Lines
pub mod NameBytes
pub mod Printed
pub mod Scripts
pub mod Serials
