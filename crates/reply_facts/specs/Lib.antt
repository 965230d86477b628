pub mod CellForm
pub mod Key
pub mod Known
pub mod Report
pub mod ReportFault
pub mod Sighting
pub mod Value
pub mod Values
