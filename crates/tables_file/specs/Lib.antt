pub mod PrintedTextIsRead
pub mod Reading
pub mod Reads
pub mod TablesLine
pub mod PrintedTables
pub mod TablesTextFault
pub use Rattle.held_tables.specs.Held
