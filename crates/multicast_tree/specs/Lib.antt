pub mod Copies
pub mod Forest
pub mod Tree
pub mod TreeLaws
pub mod TreeInWords
pub mod FabricCopies
