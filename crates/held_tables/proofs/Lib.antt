pub mod Chained
pub mod Gathered
pub mod Lists
pub mod Mapped
pub mod Once
pub mod Owned
pub mod SwitchIndices
pub mod Wired
