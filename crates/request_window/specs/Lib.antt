pub mod Calls
pub mod Coded
pub mod Window
pub mod WindowLaws
