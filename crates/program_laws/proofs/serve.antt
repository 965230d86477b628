pub mod Alike
pub mod Behind
pub mod Framed
pub mod LiveExample
pub mod LivePinged
pub mod Lived
pub mod Managed
pub mod Said
