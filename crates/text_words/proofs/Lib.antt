pub mod BareGuids
pub mod Digits
pub mod Names
pub mod NumbersPrinted
pub mod Printed
pub mod Ranges
pub mod Splits
pub mod Words
