pub mod LinesFault
pub mod NodeName
pub mod NodePorts
pub mod Numbers
pub mod Printed
pub mod Quoted
pub mod Text
