pub mod ManageLine
pub mod Read
pub mod ServeLine
