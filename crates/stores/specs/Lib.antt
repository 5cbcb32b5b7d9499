pub mod Words
pub mod Parts
pub mod Registers
pub mod Homes
