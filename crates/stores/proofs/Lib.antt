pub mod Parts
pub mod Registers
