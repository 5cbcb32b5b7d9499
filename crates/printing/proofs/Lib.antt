pub mod Laying
pub mod Lengths
pub mod Printed
mod Texts
