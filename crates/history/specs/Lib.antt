pub mod Faults
pub mod Law
pub mod Record
pub mod Runs
pub mod Serial
pub mod Turns
