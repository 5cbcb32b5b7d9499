pub mod Checks
pub mod Idles
pub mod Keeps
pub mod Logs
pub mod Sweeps
pub mod Tables
