pub mod Limits
pub mod LockWords
pub mod Logs
pub mod Lookups
pub mod SetUps
