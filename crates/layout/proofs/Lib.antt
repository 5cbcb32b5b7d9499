pub mod LockBits
pub mod Masks
pub mod Places
