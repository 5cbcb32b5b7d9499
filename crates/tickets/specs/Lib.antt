pub mod Claims
pub mod Drains
pub mod Given
pub mod Hands
