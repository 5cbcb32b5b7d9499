pub mod Events
pub mod Policies
pub mod Ranks
