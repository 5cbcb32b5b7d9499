pub mod Engines
pub mod Faults
pub mod Forms
pub mod Heads
pub mod Items
pub mod Names
pub mod Numbers
pub mod Views
