pub mod Edits
pub mod Memories
pub mod Views
