pub mod Forms
pub mod Laid
pub mod Pages
