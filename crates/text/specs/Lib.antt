pub mod Bytes
pub mod Grammar
pub mod Lines
pub mod Numerals
pub mod Places
pub mod Tokens
pub mod Verdicts
pub mod Views
