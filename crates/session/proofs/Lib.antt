mod Columns
mod Lengths
mod Openings
mod SetUps
mod Stores
mod Texts
mod Underway
