mod Drains
mod Underway
